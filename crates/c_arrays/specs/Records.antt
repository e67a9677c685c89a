-- How records and answers pass to a caller in another language: as arrays of numbers.
use Rattle.std.specs.Prelude.{ℕ, suc, ◌+◌, Bool, true, false, cond, Option, Some, None, List, [], ◌∷◌, get_or, set, Float}
use Rattle.std.specs.Float.{nan}
use Rattle.checked.specs.Checked.{Due, due, refused}
use Rattle.libm.specs.declared.sincos.Sines.{Sines}
use Rattle.vectors.specs.declared.Vec2.{Vec2}
use Rattle.vectors.specs.declared.Vec3.{Vec3}

-- ---- records from arrays
-- the vectors whose numbers stand from place k on
abbrev pub vec2_at : List Float → ℕ → Vec2
vec2_at l k = record { x = get_or l k nan; y = get_or l (k + 1) nan }

abbrev pub vec3_at : List Float → ℕ → Vec3
vec3_at l k = record { x = get_or l k nan; y = get_or l (k + 1) nan; z = get_or l (k + 2) nan }

abbrev pub vec2 : List Float → Vec2
vec2 l = vec2_at l 0

abbrev pub vec3 : List Float → Vec3
vec3 l = vec3_at l 0

-- ---- records as numbers, in their order
-- one number, or one count
abbrev pub alone : {A : Type 0} → A → List A
alone x = x ∷ []

abbrev pub of_vec2 : Vec2 → List Float
of_vec2 v = v.x ∷ v.y ∷ []

abbrev pub of_vec3 : Vec3 → List Float
of_vec3 v = v.x ∷ v.y ∷ v.z ∷ []

abbrev pub of_sines : Sines → List Float
of_sines a = a.sin ∷ a.cos ∷ []

-- ---- answers
-- the array with a list of numbers from its place k on
unfoldable pub over : {A : Type 0} → List A → ℕ → List A → List A
over l k [] = l
over l k (x ∷ xs) = over (set l k x) (suc k) xs

-- a record's numbers from an array's start on
abbrev pub written : {A B : Type 0} → (A → List B) → List B → A → List B
written numbers l a = over l 0 (numbers a)

-- what an array holds after the call: the result put over what it held, or what it held before
unfoldable pub stored : {A B : Type 0} → (List B → A → List B) → List B → Due A → List B
stored put l (due a) = put l a
stored put l (refused n) = l

-- the same where the result's numbers stand from the array's start on
abbrev pub after : {A B : Type 0} → (A → List B) → List B → Due A → List B
after numbers = stored (written numbers)

-- the answer to a tag that nobody knows, which is tried before everything else, and the answer where there is no result to
-- give; neither is a refusal
abbrev pub UNKNOWN_TAG : ℕ
UNKNOWN_TAG = 254

abbrev pub NONE : ℕ
NONE = 255

-- what is due by a tag
abbrev pub tag_due : {A : Type 0} → Bool → Due A → Due A
tag_due known d = cond known d (refused UNKNOWN_TAG)

-- a record by its tags, where these are known
unfoldable pub known : {A : Type 0} → Bool → A → Option A
known true a = Some a
known false a = None
