-- Developments as arrays of numbers.
use Rattle.std.specs.Prelude.{ℕ, ◌+◌, List, [], ◌∷◌, get_or, Float}
use Rattle.std.specs.Float.{nan}
use Rattle.developments.specs.declared.formulas.Unrolled.{Unrolled}
use Rattle.developments.specs.declared.Development.{Development}
use Rattle.c_arrays.specs.Records.{vec3_at}

-- from place k on: origin, axis, start, neutral radius
abbrev pub development_at : List Float → ℕ → Development
development_at l k = record { origin = vec3_at l k; axis = vec3_at l (k + 3); start = vec3_at l (k + 6); neutral = get_or l (k + 9) nan }

abbrev pub development : List Float → Development
development l = development_at l 0

-- the same numbers in the same order
abbrev pub of_development : Development → List Float
of_development d =
    d.origin.x ∷ d.origin.y ∷ d.origin.z ∷ d.axis.x ∷ d.axis.y ∷ d.axis.z ∷ d.start.x ∷ d.start.y ∷ d.start.z ∷ d.neutral ∷ []

-- u, v, the distance from the axis
abbrev pub of_unrolled : Unrolled → List Float
of_unrolled q = q.p.x ∷ q.p.y ∷ q.r ∷ []
