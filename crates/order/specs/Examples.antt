-- Values of the definitions, which antt computes: the zeros' signs, a NaN on either side, and the infinities from which a box starts.
use Rattle.std.specs.Prelude.{◌≡◌, refl, true, false, [], ◌∷◌, pos, Float}
use Rattle.std.specs.Float.{nan, inf, fin}
use Rattle.std.specs.Float.Ieee.{lt, eq}
use Rattle.order.specs.Least.{negative, least, greatest}

-- 0, -0 and 1
zero : Float
zero = fin false 0 (pos 0)

minus_zero : Float
minus_zero = fin true 0 (pos 0)

one : Float
one = fin false 1 (pos 0)

leasts : least zero minus_zero ∷ least minus_zero zero ∷ least nan one ∷ least one nan ∷ least (inf false) one ∷ least one (inf true) ∷ [] ≡ minus_zero ∷ minus_zero ∷ nan ∷ nan ∷ one ∷ inf true ∷ []
unfolding zero minus_zero one negative least lt eq
leasts = refl

greatests : greatest zero minus_zero ∷ greatest minus_zero zero ∷ greatest nan one ∷ greatest one nan ∷ greatest (inf true) one ∷ greatest one (inf false) ∷ [] ≡ zero ∷ zero ∷ nan ∷ nan ∷ one ∷ inf false ∷ []
unfolding zero minus_zero one negative greatest lt eq
greatests = refl
