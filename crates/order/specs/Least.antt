-- The least and the greatest of two floats: of two zeros of unlike sign −0 is the least and +0 the greatest, and a NaN is never passed over.
use Rattle.std.specs.Prelude.{Bool, false, cond, Float}
use Rattle.std.specs.Float.{nan, inf, fin}
use Rattle.std.specs.Float.Ieee.{lt, eq}

-- whether a minus sign stands before it
unfoldable pub negative : Float → Bool
negative nan = false
negative (inf s) = s
negative (fin s m e) = s

-- of two that are equal: only zeros can be equal and of unlike sign
abbrev pub lower : Float → Float → Float
lower a b = cond (negative a) a b

abbrev pub upper : Float → Float → Float
upper a b = cond (negative a) b a

-- where none of the three comparisons holds one of the two is a NaN
unfoldable pub least : Float → Float → Float
least a b = cond (lt a b) a (cond (lt b a) b (cond (eq a b) (lower a b) nan))

unfoldable pub greatest : Float → Float → Float
greatest a b = cond (lt a b) b (cond (lt b a) a (cond (eq a b) (upper a b) nan))
