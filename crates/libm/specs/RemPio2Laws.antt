-- How large an angle within 1,048,576 is: in quarter turns, and by its high word. Assumes nothing.
use Rattle.std.specs.Prelude.{false, ◌≤◌, pos, T, Float}
use Rattle.std.specs.Float.{fin, binary64}
use Rattle.std.specs.Float.Ieee.{add, mul, neg, le, lt, eq, fits, of_bits}
use Rattle.checked.specs.Checked.{is_finite, within}
use Rattle.checked.specs.Laws.{within_finite}
use Rattle.checked.specs.Patterns.{high_word}
use Rattle.float_bits.specs.FloatBits.{fabs, ◌*ᶠ◌}
use Rattle.float_bounds.specs.Intervals.{In}
use Rattle.float_bounds.proofs.Intervals.{upto_in, upto_mul, upto_wider, in_add}
use Rattle.float_bounds.specs.Powers.{pow}
use Rattle.float_bounds.proofs.Powers.{within_pow}
use Rattle.float_bounds.proofs.HighWords.{word_most}
use Rattle.libm.specs.RemPio2.{TO_INT, INV_PIO2, tmp}

-- 1.5 * 2 ^ 52, and at most 2 ^ 20 more or less
pub tmp_range : (x : Float) → T (within x) → In (fin false 6442450943 (pos 20)) (fin false 6442450945 (pos 20)) (tmp x)
unfolding add mul neg le lt eq fabs of_bits is_finite
tmp_range x h =
    in_add (neg (pow 20)) (pow 20) TO_INT TO_INT tt tt tt tt (x *ᶠ INV_PIO2) TO_INT
    (upto_in (pow 20) (x *ᶠ INV_PIO2) (upto_wider (pow 20 *ᶠ INV_PIO2) (pow 20) (x *ᶠ INV_PIO2) tt (upto_mul binary64 (pow 20) INV_PIO2 tt tt x INV_PIO2 (within_pow x h) tt)))
    (tt, tt)

-- rem_pio2's case of large angles is for a high word of 0x413921fb and more, its sign apart: it is
-- never due
pub never_large : (x : Float) → T (fits binary64 x) → T (within x) → high_word x ≤ 0x41300000
unfolding lt of_bits
never_large x F h = word_most x 0x41300000 F (within_finite x h) tt (within_pow x h)
