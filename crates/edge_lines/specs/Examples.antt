-- Lines, which antt computes.
use Rattle.std.specs.Prelude.{◌≡◌, refl, true, false, pos, negsuc}
use Rattle.std.specs.Float.{fin}
use Rattle.vectors.specs.Vectors.{space}
use Rattle.decimals.specs.Thousandths.{thousandths, signed}
use Rattle.decimals.specs.Digits.{numeral}
use Rattle.edge_lines.specs.Lines.{bytes, spaced, box_line, refused_line}

half_circle : box_line (space (fin true 5 (pos 0)) (fin true 0 (pos 0)) (fin false 0 (pos 0))) (space (fin false 5 (pos 0)) (fin false 5 (pos 0)) (fin false 1 (negsuc 11))) 2 ≡ bytes "box -5000 0 0 5000 5000 0\n"
unfolding box_line bytes spaced thousandths signed numeral
half_circle = refl

-- 2 ^ 20 has too many thousandths
too_large : box_line (space (fin false 0 (pos 0)) (fin false 0 (pos 0)) (fin false 0 (pos 0))) (space (fin false 0 (pos 0)) (fin false 0 (pos 0)) (fin false 1 (pos 20))) 12 ≡ bytes "refused 10 record 12\n"
unfolding box_line bytes spaced thousandths signed numeral refused_line
too_large = refl
