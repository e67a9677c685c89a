-- Which notes of a wave's values suffice. Assumes nothing.
use Rattle.std.specs.Prelude.{◌≡◌, Float}
use Rattle.std.specs.Float.Ieee.{binary64, add, mul, div, neg}
use Rattle.checked.specs.Checked.{first, nine}
use Rattle.checked.specs.Laws.{swap, rules as checked_rules}
use Rattle.libm.specs.Sincos.{sincos_c, sines_or_zeros}
use Rattle.waves.specs.Values.{v_c, slope_c, bend_c, with_slope_c, derivatives_c}

-- −(b·cos + c·sin): it is finite where its quotient is, which is noted after the divisor n·n
abbrev dividend : Float → Float → Float → Float → Float
dividend b c u n =
    let t = sines_or_zeros (div binary64 u n) in
    neg (add binary64 (mul binary64 b t.cos) (mul binary64 c t.sin))

module _ (a b c u n : Float) where
  pub v_refusal : (v_c a b c u n).refusal ≡ first (sincos_c (div binary64 u n)).refusal (nine (v_c a b c u n).value)
  unfolding v_c
  v_refusal = simp checked_rules

  pub with_slope_refusal : (with_slope_c a b c u n).refusal ≡ first (sincos_c (div binary64 u n)).refusal (first (nine (with_slope_c a b c u n).value.v) (nine (with_slope_c a b c u n).value.slope))
  unfolding with_slope_c
  with_slope_refusal = simp checked_rules

  pub jet_refusal : (derivatives_c a b c u n).refusal ≡ first (sincos_c (div binary64 u n)).refusal (first (nine (derivatives_c a b c u n).value.v) (first (nine (derivatives_c a b c u n).value.slope) (first (nine (mul binary64 n n)) (nine (derivatives_c a b c u n).value.bend))))
  unfolding derivatives_c
  jet_refusal = simp (swap (dividend b c u n) (mul binary64 n n), checked_rules)

module _ (b c u n : Float) where
  pub slope_refusal : (slope_c b c u n).refusal ≡ first (sincos_c (div binary64 u n)).refusal (nine (slope_c b c u n).value)
  unfolding slope_c
  slope_refusal = simp checked_rules

  pub bend_refusal : (bend_c b c u n).refusal ≡ first (sincos_c (div binary64 u n)).refusal (first (nine (mul binary64 n n)) (nine (bend_c b c u n).value))
  unfolding bend_c
  bend_refusal = simp (swap (dividend b c u n) (mul binary64 n n), checked_rules)
