-- Which notes suffice between the ends of a range. Assumes nothing.
use Rattle.std.specs.Prelude.{ℕ, ◌≡◌, Float}
use Rattle.std.proofs.Math.Path.{refl}
use Rattle.std.proofs.Common.{sym, ap, ◌∙◌}
use Rattle.std.specs.Float.{binary64}
use Rattle.std.specs.Float.Ieee.{add, le}
use Rattle.checked.specs.Refusals.{COUNT_TOO_LARGE}
use Rattle.checked.specs.Checked.{Checked, first, given, nine, due, answered}
use Rattle.checked.specs.Laws.{first_zero, rules as checked_rules}
use Rattle.checked.specs.Loops.{while_c}
use Rattle.checked.specs.Numbers.{one}
use Rattle.checked.specs.ToldLaws.{gives}
use Rattle.order.specs.Least.{least, greatest}
use Rattle.rounding.specs.Laws.{rules as rounding_rules}
use Rattle.waves.specs.Values.{v_c}
use Rattle.waves.specs.ValuesLaws.{v_refusal}
use Rattle.waves.specs.declared.Wave.{Wave}
use Rattle.waves.specs.declared.turning_points.Turning.{Turning}
use Rattle.waves.specs.declared.turning_points.RangeSoFar.{RangeSoFar}
use Rattle.waves.specs.TurningPoints.{TURNING_POINTS, turning_c, spot_c, inside_c, taken_c, start_c, turns_c}

pub turning_refusal : (w : Wave) (n hi : Float) → (turning_c w n hi).refusal ≡ first (nine (turning_c w n hi).value.first) (nine (turning_c w n hi).value.half)
unfolding turning_c
turning_refusal w n hi = simp checked_rules

pub start_refusal : (t : Turning) (lo : Float) → (start_c t lo).refusal ≡ nine (start_c t lo).value
unfolding start_c
start_refusal t lo = simp (checked_rules, rounding_rules)

module _ (t : Turning) (s : RangeSoFar) where
  -- whether the next turning point is inside, by where it is
  pub inside_value : (inside_c t s).value ≡ le (spot_c t s.k).value t.hi
  unfolding inside_c
  inside_value = refl

  pub inside_refusal : (inside_c t s).refusal ≡ nine (spot_c t s.k).value
  unfolding inside_c
  inside_refusal = simp checked_rules

  -- a turning point is noted where the wave there is worked out
  pub taken_refusal : (taken_c t s).refusal ≡ first (v_c t.wave.a t.wave.b t.wave.c (spot_c t s.k).value t.n).refusal (nine (add binary64 s.k one))
  unfolding taken_c
  taken_refusal = simp (v_refusal, checked_rules)

  pub taken_value : (taken_c t s).value ≡ (let v = (v_c t.wave.a t.wave.b t.wave.c (spot_c t s.k).value t.n).value in record { k = add binary64 s.k one; low = least s.low v; high = greatest s.high v })
  unfolding taken_c
  taken_value = refl

-- ---- the turning points that remain
abbrev pub rest : Turning → ℕ → RangeSoFar → Checked RangeSoFar
rest t left s = while_c COUNT_TOO_LARGE left (inside_c t) (taken_c t) s

module _ (t : Turning) (k low high : Float) (left : ℕ) (s : RangeSoFar) (same : rest t left s ≡ rest t TURNING_POINTS (record { k = k; low = low; high = high })) where
  pub turns_refuses : (n : ℕ) → (rest t left s).refusal ≡ n → (turns_c t k low high).refusal ≡ n
  unfolding turns_c
  turns_refuses n met = first_zero _ ∙ (ap (λ (w : Checked RangeSoFar). w.refusal) (sym same) ∙ met)

  turns_value : rest t left s ≡ given s → (turns_c t k low high).value ≡ record { low = s.low; high = s.high }
  unfolding turns_c
  turns_value h = ap (λ (w : Checked RangeSoFar). record { low = w.value.low; high = w.value.high }) (sym same ∙ h)

  pub turns_gives : rest t left s ≡ given s → due (record { low = s.low; high = s.high }) ≡ answered (turns_c t k low high)
  turns_gives h = gives _ _ (turns_refuses 0 (ap (λ (w : Checked RangeSoFar). w.refusal) h)) (turns_value h)
