-- Laws of a meet's box: the steps of its loops, and the row that holds the samples. Assumes nothing.
use Rattle.std.specs.Prelude.{ℕ, ◌+◌, ◌<◌, ◌≡◌, refl, true, false, List, length, set, Float}
use Rattle.std.proofs.Common.{◌∙◌, arith, below_more, get_or-set_same, get_or-set_other}
use Rattle.std.specs.Float.{binary64}
use Rattle.std.specs.Float.Ieee.{div}
use Rattle.checked.specs.Checked.{Checked, first, nine}
use Rattle.checked.specs.Laws.{rules as checked_rules}
use Rattle.checked.specs.Numbers.{float}
use Rattle.vectors.specs.declared.Vec2.{Vec2}
use Rattle.vectors.specs.Vectors.{plane}
use Rattle.piece_curves.specs.declared.meet_curves.MeetCurve.{MeetCurve}
use Rattle.piece_curves.specs.MeetCurves.{slope_u_c, slope_v_c}
use Rattle.piece_boxes.specs.declared.brackets.FlatBox.{FlatBox}
use Rattle.piece_boxes.specs.MeetBoxes.{sample_c, end_c, step_c, span_c}
use Rattle.piece_boxes.specs.SampleRows.{Stored}
use Rattle.piece_boxes.specs.Brackets.{intervals, bracket_c}

pub ruleset rules = (checked_rules)

-- a sample by the derivatives of u and of v at its place
abbrev pub place_at : ℕ → Float
place_at k = div binary64 (float k) intervals

pub sample_refusal : (c : MeetCurve) (k : ℕ) → (sample_c c k).refusal ≡ first (nine (place_at k)) (first (slope_u_c c (place_at k)).refusal (slope_v_c c (place_at k)).refusal)
unfolding sample_c
sample_refusal c k = simp rules

pub sample_value : (c : MeetCurve) (k : ℕ) → (sample_c c k).value ≡ plane (slope_u_c c (place_at k)).value (slope_v_c c (place_at k)).value
unfolding sample_c
sample_value c k = refl

-- a row that holds no sample, and one that holds one more
pub stored_none : (c : MeetCurve) (slopes : List Vec2) → Stored c 0 slopes
stored_none c slopes = record { held = λ j l. absurd (omega arith) }

pub stored_more : (c : MeetCurve) (k : ℕ) (slopes : List Vec2) → k < length slopes → Stored c k slopes → Stored c (k + 1) (set slopes k (sample_c c k).value)
stored_more c k slopes h s = record {
  held = below_more _ k (λ j l. get_or-set_other slopes k j _ _ (λ e. omega arith) ∙ s.held j l) (get_or-set_same slopes k _ _ h);
}

-- a step's refusal, and what it reaches
pub step_refusal : (c : MeetCurve) (k : ℕ) (b : FlatBox) → (step_c c k b).refusal ≡ first (sample_c c k).refusal (end_c c k b).refusal
unfolding step_c
step_refusal c k b = refl

pub step_value : (c : MeetCurve) (k : ℕ) (b : FlatBox) → (step_c c k b).value ≡ (end_c c k b).value
unfolding step_c
step_value c k b = refl

-- between two places
module _ (c : MeetCurve) (k : ℕ) (b : FlatBox) where
  abbrev pub along : Checked FlatBox
  along = bracket_c c false k (sample_c c k).value.x (sample_c c (k + 1)).value.x b

  abbrev pub upright : Checked FlatBox
  upright = bracket_c c true k (sample_c c k).value.y (sample_c c (k + 1)).value.y along.value

  pub span_refusal : (span_c c k b).refusal ≡ first along.refusal upright.refusal
  unfolding span_c
  span_refusal = refl

  pub span_value : (span_c c k b).value ≡ upright.value
  unfolding span_c
  span_value = refl
