-- Which notes suffice of a count. Assumes nothing.
use Rattle.std.specs.Prelude.{ℕ, ◌≡◌, refl, Float}
use Rattle.std.specs.Float.{binary64}
use Rattle.std.specs.Float.Ieee.{mul, div}
use Rattle.checked.specs.Checked.{first, nine}
use Rattle.checked.specs.Laws.{rules as checked_rules}
use Rattle.rounding.specs.Laws.{rules as rounding_rules}
use Rattle.checked.specs.Numbers.{float, one, two, tau}
use Rattle.rounding.specs.Root.{sqrt}
use Rattle.chord_counts.specs.Counts.{MOST, count_c}
use Rattle.chord_counts.specs.Chords.{per_turn_c}
use Rattle.libm.specs.Roots.{hypot}
use Rattle.libm.specs.Computations.{hypot_c}
use Rattle.order.specs.Least.{greatest}
use Rattle.piece_curves.specs.declared.meet_curves.MeetCurve.{MeetCurve}
use Rattle.piece_curves.specs.declared.PieceCurve.{PieceCurve}
use Rattle.piece_lengths.specs.SecondDerivatives.{meet_c}
use Rattle.piece_lengths.specs.Counts.{EIGHT, samples, own_turn_c, chords_c, steep_c, off_c, sample_c, bend_c, meet_line_c}
use Rattle.piece_lengths.specs.Measures.{measure_c}

pub steep_nine : (du amp n : Float) → (steep_c du amp n).refusal ≡ nine (steep_c du amp n).value
unfolding steep_c
steep_nine du amp n = simp (checked_rules, rounding_rules)

-- the two divisors, the first quotient between them, and the end
pub off_refusal : (length amp n deviation : Float) → (off_c length amp n deviation).refusal ≡ first (nine (mul binary64 n n)) (first (nine (div binary64 amp (mul binary64 n n))) (first (nine (mul binary64 EIGHT deviation)) (nine (off_c length amp n deviation).value)))
unfolding off_c
off_refusal length amp n deviation = simp (checked_rules, rounding_rules)

-- the greater of both ways
pub chords_refusal : (r : PieceCurve) (radius chord : Float) →
    let m = measure_c r in
    let x = div binary64 m.value.turn tau in
    let p = own_turn_c r.way m.value.radius chord in
    let y = div binary64 (div binary64 m.value.length r.ends.neutral) tau in
    let q = per_turn_c radius chord in
    let own = mul binary64 x p.value in
    let bend = mul binary64 y q.value in
    (chords_c r radius chord).refusal ≡ first m.refusal (first (nine x) (first p.refusal (first (nine own) (first (nine y) (first q.refusal (first (nine bend) (count_c (greatest own bend) one MOST).refusal))))))
unfolding chords_c
chords_refusal r radius chord = simp checked_rules

pub meet_line_refusal : (c : MeetCurve) (deviation : Float) →
    let off = mul binary64 EIGHT deviation in
    let q = sqrt binary64 (div binary64 (bend_c c).value off) in
    (meet_line_c c deviation).refusal ≡ first (bend_c c).refusal (first (nine off) (first (nine q) (count_c q two MOST).refusal))
unfolding meet_line_c
meet_line_refusal c deviation = simp (checked_rules, rounding_rules)

pub ruleset rules = (rounding_rules, hypot_c, steep_nine)

-- a sample by the second derivative there
abbrev pub place_at : ℕ → Float
place_at k = div binary64 (float k) samples

abbrev pub bend_at : MeetCurve → ℕ → Float
bend_at c k = hypot (meet_c c (place_at k)).value.x (meet_c c (place_at k)).value.y

pub sample_refusal : (c : MeetCurve) (k : ℕ) (a : Float) → (sample_c c k a).refusal ≡ first (nine (place_at k)) (first (meet_c c (place_at k)).refusal (nine (bend_at c k)))
unfolding sample_c
sample_refusal c k a = simp checked_rules

pub sample_value : (c : MeetCurve) (k : ℕ) (a : Float) → (sample_c c k a).value ≡ greatest a (bend_at c k)
unfolding sample_c
sample_value c k a = refl
