use Rattle.std.specs.Prelude.{◌≡◌, ◌+◌}
use Rattle.checked.specs.Checked.{due, answered}
use Rattle.checked.specs.Loops.{fold_c}
use Rattle.checked.specs.Numbers.{zero}
use Rattle.checked.specs.Told.{told}
use Rattle.piece_curves.specs.declared.PieceCurve.{PieceCurve}
use Rattle.piece_lengths.specs.Measures.{IsPlace, place_c, longer_c, further_c}
use Rattle.piece_lengths.proofs.measures.traced.Given as goal

-- after k chords: the place reached, and the sums
abbrev pub invariant-loop-k : goal.invariant-loop-k
invariant-loop-k g l =
    (r : PieceCurve) → IsPlace (goal.F-post g l.place) r →
    (due l.before ≡ answered (fold_c (l.k + 1) (λ k p. place_c r k) (place_c r 0).value))
    × (told l.length ≡ answered (fold_c l.k (λ k s. longer_c s (place_c r k).value.p (place_c r (k + 1)).value.p) zero))
    × (told l.turn ≡ answered (fold_c l.k (λ k s. further_c s (place_c r k).value.d (place_c r (k + 1)).value.d) zero))
