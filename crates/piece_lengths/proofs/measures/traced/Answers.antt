use Rattle.std.specs.Prelude.{Err}
use Rattle.std.proofs.Common.{◌∙◌, ◌≡◌, ◌+◌, arith, sym}
use Rattle.checked.specs.LoopsLaws.{fold_value, fold_start, fold_goes, fold_stops, fold_then}
use Rattle.checked.specs.ToldLaws.{stops, gives, none_met, value_is, met_is, rules as told_rules}
use Rattle.piece_lengths.specs.Measures.{place_c, places_c, length_c, turned_c, traced_c}
use Rattle.piece_lengths.proofs.measures.traced.Goals as goal

pub returns-in_err-before : goal.returns-in_err-before
unfolding traced_c places_c
returns-in_err-before g c r h =
    let p = fold_stops (λ k p. place_c r k) (place_c r 0).value c.in_err-before.field-0.0 0 33 (place_c r 0).value (omega arith) (fold_start _ _) (h 0 _ (omega arith) c.in_err-before.ensures) in
    stops _ _ _ c.from_residual.ensures (simp (met_is _ _ p, told_rules))

pub loop-k-init : goal.loop-k-init
loop-k-init g c r h = (fold_goes (λ k p. place_c r k) (place_c r 0).value 0 (place_c r 0).value _ (fold_start _ _) (h 0 _ (omega arith) c.in_ok-before.ensures), fold_start _ _, fold_start _ _)

pub returns-in_err-after : goal.returns-in_err-after
unfolding traced_c places_c
returns-in_err-after g c r h =
    let k = c.loop-k.k in
    let so_far = (c.loop-k.invariant r h).0 in
    let p = fold_stops (λ k p. place_c r k) (place_c r 0).value c.in_err-after.field-0.0 (k + 1) 33 c.loop-k.before (omega (arith, c.loop-k-test.true)) so_far (h (k + 1) (Err c.in_err-after.field-0.0) (omega (arith, c.loop-k-test.true)) c.in_err-after.ensures) in
    stops _ _ _ c.from_residual-in_err-after.ensures (simp (met_is _ _ p, told_rules))

pub loop-k-preserved : goal.loop-k-preserved
loop-k-preserved g c r h =
    let k = c.loop-k.k in
    let so_far = c.loop-k.invariant r h in
    let next = h (k + 1) _ (omega (arith, c.loop-k-test.true)) c.in_ok-after.ensures in
    let from = sym (fold_value (λ k p. place_c r k) (place_c r 0).value k) ∙ value_is _ _ so_far.0 in
    let to = value_is _ _ next in (
      fold_goes (λ k p. place_c r k) (place_c r 0).value (k + 1) _ _ so_far.0 next,
      fold_then _ _ k _ _ so_far.1 (simp (← from, ← to) at c.longer-length.ensures),
      fold_then _ _ k _ _ so_far.2 (simp (← from, ← to) at c.further-turn.ensures),
    )

pub returns-in_err-length : goal.returns-in_err-length
unfolding traced_c places_c length_c
returns-in_err-length g c r h =
    let all : c.loop-k.k ≡ 32 = omega arith in
    let so_far = rw all at (c.loop-k.invariant r h) in
    let l = simp c.in_err-length.was at so_far.1 in
    stops _ _ _ c.from_residual-in_err-length.ensures (simp (none_met _ _ so_far.0, met_is _ _ l, told_rules))

pub returns-in_err-turn : goal.returns-in_err-turn
unfolding traced_c places_c length_c turned_c
returns-in_err-turn g c r h =
    let all : c.loop-k.k ≡ 32 = omega arith in
    let so_far = rw all at (c.loop-k.invariant r h) in
    let l = simp c.in_ok-length.was at so_far.1 in
    let t = simp c.in_err-turn.was at so_far.2 in
    stops _ _ _ c.from_residual-in_err-turn.ensures (simp (none_met _ _ so_far.0, none_met _ _ l, met_is _ _ t, told_rules))

pub returns : goal.returns
unfolding traced_c places_c length_c turned_c
returns g c r h =
    let all : c.loop-k.k ≡ 32 = omega arith in
    let so_far = rw all at (c.loop-k.invariant r h) in
    let l = simp c.in_ok-length.was at so_far.1 in
    let t = simp c.in_ok-turn.was at so_far.2 in
    gives _ _ (simp (none_met _ _ so_far.0, none_met _ _ l, none_met _ _ t, told_rules)) (simp (value_is _ _ l, value_is _ _ t))
