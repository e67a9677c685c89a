-- A turn's refusal is that of what it gives.
use Rattle.std.specs.Prelude.{ℕ, ◌≡◌, Bool, true, false, cond, Float}
use Rattle.std.proofs.Common.{sym, ◌∙◌, ap}
use Rattle.std.specs.Float.Ieee.{le}
use Rattle.checked.specs.Checked.{first, nine, num, ◌⊕◌, ◌⊖◌}
use Rattle.checked.specs.Laws.{first_assoc, first_same, rules as checked_rules}
use Rattle.checked.specs.Numbers.{zero, tau}
use Rattle.profile_arcs.specs.Angles.{atan2_c, angle_c, ahead_c, back_c}

pub ahead_nine : (t : Float) → first (nine t) (ahead_c t).refusal ≡ nine (ahead_c t).value
unfolding ahead_c
ahead_nine t = either (le t zero)
  where
    either : (b : Bool) → first (nine t) (cond b (num t ⊕ num tau) (num t)).refusal ≡ nine (cond b (num t ⊕ num tau) (num t)).value
    either true = simp checked_rules
    either false = simp checked_rules

pub back_nine : (t : Float) → first (nine t) (back_c t).refusal ≡ nine (back_c t).value
unfolding back_c
back_nine t = either (le zero t)
  where
    either : (b : Bool) → first (nine t) (cond b (num t ⊖ num tau) (num t)).refusal ≡ nine (cond b (num t ⊖ num tau) (num t)).value
    either true = simp checked_rules
    either false = simp checked_rules

-- an angle need not be noted where the turn that it makes is
pub ahead_noted : (t : Float) → first (nine t) (nine (ahead_c t).value) ≡ nine (ahead_c t).value
ahead_noted t = rw (sym (ahead_nine t)) (sym (first_assoc (nine t) (nine t) (ahead_c t).refusal) ∙ ap (λ (r : ℕ). first r (ahead_c t).refusal) (first_same (nine t)))

pub back_noted : (t : Float) → first (nine t) (nine (back_c t).value) ≡ nine (back_c t).value
back_noted t = rw (sym (back_nine t)) (sym (first_assoc (nine t) (nine t) (back_c t).refusal) ∙ ap (λ (r : ℕ). first r (back_c t).refusal) (first_same (nine t)))

pub ruleset rules = (atan2_c, angle_c, ahead_nine, back_nine)
