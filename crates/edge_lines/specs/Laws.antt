-- Printing refuses by one number alone, so whichever number of a line is found too large first, the line is refused alike. Assumes nothing.
use Rattle.std.specs.Prelude.{ℕ, ◌*◌, ◌≡◌, Bool, true, false, cond, List, leb, ℤ, Float}
use Rattle.std.proofs.Common.{sym}
use Rattle.std.proofs.Math.Path.{refl}
use Rattle.std.specs.Float.{nan, inf, fin}
use Rattle.std.specs.Float.Ieee.{up, down}
use Rattle.checked.specs.Refusals.{COUNT_TOO_LARGE}
use Rattle.checked.specs.Checked.{Due, due, refused}
use Rattle.decimals.specs.Thousandths.{thousandths, nearest_up, most, signed}
use Rattle.vectors.specs.declared.Vec3.{Vec3}
use Rattle.edge_lines.specs.Lines.{spaced, corner}

abbrev pub TooLarge : {A : Type 0} → Due A → Type 0
TooLarge (due a) = Unit {0}
TooLarge (refused n) = n ≡ COUNT_TOO_LARGE

pub thousandths_large : (x : Float) → TooLarge (thousandths x)
unfolding thousandths
thousandths_large nan = refl
thousandths_large (inf s) = refl
thousandths_large (fin s m e) = by s (nearest_up (1000 * (m * up e)) (down e)) (leb (nearest_up (1000 * (m * up e)) (down e)) most)
  where
    by : (s : Bool) (size : ℕ) (b : Bool) → TooLarge (cond b (due (signed s size)) (refused COUNT_TOO_LARGE))
    by s size true = tt
    by s size false = refl

spaced_by : (d : Due ℤ) (rest : Due (List ℕ)) → TooLarge d → TooLarge rest → TooLarge (spaced d rest)
unfolding spaced
spaced_by (refused n) rest h k = h
spaced_by (due z) (refused n) h k = k
spaced_by (due z) (due text) h k = tt

pub spaced_large : (x : Float) (rest : Due (List ℕ)) → TooLarge rest → TooLarge (spaced (thousandths x) rest)
spaced_large x rest h = spaced_by (thousandths x) rest (thousandths_large x) h

pub corner_large : (p : Vec3) (rest : Due (List ℕ)) → TooLarge rest → TooLarge (corner p rest)
unfolding corner
corner_large p rest h = spaced_large p.x _ (spaced_large p.y _ (spaced_large p.z rest h))

-- a refusal stays, whatever is put before it
pub spaced_stays : (x : Float) (n : ℕ) → n ≡ COUNT_TOO_LARGE → refused n ≡ spaced (thousandths x) (refused n)
spaced_stays x n h = by (thousandths x) (thousandths_large x)
  where
    by : (d : Due ℤ) → TooLarge d → refused n ≡ spaced d (refused n)
    by (due z) t = unfold spaced in refl
    by (refused m) t = unfold spaced in rw (h, t) refl

pub corner_stays : (p : Vec3) (n : ℕ) → n ≡ COUNT_TOO_LARGE → refused n ≡ corner p (refused n)
unfolding corner
corner_stays p n h = rw (sym (spaced_stays p.z n h), sym (spaced_stays p.y n h)) (spaced_stays p.x n h)
