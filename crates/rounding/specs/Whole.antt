-- IEEE 754's roundToIntegralTowardPositive and roundToIntegralTiesToAway, defined by division of
-- whole numbers. Definitions only. A finite value has the size n / d, where n = m * up e and d =
-- down e. The result keeps the sign of its argument, a zero too. `round f s k 1` is the whole
-- number k with the sign s; `proofs/Exactness.antt` shows that it never rounds here.
use Rattle.std.specs.Prelude.{ℕ, ◌+◌, ◌-◌, ◌*◌, ◌/◌, ◌≤◌, cond, Float}
use Rattle.std.specs.Float.{nan, inf, fin, Format}
use Rattle.std.specs.Float.Ieee.{up, down, round}

-- the greatest whole number not above n / d
abbrev pub floored : ℕ → ℕ → ℕ
floored n d = n / d

-- the least whole number not below n / d
abbrev pub ceiled : ℕ → ℕ → ℕ
ceiled n d = (n + (d - 1)) / d

-- the whole number nearest to n / d, the greater one of two that are as near
abbrev pub halved_up : ℕ → ℕ → ℕ
halved_up n d = (2 * n + d) / (2 * d)

-- Toward plus infinity: below zero the size falls, otherwise it rises.
unfoldable pub ceil : Format → Float → Float
unfolding round
ceil f nan = nan
ceil f (inf s) = inf s
ceil f (fin s m e) = round f s (cond s (floored (m * up e) (down e)) (ceiled (m * up e) (down e))) 1

-- To the nearest whole number, halves away from zero.
unfoldable pub round_away : Format → Float → Float
unfolding round
round_away f nan = nan
round_away f (inf s) = inf s
round_away f (fin s m e) = round f s (halved_up (m * up e) (down e)) 1

-- k is a whole number that is at most a half away from the size of a finite value.
abbrev pub Near : Float → ℕ → Type 0
Near nan k = ⊥
Near (inf s) k = ⊥
Near (fin s m e) k = (2 * (m * up e) ≤ 2 * (k * down e) + down e) × (2 * (k * down e) ≤ 2 * (m * up e) + down e)
