-- A turn of the loop that puts digits before those that are there. Assumes nothing.
use mathlib.Core.Path.{◌≡◌, sym, ap, ◌∙◌, subst}
use mathlib.Core.Logic.{◌≢◌}
use mathlib.Core.List.{List, ◌∷◌, ◌++◌}
use Prim.Native.Nat.{ℕ, zero, suc, ◌-◌, ◌/◌, ◌%◌, ◌^◌, ◌≤◌, ◌<◌}
use native.Mathlib.Omega.{arith}
use lib.ListN.{length, drop, set, drop_of_length-le}
use lib.Seq.{append_snoc}
use Rattle.decimals.specs.Digits.{glyph, digits}
use Rattle.decimals.specs.DigitLaws.{drop_set, ahead, ahead_some, fewer, spelled_suc, digits_are}

-- the last digit stands at the end
pub last_digit : (n : ℕ) (out : List ℕ) → n < 10 ^ 20 → length out ≡ 20 → ahead 19 (n / 10) ++ drop 19 (set out 19 (glyph (n % 10))) ≡ digits n
last_digit n out h l =
    ap (λ (r : List ℕ). ahead 19 (n / 10) ++ r) (drop_set out 19 (glyph (n % 10)) (omega arith) ∙ ap (λ (r : List ℕ). glyph (n % 10) ∷ r) (drop_of_length-le out {i = 20} (omega arith)))
    ∙ sym (digits_are 19 n h)

turn : (j rest : ℕ) (out : List ℕ) → rest ≢ 0 → j < length out → ahead j (rest / 10) ++ drop j (set out j (glyph (rest % 10))) ≡ ahead (suc j) rest ++ drop (suc j) out
turn j rest out R h =
    ap (λ (r : List ℕ). ahead j (rest / 10) ++ r) (drop_set out j (glyph (rest % 10)) h)
    ∙ sym (append_snoc (ahead j (rest / 10)) (glyph (rest % 10)) (drop (suc j) out))
    ∙ ap (λ (r : List ℕ). r ++ drop (suc j) out) (sym (ahead_some (suc j) rest R ∙ spelled_suc j rest))

-- one digit more stands before them
pub next_digit : (i rest : ℕ) (out : List ℕ) → 0 < i → 0 < rest → i ≤ length out → ahead (i - 1) (rest / 10) ++ drop (i - 1) (set out (i - 1) (glyph (rest % 10))) ≡ ahead i rest ++ drop i out
next_digit i rest out I R h =
    turn (i - 1) rest out (λ e. above rest R e) (omega arith) ∙ ap (λ (k : ℕ). ahead k rest ++ drop k out) (back i I)
  where
    above : (k : ℕ) → 0 < k → k ≡ 0 → ⊥
    above k g e = omega arith

    back : (k : ℕ) → 0 < k → suc (k - 1) ≡ k
    back k g = omega arith

-- there is room for what rest holds
pub room : (i rest : ℕ) → rest < 10 ^ i → 0 < rest → 1 ≤ i
room zero rest h R = absurd (omega arith)
room (suc i) rest h R = omega arith

pub room_left : (i rest : ℕ) → rest < 10 ^ i → 0 < rest → rest / 10 < 10 ^ (i - 1)
room_left zero rest h R = absurd (omega arith)
room_left (suc i) rest h R = subst (λ (k : ℕ). rest / 10 < 10 ^ k) (back i) (fewer rest i h)
  where
    back : (k : ℕ) → k ≡ suc k - 1
    back k = omega arith
