-- What the code counts on: digits are small, and sixteen of them fit.
use Rattle.std.specs.Prelude.{ℕ, zero, suc, ◌+◌, ◌*◌, ◌-◌, ◌/◌, ◌%◌, ◌^◌, ◌<◌, ◌≤◌, Bool, true, false, cond, ◌≡◌, refl, List, ltb, eqb, get_or, length}
use Rattle.std.proofs.Common.{ap, ◌∙◌, pow-suc, arith, add-one, eqb-true}
use Rattle.std.proofs.Math.Nat.{pow-le-pow_right}
use Rattle.std.proofs.Math.Numerals.{unary_clauses}
use Rattle.answer_lines.specs.Lines.{digit, spelt, count}

either : (t : Bool) (m n : ℕ) → m < 16 → n < 16 → cond t m n < 16
either true m n h k = h
either false m n h k = k

small : (b : ℕ) → digit b < 16
unfolding digit
small b = either (ltb b 97) (b % 16) ((b - 87) % 16) (omega arith) (omega arith)

pub digit_small : (b n : ℕ) → n ≡ digit b → n < 16
digit_small b n e = omega (arith, e, small b)

-- one digit more
pub spelt_more : (base : ℕ) (s : List ℕ) (at n : ℕ) → spelt base s at n * base + digit (get_or s (at + n) 0) ≡ spelt base s at (n + 1)
unfolding spelt
spelt_more base s at n = rw (add-one n)

pub spelt_two : (s : List ℕ) (at : ℕ) → digit (get_or s at 0) * 10 + digit (get_or s (at + 1) 0) ≡ spelt 10 s at 2
unfolding spelt
spelt_two s at = simp unary_clauses (omega arith)

below : (s : List ℕ) (at n : ℕ) → spelt 16 s at n < 16 ^ n
unfolding spelt
below s at zero = omega arith
below s at (suc n) = omega (arith, below s at n, small (get_or s (at + n) 0), pow-suc 16 n)

-- another hexadecimal digit fits into 64 bits
pub spelt_fits : (s : List ℕ) (at i n : ℕ) → n ≡ spelt 16 s at i → i < 16 → n < 0x1000_0000_0000_0000
spelt_fits s at i n e h = omega (arith, e, below s at i, pow-le-pow_right {n = 16} (omega arith) {i = i} {j = 15} (omega arith))

pub spelt_all : (s : List ℕ) (at i n : ℕ) → n ≡ spelt 16 s at i → i ≤ 16 → 16 ≤ i → n ≡ spelt 16 s at 16
spelt_all s at i n e h k = e ∙ ap (λ (j : ℕ). spelt 16 s at j) (omega arith)

fits : (t : Bool) (k n : ℕ) → (t ≡ true → n % 17 ≡ 5) → k < cond t (n / 17) 0 → 22 + 17 * k ≤ n
fits true k n e h = omega (arith, e refl)
fits false k n e h = omega arith

-- the pattern's digits are in the line
pub pattern_fits : (s : List ℕ) (k n : ℕ) → n ≡ count s → k < n → 22 + 17 * k ≤ length s
unfolding count
pattern_fits s k n e h = fits (eqb (length s % 17) 5) k (length s) (eqb-true (length s % 17) 5) (omega (arith, e))
