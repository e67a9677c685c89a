-- One call after another, and what a call on something lent answers and leaves, by what it is due.
use Rattle.std.specs.Prelude.{ℕ, ◌≡◌}
use Rattle.checked.specs.Checked.{Due, due, refused}

-- what is due once something else is
abbrev pub and_then : {A B : Type 0} → Due A → (A → Due B) → Due B
and_then (due a) rest = rest a
and_then (refused n) rest = refused n

-- the number that a call answers; 0 is none
abbrev pub number_of : {A : Type 0} → Due A → ℕ
number_of (due a) = 0
number_of (refused n) = n

-- what was lent, after the call: a refusal leaves it unchanged
abbrev pub after : {A : Type 0} → A → Due A → A
after a (due b) = b
after a (refused n) = a

-- what a call on something lent answers and leaves, by what it is due on the same by value
pub record Lent {A : Type 0} (call : A → Due A) (entry : A) (answer : ℕ) (exit : A) : Type 0 where
  pub says : answer ≡ number_of (call entry)
  pub leaves : exit ≡ after entry (call entry)
