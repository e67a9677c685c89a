-- What the answer to a call tells of the computation that it is of, and how one call follows another.
use Rattle.std.specs.Prelude.{ℕ, zero, suc, ◌≡◌, refl, Result, Ok, Err, Float}
use Rattle.std.proofs.Common.{sym, ap, ◌∙◌, arith}
use Rattle.std.specs.Result.{IsErr, IsErrAnd, result_and}
use Rattle.std.proofs.lemmas.Result.{err_from_is_err_and}
use Rattle.checked.specs.Checked.{Checked, first, Due, due, refused, settled, answered, nine, finite}
use Rattle.checked.specs.Answers.{number_of}
use Rattle.checked.specs.Laws.{zero_first, first_zero, first_assoc, settled_none}
use Rattle.checked.specs.Tests.{passing}
use Rattle.checked.specs.TestsLaws.{passing_none}
use Rattle.checked.specs.Told.{number, told, failed}
use Rattle.checked.specs.declared.Refusal.{Refusal}
use Rattle.checked.specs.declared.Refusal.TheVariants as refusal

-- ---- a refusal of the code is one: its number is not 0
one_more : Refusal → ℕ
one_more refusal.OutOfRange = 0
one_more refusal.NeutralNotPositive = 1
one_more refusal.ArcAndTrace = 2
one_more refusal.BadBoxOrSums = 3
one_more refusal.BadTolerance = 4
one_more refusal.RowTooShort = 5
one_more refusal.PieceOnCone = 6
one_more refusal.AngleTooLarge = 7
one_more refusal.NotFinite = 8
one_more refusal.CountTooLarge = 9
one_more refusal.MalformedFile = 10

some : (r : Refusal) → number r ≡ suc (one_more r)
unfolding one_more
some refusal.OutOfRange = refl
some refusal.NeutralNotPositive = refl
some refusal.ArcAndTrace = refl
some refusal.BadBoxOrSums = refl
some refusal.BadTolerance = refl
some refusal.RowTooShort = refl
some refusal.PieceOnCone = refl
some refusal.AngleTooLarge = refl
some refusal.NotFinite = refl
some refusal.CountTooLarge = refl
some refusal.MalformedFile = refl

pub number_some : (r : Refusal) → number r ≡ 0 → ⊥
number_some r h = let e = some r in omega arith

-- it is the first one met, whatever is met after it
pub first_number : (r : Refusal) (s : ℕ) → first (number r) s ≡ number r
unfolding first
first_number r s = rw (some r) refl

pub settled_number : {A : Type 0} (r : Refusal) (a : A) → settled (number r) a ≡ refused (number r)
unfolding settled
settled_number r a = rw (some r) refl

-- two tests, the first one's refusal before the other's
pub failed_and : (a b : Result Unit Refusal) → failed (result_and a b) ≡ first (failed a) (failed b)
failed_and (Ok u) b = sym (zero_first (failed b))
failed_and (Err r) b = sym (first_number r (failed b))

pub passing_number : {A : Type 0} (r : Refusal) (rest : Due A) → passing (number r) rest ≡ refused (number r)
unfolding passing
passing_number r rest = rw (some r) refl

-- ---- what the exit of a `?` answers: the refusal that the call gave
pub exit_is : {A : Type 0} (answer : Result A Refusal) (r : Refusal) → IsErr answer × IsErrAnd answer (λ e. e ≡ r) → told answer ≡ refused (number r)
exit_is answer r h =
    let e = err_from_is_err_and answer h.1 in
    ap told e.1 ∙ ap (λ x. refused (number x)) e.2

-- ---- a call that answered met no refusal, and gave the value
due_settled : {A : Type 0} (r : ℕ) (a v : A) → due v ≡ settled r a → (r ≡ 0) × (a ≡ v)
unfolding settled
due_settled zero a v h = (refl, ap (λ d. get v d) (sym h))
  where
    get : {A : Type 0} → A → Due A → A
    get a (due b) = b
    get a (refused n) = a
due_settled (suc r) a v h = absurd (let z : ◌≡◌ {A = ℕ} 0 1 = cc in omega arith)

refused_settled : {A : Type 0} (n r : ℕ) (a : A) → refused n ≡ settled r a → r ≡ n
unfolding settled
refused_settled n zero a h = absurd (let z : ◌≡◌ {A = ℕ} 0 1 = cc in omega arith)
refused_settled n (suc r) a h = sym (ap number_of h)

module _ {A : Type 0} (m : Checked A) where
  pub none_met : (v : A) → due v ≡ answered m → m.refusal ≡ 0
  none_met v h = (due_settled m.refusal m.value v h).0

  pub value_is : (v : A) → due v ≡ answered m → m.value ≡ v
  value_is v h = (due_settled m.refusal m.value v h).1

  -- and one that refused gave the number of what was met
  pub met_is : (n : ℕ) → refused n ≡ answered m → m.refusal ≡ n
  met_is n h = refused_settled n m.refusal m.value h

  -- ---- what a function answers: a value
  pub gives : (v : A) → m.refusal ≡ 0 → m.value ≡ v → due v ≡ answered m
  gives v none is = sym (rw (none, is) (settled_none v))

  -- what its last call does
  pub follows : (d : Due A) (r : ℕ) (v : A) → d ≡ settled r v → m.refusal ≡ r → m.value ≡ v → d ≡ answered m
  follows d r v says met is = says ∙ sym (rw (met, is) refl)

  -- the refusal that a `?` passes on
  pub stops : (answer : Result A Refusal) (r : Refusal) → IsErr answer × IsErrAnd answer (λ e. e ≡ r) → m.refusal ≡ number r → told answer ≡ answered m
  stops answer r exit met = exit_is answer r exit ∙ sym (rw met (settled_number r m.value))

-- a number that passed its test
pub tried : (x v : Float) → due v ≡ answered (finite x) → nine v ≡ 0
tried x v h = ap nine (sym (value_is (finite x) v h)) ∙ none_met (finite x) v h

-- one answer and then another: the first one's refusal is met first
pub and_told : {A B : Type 0} (a : Result A Refusal) (b : Result B Refusal) (m : Checked A) (n : Checked B) → told a ≡ answered m → told b ≡ answered n → told (result_and a b) ≡ settled (first m.refusal n.refusal) n.value
and_told (Ok x) b m n h k = k ∙ sym (simp (none_met m x h, zero_first))
and_told (Err r) b m n h k = sym (simp (met_is m (number r) h, first_number) (settled_number r n.value))

-- ---- an entry: its tests, then the rest
module _ {A : Type 0} (n : ℕ) (rest : Due A) where
  -- a test failed
  pub fails_by : (answer : Result A Refusal) (r : Refusal) → IsErr answer × IsErrAnd answer (λ e. e ≡ r) → number r ≡ n → told answer ≡ passing n rest
  fails_by answer r exit is = exit_is answer r exit ∙ sym (rw (sym is) (passing_number r rest))

  -- none did
  pub passes : (d : Due A) → 0 ≡ n → d ≡ rest → d ≡ passing n rest
  passes d none is = is ∙ sym (passing_none n rest (sym none))

-- what follows a call, and what follows a refusal
pub ruleset rules = (zero_first, first_number, settled_none, settled_number)
