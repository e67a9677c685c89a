-- An answer by the number of the test that failed first, and what an accepted call tells of its tests. Assumes nothing.
use Prim.Native.Nat.{ℕ, zero, suc}
use Rattle.std.specs.Prelude.{◌≡◌, Bool, true, false, ◌&&◌}
use Rattle.std.proofs.Math.Path.{refl}
use Rattle.std.proofs.Common.{arith}
use Rattle.checked.specs.Checked.{first, Due, due, refused}
use Rattle.checked.specs.Tests.{fails, ◌or◌, passing}

module _ {A : Type 0} (r : ℕ) (rest : Due A) where
  -- none failed
  pub passing_none : r ≡ 0 → passing r rest ≡ rest
  unfolding passing
  passing_none h = go r h
    where
      go : (r : ℕ) → r ≡ 0 → passing r rest ≡ rest
      go zero h = refl
      go (suc r) h = absurd (omega arith)

  -- one failed
  pub passing_some : (r ≡ 0 → ⊥) → passing r rest ≡ refused r
  unfolding passing
  passing_some h = go r h
    where
      go : (r : ℕ) → (r ≡ 0 → ⊥) → passing r rest ≡ refused r
      go zero h = absurd (h refl)
      go (suc r) h = refl

-- tests after tests
pub passing_or : {A : Type 0} (r s : ℕ) (rest : Due A) → passing (r or s) rest ≡ passing r (passing s rest)
unfolding passing first
passing_or zero s rest = refl
passing_or (suc r) s rest = refl

-- ---- one test
pub fails_none : (n : ℕ) → fails n true ≡ 0
unfolding fails
fails_none n = refl

pub fails_some : (n : ℕ) → fails n false ≡ n
unfolding fails
fails_some n = refl

-- the same number twice, in whatever order
pub fails_both : (n : ℕ) (a b : Bool) → (fails n a or fails n b) ≡ fails n (b && a)
unfolding fails first
fails_both zero true true = refl
fails_both zero true false = refl
fails_both zero false true = refl
fails_both zero false false = refl
fails_both (suc n) true true = refl
fails_both (suc n) true false = refl
fails_both (suc n) false true = refl
fails_both (suc n) false false = refl

-- ---- what is accepted passed its tests
pub never : {A : Type 0} (n : ℕ) (t : A) → refused n ≡ due t → ⊥
never n t h = let z : ◌≡◌ {A = ℕ} 0 1 = cc in omega arith

pub accepted : {A : Type 0} (r : ℕ) (rest : Due A) (t : A) → passing r rest ≡ due t → (r ≡ 0) × (rest ≡ due t)
unfolding passing
accepted zero rest t h = (refl, h)
accepted (suc r) rest t h = absurd (never (suc r) t h)

pub holds : (n : ℕ) (b : Bool) → fails (suc n) b ≡ 0 → b ≡ true
unfolding fails
holds n true h = refl
holds n false h = absurd (omega arith)
