-- `nearest_whole` meets its contract, by `near_small` of `proofs/NearWhole.antt`. Assumes nothing.
use mathlib.Core.Path.{◌≡◌, sym, subst}
use Prim.Native.Nat.{ℕ}
use lib.IntN.{pos}
use lib.Ieee.{Float, binary64, add, sub, of_int, of_bits}
use Rattle.rounding.specs.Whole.{Near}
use Rattle.rounding.proofs.NearWhole.{big, near_small}
use Rattle.rounding.proofs.Wholes.{Small, small}
use Rattle.rounding.proofs.nearest_whole.Goals as goal

at : (x : Float) → Small x → (k : ℕ) × (sub binary64 (add binary64 x big) big ≡ of_int binary64 (pos k)) × Near x k
at x S = subst (λ (v : Float). (k : ℕ) × (sub binary64 (add binary64 v big) big ≡ of_int binary64 (pos k)) × Near v k) (sym S.2) (near_small S.0 S.1 S.3)

pub returns : goal.returns
unfolding of_bits
returns c = at c.args.a (small c.args.a c.requires.above_zero c.requires.below_wholes)
