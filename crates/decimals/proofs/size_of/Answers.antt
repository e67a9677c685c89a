-- `decimals::size_of` meets its contract. `proofs/Sizes.antt` says what each arm returns. Assumes nothing.
use Prim.Native.Nat.{◌/◌, ◌%◌, ◌^◌}
use native.Mathlib.Nat.{mod-lt}
use lib.Pow.{pow_pos}
use Rattle.decimals.proofs.Sizes.{nothing, some, too_many}
use Rattle.decimals.proofs.size_of.Goals as goal

pub returns-then-field-lt1012 : goal.returns-then-field-lt1012
returns-then-field-lt1012 c = let b = c.args.b in λ s. nothing s (b / 2 ^ 52) (b % 2 ^ 52) c.if-field-lt1012.true (mod-lt b (pow_pos 52))

pub returns-then-field-lt1043 : goal.returns-then-field-lt1043
returns-then-field-lt1043 c = let b = c.args.b in λ s. some s (b / 2 ^ 52) (b % 2 ^ 52) c.if-field-lt1012.false c.if-field-lt1043.true

pub returns-else-field-lt1043 : goal.returns-else-field-lt1043
returns-else-field-lt1043 c = let b = c.args.b in λ s. too_many s (b / 2 ^ 52) (b % 2 ^ 52) c.if-field-lt1043.false
