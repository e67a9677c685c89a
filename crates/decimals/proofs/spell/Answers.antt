-- `decimals::spell` meets its contract. The loop's invariant: the digits that stand are those that `rest` does not hold. The measure is `rest`.
-- Assumes nothing.
use mathlib.Core.Path.{◌∙◌}
use Prim.Native.Nat.{◌-◌, ◌<◌}
use native.Mathlib.Omega.{arith}
use lib.ListN.{length-set}
use borrow.Author.Rules.{rules}
use Rattle.decimals.proofs.Places.{last_digit, next_digit, room, room_left}
use Rattle.decimals.proofs.spell.Goals as goal

pub loop-rest-init : goal.loop-rest-init
loop-rest-init c =
    let n = c.args.n in
    let long = c.requires in
    (search rules, omega arith, search rules, last_digit n c.args.out.now (omega arith) long)

pub loop-rest-preserved : goal.loop-rest-preserved
loop-rest-preserved c =
    let l = c.loop-rest in
    let more : 0 < l.rest = c.loop-rest-test.true in (
      omega arith,
      room_left l.i l.rest l.invariant.1 more,
      length-set l.out (l.i - 1) _ ∙ l.invariant.2,
      next_digit l.i l.rest l.out (room l.i l.rest l.invariant.1 more) more (omega arith) ∙ l.invariant.3,
    )
