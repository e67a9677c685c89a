use Prim.Native.Nat.{◌-◌}
use Rattle.std.specs.Prelude.{◌≡◌}
use Rattle.waves.specs.TurningPoints.{TURNING_POINTS}
use Rattle.waves.specs.TurningPointsLaws.{rest}
use Rattle.waves.proofs.turning_points.turns.Given as goal

abbrev pub invariant-loop : goal.invariant-loop
invariant-loop l = rest l.t (TURNING_POINTS - l.counter) l.s ≡ rest l.t TURNING_POINTS (record { k = l.k; low = l.low; high = l.high })
