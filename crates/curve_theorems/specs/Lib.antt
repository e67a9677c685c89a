-- The words in which it is said what holds of curves for every input: `CurveRows` (which row takes the points of every
-- curve) and `StraightCuts` (how close a straight cut stays to its box). The claims are proved in proofs/. `Arithmetic` has
-- which numbers a computation can meet.
pub mod CurveRows
pub mod StraightCuts
pub mod Arithmetic
