-- What holds of curves for every input. Read first the claims: `CurveRows` (which row takes the points of every
-- curve) and `StraightCuts` (how close a straight cut stays to its box).
pub mod CurveRows
pub mod StraightCuts
