-- What holds of arcs for every input. Read first the claims: `Turns` (the ranges of turns and
-- sweeps), `Same` (one point twice), `FullCircles` (how to tell a full circle), `Points` (box
-- calls), `At` (points of an arc), `PerTurn` and `Inner` (points for drawing); each ends with what
-- an entry answers. `PerTurn`, and `Sizes`
-- and `Squares`, which carry bounds through the operations on vectors, stand in specs/.
pub mod Turns
pub mod Same
pub mod FullCircles
pub mod Points
pub mod At
pub mod Inner
