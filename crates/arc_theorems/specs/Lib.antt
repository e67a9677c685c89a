-- The words in which it is said what holds of arcs for every input, and of what is proved here `PerTurn` (how many chords there are), `Sizes` and
-- `Squares` (bounds through the operations on vectors). The claims stand in proofs/: its Lib.antt says what to read first.
pub mod Turns
pub mod Same
pub mod FullCircles
pub mod At
pub mod PerTurn
pub mod Inner
pub mod Sizes
pub mod Squares
