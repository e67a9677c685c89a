pub mod Boxes
pub mod Demand3
