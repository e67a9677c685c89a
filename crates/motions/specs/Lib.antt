pub mod Axes
pub mod Laws
pub mod Motions
