pub mod Least
pub mod Order
pub mod Value
pub mod Extremes
pub mod Examples
