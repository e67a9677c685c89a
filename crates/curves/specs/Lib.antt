pub mod Curves
pub mod Drawn
pub mod Entries
pub mod Laws
pub mod Parts
pub mod PartsLaws
