pub mod Circles
pub mod CirclesLaws
pub mod Laws
pub mod Rows
