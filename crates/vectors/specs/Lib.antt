pub mod Vectors
pub mod Laws
pub mod Entries
