pub mod Entries
pub mod Laws
pub mod Normals
pub mod Surfaces
