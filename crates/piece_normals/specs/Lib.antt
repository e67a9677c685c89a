pub mod Directions
pub mod HoleDirectionsLaws
pub mod Laws
pub mod Normals
