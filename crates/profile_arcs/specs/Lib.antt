pub mod Angles
pub mod AnglesLaws
pub mod Laws
pub mod Profiles
