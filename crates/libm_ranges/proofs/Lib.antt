pub mod Arctangents
pub mod Quadrants
