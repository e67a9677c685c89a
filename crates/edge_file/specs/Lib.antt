pub mod EdgeFile
pub mod Steps
pub mod Cutting
pub mod Examples
