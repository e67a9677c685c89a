pub mod ArcFiles
pub mod FileBoxes
