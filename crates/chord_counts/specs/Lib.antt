pub mod Chords
pub mod Counts
pub mod Laws
