pub mod Entries
pub mod Laws
pub mod Pieces
pub mod Reversals
pub mod Tests
