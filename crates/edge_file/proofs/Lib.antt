-- What several proofs of this crate cite, and in `Cutting` that a file read piece by piece gives the line of the file.
pub mod Cutting
pub mod Turns
