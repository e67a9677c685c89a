-- What several proofs of this crate cite.
pub mod Sizes
pub mod Places
