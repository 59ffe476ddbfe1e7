-- The laws that the proofs of `line` share.
pub mod Ranges
