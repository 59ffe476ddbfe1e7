-- The laws that the proofs of `mates` share.
pub mod Mates
pub mod Spans
