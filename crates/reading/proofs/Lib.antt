-- What the proofs of this crate's functions rest on.
pub mod Found
pub mod Outcomes
