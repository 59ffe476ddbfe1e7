-- The laws that the proofs of `writing` cite.
pub mod Verbs
pub mod Making
pub mod Outcome
