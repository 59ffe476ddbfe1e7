-- The laws that the proofs of the code cite.
pub mod Answers
pub mod Holding
pub mod Refusing
pub mod SameScan
pub mod Marking
pub mod Outcome
pub mod Tight
