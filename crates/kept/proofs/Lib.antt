-- The laws that the proofs of the code cite.
pub mod Lists
pub mod Deciding
pub mod Building
pub mod Gathering
pub mod Moved
pub mod Outcome
