-- The laws that the proofs of `claims` and of the rooms above cite.
pub mod Joining
pub mod Claimed
pub mod Written
pub mod Outcome
