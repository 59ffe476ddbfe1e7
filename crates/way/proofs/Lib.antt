-- The laws that the proofs of this room cite; then, that its functions find and do what 01 says, where a plan is known.
pub mod Walks
pub mod Numbered
pub mod OnWay
pub mod Joins
pub mod Kept
pub mod Unders
