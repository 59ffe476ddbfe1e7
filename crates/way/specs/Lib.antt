-- What the contracts of this room cite beside the definitions of `model`; and what its callers know.
pub mod Back
pub mod Way
pub mod Join
pub mod Known
pub mod Flagged
