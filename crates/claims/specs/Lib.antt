-- What the contracts of this room cite beside the definitions of `model` and the promises.
pub mod Claim
