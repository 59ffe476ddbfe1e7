-- What the contracts of this room cite beside the definitions of `model`.
pub mod Gathered
pub mod Keeping
