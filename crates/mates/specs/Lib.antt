-- What the contracts of this room cite beside the definitions of `model`.
pub mod Found
pub mod Span
