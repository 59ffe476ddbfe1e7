-- What the contracts of `line` cite beside `model`.
pub mod Ranges
pub mod Device
