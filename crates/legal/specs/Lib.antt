-- What the contracts of `legal` cite beside `model`, `plan` and `promises`.
pub mod Steps
pub mod Begun
