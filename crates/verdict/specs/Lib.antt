-- What the contracts of `verdict` cite beside `model` and `promises`.
pub mod Waiting
pub mod Findings
