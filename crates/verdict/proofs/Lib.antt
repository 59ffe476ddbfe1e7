-- Why.
pub mod Foremost
pub mod Counts
pub mod Places
pub mod Standing
pub mod Choosing
pub mod Keeping
pub mod Loop
pub mod Findings
pub mod Outcome
pub mod Steps
