-- The words that theorems of proofs/ use beside those of `model`, and that their reader has to believe.
pub mod Line
pub mod WellFormed
pub mod Outer
pub mod Claims
pub mod Chosen
pub mod Verdict
pub mod Move
pub mod Kept
pub mod Remarked
pub mod Text
pub mod Judged
