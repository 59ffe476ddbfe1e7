-- What the entries promise, entry by entry (01, "How tight the statements are"), and the words for what follows.
pub mod Outcome
pub mod Text
pub mod Table
pub mod Verdict
pub mod Judge
pub mod Move
pub mod Kept
pub mod Screen
pub mod ForC
