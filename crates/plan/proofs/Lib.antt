-- The laws that the proofs of `plan` share.
pub mod Tight
pub mod Answers
pub mod Stacks
pub mod Steps
pub mod Tables
pub mod Firsts
pub mod Again
pub mod Stands
pub mod Walks
pub mod Flags
pub mod Holdings
pub mod Noting
pub mod NoteWalk
pub mod LastTests
pub mod LastFaults
pub mod Scans
