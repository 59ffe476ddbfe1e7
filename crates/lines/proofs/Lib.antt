-- What the proofs of this crate's functions rest on.
pub mod Fields
pub mod Numbers
pub mod Verbs
pub mod Lines
pub mod Gathering
