-- What the contracts of this crate's private functions cite; `read` promises what `promises` has.
pub mod Kept
