-- What the contracts of this crate cite. `Gathered` is what `gather` promises; the promise of `next_line` is in
-- `promises`. The others are words of private functions, on which no promise rests.
pub mod Fields
pub mod Verbs
pub mod Lines
pub mod Gathered
