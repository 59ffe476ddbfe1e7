-- The laws that the functions' proofs cite: the pieces of what is printed, and what is printed for what was read and
-- given a verdict on.
pub mod Shown
pub mod Screened
