-- `Tight` says that each promise leaves one outcome; `Putting` and `Pieces` have the laws for those who chain puts; the
-- others are the laws that the functions' proofs cite.
pub mod Tight
pub mod Putting
pub mod Pieces
pub mod LastDigits
pub mod Reading
