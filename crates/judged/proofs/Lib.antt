-- The laws that the functions' proofs cite.
pub mod Parting
pub mod Entering
pub mod Answering
pub mod Fitting
