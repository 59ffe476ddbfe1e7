-- The laws that the functions' proofs cite: of one entry, `Entries`; of the list of next lines, `Standing`; of the
-- lines that are held, `Begins`; of the loop over the entries, `Loop`; and of the judge's outcomes, `Outcome`.
pub mod Entries
pub mod Standing
pub mod Begins
pub mod Loop
pub mod Outcome
