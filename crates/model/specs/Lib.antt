-- Document 01, and 02 as far as it is built, as definitions, by subject, in the order in which they build on each
-- other. Who trusts nothing else reads these files next to them; each opens with the paragraph that it answers, or says
-- that it answers none.
pub mod Lists
pub mod Sets
pub mod Answers
pub mod InOne
pub mod Line
pub mod Text
pub mod WellFormed
pub mod Mate
pub mod Legal
pub mod Claims
pub mod Rows
pub mod Handed
pub mod Verdict
pub mod Move
pub mod Entries
pub mod Kept
pub mod Printed
pub mod Judged
pub mod Board
