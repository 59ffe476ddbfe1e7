-- What is shown of the promises. `Tight`: each leaves one outcome per input; of `print`, that is shown in `Printing`.
-- `Outcome`: one law for every entry that is lent a list. `WasRead`: what those that read a text go on with. The
-- others: what follows, entry by entry, for both readers; `Both`: where they agree.
pub mod Tight
pub mod Outcome
pub mod Text
pub mod WasRead
pub mod Table
pub mod Verdict
pub mod Judge
pub mod JudgePrinting
pub mod Move
pub mod Kept
pub mod Screen
pub mod Printing
pub mod ForC
pub mod Both
