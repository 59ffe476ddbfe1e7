-- The theorems about the definitions of `model`, in the order in which they build on each other; the one that a user of
-- a file wants stands last in it. A legal order exists exactly if the verdict is an order: `Verdict`. Over moves rows
-- stay what they are afresh: `Kept`. An order from elsewhere passes exactly if it is legal, and otherwise strays at its
-- first wrong entry: `Judged`; how much of it decides: `Cut`; of a text that has one, what is refused: `JudgedText`;
-- and that what is past the judge's room changes nothing: `LaterBytes`. The round trips: `Text`. The line reader:
-- `Reader`; by an offset alone: `Offsets`. What is printed fits the screens' buffer: `Printed`; and some print fills
-- it: `Longest`. Contracts that are equations leave one outcome: `Tight`.
pub mod Tests
pub mod Tight
pub mod Lists
pub mod Sets
pub mod Where
pub mod Answers
pub mod Line
pub mod Held
pub mod WellFormed
pub mod Claims
pub mod Rows
pub mod Successors
pub mod Grips
pub mod Mate
pub mod Outer
pub mod Way
pub mod Edited
pub mod Move
pub mod LastingKept
pub mod Again
pub mod Around
pub mod Depth
pub mod Remarked
pub mod Places
pub mod JobEnds
pub mod OnlyIf
pub mod Turns
pub mod Progress
pub mod Handed
pub mod Segments
pub mod Chosen
pub mod LineByLine
pub mod Steps
pub mod Verdict
pub mod Morning
pub mod Kept
pub mod Judged
pub mod Cut
pub mod Numbers
pub mod Fields
pub mod Spelling
pub mod Text
pub mod Reader
pub mod Offsets
pub mod Printed
pub mod Longest
pub mod JudgedText
pub mod LaterBytes
