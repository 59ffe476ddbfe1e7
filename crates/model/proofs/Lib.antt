-- The starred cases of 01, worked ones beside them, and those of plans taken up at midday; nothing else is proved of
-- the definitions here.
pub mod Starred
pub mod Worked
pub mod Midday
