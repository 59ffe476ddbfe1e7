-- What the contracts of `plan` cite beside `model`.
pub mod Checked
pub mod Jobs
pub mod Again
pub mod Holdings
pub mod Tables
pub mod Walk
pub mod Standing
pub mod Noting
pub mod Ends
