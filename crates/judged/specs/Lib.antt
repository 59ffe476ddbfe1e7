-- The words of the private functions that read the entries.
pub mod Entered
