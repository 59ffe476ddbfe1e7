-- The verbs, as the private functions that write have them.
pub mod Verbs
