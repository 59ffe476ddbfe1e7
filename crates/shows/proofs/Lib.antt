-- The law that the function's proof cites: a line's word put in front of its values.
pub mod Shown
