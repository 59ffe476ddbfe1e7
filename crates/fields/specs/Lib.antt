-- What the puts and the number reader answer.
pub mod Number
pub mod Puts
