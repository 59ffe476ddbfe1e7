-- What the contracts of `rows` cite beside `model`.
pub mod Where
pub mod Search
pub mod Lasting
pub mod Twice
pub mod Holds
