-- What the contracts of this room cite beside the definitions of `model`.
pub mod Tested
pub mod Move
pub mod Marked
pub mod Through
