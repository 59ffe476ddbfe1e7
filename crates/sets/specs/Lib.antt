-- What the contracts of this room cite beside the definitions of `model`.
pub mod Only
pub mod Both
pub mod Word
