-- What the crate shows of its promises: each leaves one outcome per input.
pub mod Tight
