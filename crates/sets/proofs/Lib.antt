-- The laws of sets that the rooms above cite, beside those of `theory/proofs/Sets.antt`.
pub mod Members
