-- A word of the private functions that print. What `print` and the screens' entry promise stands in `promises`.
pub mod Shows
