-- An answer's values as one number of 64 bits, for callers in C and Rust (01, "Refusal numbers"): a refusal's number,
-- or 0, in the upper half, and the one value after it in the lower. The end of a text's lines and a legal order, whose
-- values are 0 alone, are 0. A line's cursor, whose values come last, is left out.
use Rattle.std.specs.Prelude.{ℕ, ◌+◌, ◌*◌, List, [], ◌∷◌}

-- 2^32: a half has 32 bits
abbrev pub half : ℕ
half = 4294967296

abbrev pub in_one : List ℕ → ℕ
in_one [] = 0
in_one (number ∷ []) = 0
in_one (number ∷ value ∷ cursor) = number * half + value
