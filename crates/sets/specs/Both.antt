-- What code makes of two sets beside their union: words that 01 does not need. Their members are in
-- proofs/Members.antt.
use Rattle.std.specs.Prelude.{ℕ}
use Rattle.std.specs.Int.Bits.{bit_and, bit_xor}

-- the members of both
unfoldable pub both : ℕ → ℕ → ℕ
both s t = bit_and s t

-- the members of one of the two alone
unfoldable pub differ : ℕ → ℕ → ℕ
differ s t = bit_xor s t

-- the members of the first that are not in the second
unfoldable pub without : ℕ → ℕ → ℕ
unfolding both differ
without s t = differ s (both s t)
