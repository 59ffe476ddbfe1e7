-- The set of one device as the code makes it of any number (01, "Claims and rows"): none of a number past the board.
use Rattle.std.specs.Prelude.{ℕ, cond, ltb}
use Rattle.model.specs.Sets.{empty, only}

-- the set of one device of a board of D; of a number past the board, no device
unfoldable pub only_of : ℕ → ℕ → ℕ
unfolding only empty
only_of D d = cond (ltb d D) (only d) empty
