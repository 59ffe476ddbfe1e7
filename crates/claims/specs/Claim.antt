-- A line's claim set as the code joins it, from the sets of the lines after it (01, "Claims and rows"). Lines are taken
-- as they count.
use Rattle.std.specs.Prelude.{ℕ, cond, List, length, get_or, take}
use Rattle.model.specs.Lists.{over}
use Rattle.model.specs.Sets.{empty, union}
use Rattle.model.specs.Line.{operand, is_take, is_start}
use Rattle.model.specs.Claims.{table}
use Rattle.model.specs.Board.{devices}
use Rattle.sets.specs.Only.{only_of}

-- as many numbers as an operand can be
abbrev pub operands : ℕ
operands = 256

-- a line's own claim, by its number
unfoldable pub own_of : ℕ → ℕ
unfolding is_take only_of operand empty
own_of l = cond (is_take l) (only_of devices (operand l)) empty

-- a line's claim set: its own claim, with what its job claims after it and what the job claims that it starts
unfoldable pub claim_with : ℕ → ℕ → ℕ → ℕ
unfolding own_of union
claim_with l next begun = union (own_of l) (union next begun)

-- what the job claims that a line starts, by what each job claims; and the claim set by that
unfoldable pub begun_of : ℕ → List ℕ → ℕ
unfolding is_start operand empty
begun_of l claimed = cond (is_start l) (get_or claimed (operand l) 0) empty

unfoldable pub claim_of : ℕ → ℕ → List ℕ → ℕ
unfolding claim_with begun_of
claim_of l next claimed = claim_with l next (begun_of l claimed)

-- a lent list with the plan's table in its front, as far as it has room
unfoldable pub table_in : List ℕ → List ℕ → List ℕ
unfolding over table
table_in p lent = take (length lent) (over (table p) lent)
