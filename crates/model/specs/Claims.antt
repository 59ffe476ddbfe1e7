-- 01, "Claims and rows": successors, claim sets and the table of claims.
use Rattle.std.specs.Prelude.{ℕ, suc, cond, List, [], ◌∷◌, ◌++◌, map, get_or, drop}
use Rattle.model.specs.Lists.{positions}
use Rattle.model.specs.Sets.{empty, only, union, union_of}
use Rattle.model.specs.Line.{job, operand, is_start, at, first_line}
use Rattle.model.specs.Mate.{takes_at, device_at}

-- the successors of a line, by their places among the lines after it
unfoldable pub successors : ℕ → List ℕ → List ℕ
unfolding first_line job is_start operand
successors l ls = first_line (job l) ls ++ cond (is_start l) (first_line (operand l) ls) []

-- a line's own claim: its device, if it is an outermost take. A held line is none: its set is that of its successors.
unfoldable pub own : List ℕ → ℕ → ℕ
unfolding takes_at device_at only empty
own p i = cond (takes_at p i) (only (device_at p i)) empty

-- the union of the sets of a table at some places
unfoldable pub joined : List ℕ → List ℕ → ℕ
unfolding union_of
joined t places = union_of (map (λ k. get_or t k 0) places)

-- the table, from the plan's end; the first list has the own claims of the lines in the second
unfoldable pub table_of : List ℕ → List ℕ → List ℕ
unfolding union joined successors
table_of [] ls = []
table_of (c ∷ cs) [] = []
table_of (c ∷ cs) (l ∷ ls) = let t : List ℕ = table_of cs ls in union c (joined t (successors l ls)) ∷ t

unfoldable pub table : List ℕ → List ℕ
unfolding table_of own positions
table p = table_of (map (own p) (positions p)) p

-- the union of the sets that a table t, any table, has for the successors of the line at i
unfoldable pub beyond : List ℕ → List ℕ → ℕ → ℕ
unfolding joined successors
beyond p t i = joined (drop (suc i) t) (successors (at p i) (drop (suc i) p))
