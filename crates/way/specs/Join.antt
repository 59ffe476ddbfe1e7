-- 01, "Moving a claim": a line's set, joined from those that a table stores for its successors, as the code joins it;
-- by that, stale lines and the sets rewritten. `first` has the number of each job's first line, `again` the flags of
-- the lines that take again (02, request 2).
use Rattle.std.specs.Prelude.{ℕ, suc, Bool, cond, not, List, [], ◌∷◌, eqb, get_or, set}
use Rattle.model.specs.Sets.{empty}
use Rattle.model.specs.Line.{job, operand, is_start, at}
use Rattle.theory.specs.Outer.{plain}
use Rattle.claims.specs.Claim.{claim_with}

-- the set of the next line of the job; none where that is of another job, as 0 past the end is
unfoldable pub next_set : List ℕ → List ℕ → ℕ → ℕ
unfolding job empty
next_set p t i = cond (eqb (job (at p (suc i))) (job (at p i))) (get_or t (suc i) 0) empty

-- of a start, the set of the started job's first line; none of number 0
unfoldable pub begun_set : ℕ → List ℕ → List ℕ → ℕ
unfolding is_start operand empty
begun_set l t first = cond (is_start l) (get_or (empty ∷ t) (get_or first (operand l) 0) 0) empty

-- the set that the line at i should have
unfoldable pub rejoined_by : List ℕ → List ℕ → List ℕ → List ℕ → ℕ → ℕ
unfolding claim_with plain next_set begun_set
rejoined_by p again first t i =
    claim_with (plain (eqb (get_or again i 0) 1) (at p i)) (next_set p t i) (begun_set (at p i) t first)

unfoldable pub stale_by : List ℕ → List ℕ → List ℕ → List ℕ → ℕ → Bool
unfolding rejoined_by
stale_by p again first t i = not (eqb (get_or t i 0) (rejoined_by p again first t i))

-- the table with the sets at some positions rewritten, one after the other
unfoldable pub mended_by : List ℕ → List ℕ → List ℕ → List ℕ → List ℕ → List ℕ
unfolding rejoined_by
mended_by p again first t [] = t
mended_by p again first t (i ∷ is) = mended_by p again first (set t i (rejoined_by p again first t i)) is
