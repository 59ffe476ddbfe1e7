-- 01, "Moving a claim": the way as the code walks it, from line number to line number; and the lines under a take (02,
-- request 2). (That with the tables of a well-formed plan these are the lines of `model` is shown in proofs/.)
use Rattle.std.specs.Prelude.{Option, Some, None}
use Rattle.std.specs.Prelude.{ℕ, zero, suc, ◌-◌, cond, ◌&&◌, List, [], ◌∷◌, eqb, leb, ltb, length, get_or}
use Rattle.model.specs.Lists.{up_from}
use Rattle.model.specs.Line.{job, at}

-- the line with a number, by its place; 0 is no line's
abbrev pub line_with : ℕ → Option ℕ
line_with zero = None
line_with (suc i) = Some i

-- After the line at i the way goes on at the line with this number, and ends at 0. It goes to the line before, if that
-- is of the same job; else to the line that starts the job, if the table has one that stands further up.
unfoldable pub line_before : List ℕ → List ℕ → ℕ → ℕ
unfolding job
line_before p starter i =
    let s : ℕ = get_or starter (job (at p i)) 0 in
    cond (eqb i 0) 0 (cond (eqb (job (at p (i - 1))) (job (at p i))) i (cond (ltb i s) 0 s))

-- the positions passed from the line with number n on, m of them at most
unfoldable pub walked : List ℕ → List ℕ → ℕ → ℕ → List ℕ
unfolding line_before
walked p starter zero n = []
walked p starter (suc m) zero = []
walked p starter (suc m) (suc i) = i ∷ walked p starter m (line_before p starter i)

-- each line stands further up than the one before it, so that there are no more than n
abbrev pub way_from : List ℕ → List ℕ → ℕ → List ℕ
way_from p starter n = walked p starter n n

-- where the way of the line at i begins; 0 where the plan has no line there, or the table t no set
unfoldable pub begin_of : List ℕ → List ℕ → ℕ → ℕ
begin_of p t i = cond (ltb i (length p) && ltb i (length t)) (suc i) 0

unfoldable pub way_by : List ℕ → List ℕ → List ℕ → ℕ → List ℕ
unfolding begin_of walked
way_by p t starter i = way_from p starter (begin_of p t i)

-- the lines after the line at i and before position stop; none where the plan or the table does not go so far
unfoldable pub under_by : List ℕ → List ℕ → ℕ → ℕ → List ℕ
unfolding up_from
under_by p t i stop = up_from (suc i) (cond (leb stop (length p) && leb stop (length t)) stop 0 - suc i)
