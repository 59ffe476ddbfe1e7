-- The lasting takes of a plan (01, "Rules of a well-formed plan" and "Claims and rows"): a flag for each line, and the
-- set of the devices that two lines keep to the end. Below them the steps of the walk back.
use Rattle.std.specs.Prelude.{ℕ, suc, ◌-◌, Bool, cond, List, map, length, ◌==◌, nat_le, slice_index, slice_set}
use Rattle.model.specs.Lists.{up_from}
use Rattle.model.specs.Line.{job, operand, opens, is_give, max_lines}
use Rattle.model.specs.Mate.{lasting_at}
use Rattle.model.specs.Sets.{union, devices_where}
use Rattle.model.specs.Verdict.{keepers}

-- 1 at a lasting take, else 0; past the plan 0
unfoldable pub lasting_flag : List ℕ → ℕ → ℕ
unfolding lasting_at
lasting_flag p i = cond (lasting_at p i) 1 0

unfoldable pub lasting_flags : List ℕ → List ℕ
unfolding lasting_flag up_from
lasting_flags p = map (lasting_flag p) (up_from 0 max_lines)

-- the devices that two lines keep: in a plan of the morning, those with two lasting takes
unfoldable pub held_twice : ℕ → List ℕ → ℕ
unfolding devices_where keepers
held_twice D p = devices_where D (λ d. nat_le 2 (length (keepers p d)))

-- Going back, the gives of a job that still want their takes are counted. What is wanted before a line, where so much
-- is wanted after it: a take or a held line serves one, a give is one more.
unfoldable pub wanted_before : ℕ → ℕ → ℕ
unfolding opens is_give
wanted_before l after = cond (opens l) (after - 1) (cond (is_give l) (suc after) after)

-- what is wanted after a line, with so much wanted from the line passed last on, which is of job j: another job wants
-- nothing
unfoldable pub wanted_after : ℕ → ℕ → ℕ → ℕ
unfolding job
wanted_after l j wanted = cond (job l == j) wanted 0

-- the rows with what lies beyond a line joined to the row of its device, where the line lasts
unfoldable pub row_joined : ℕ → Bool → ℕ → List ℕ → List ℕ
unfolding operand union
row_joined l lasts next rows = cond lasts (slice_set rows (operand l) (union next (slice_index rows (operand l)))) rows
