-- Devices taken again (02, request 2): the give after which a job holds its device no more; the lines that change
-- nothing of what their job holds, since it holds their device before them and after; and what such a line counts as.
use Rattle.std.specs.Prelude.{ℕ, Bool, cond, not, ◌&&◌, ◌||◌}
use mathlib.Core.List.{List, tail}
use Rattle.model.specs.Lists.{has}
use Rattle.model.specs.Line.{pack, job, operand, is_take, is_give, at}
use Rattle.model.specs.WellFormed.{held_there}
use Rattle.model.specs.Mate.{device_at, holds_already}

-- the job of the line at i holds the line's device beside the hold made last
unfoldable pub holds_beneath : List ℕ → ℕ → Bool
unfolding has device_at
holds_beneath p i = has (device_at p i) (tail (held_there p i))

-- the line at i is an outermost give: its job does not hold the device after it
unfoldable pub frees_at : List ℕ → ℕ → Bool
unfolding is_give holds_beneath
frees_at p i = is_give (at p i) && not (holds_beneath p i)

-- the line at i takes again what its job holds, or gives such a take back; no held line does (02, request 5)
unfoldable pub again_at : List ℕ → ℕ → Bool
unfolding is_take is_give holds_already holds_beneath
again_at p i = (is_take (at p i) && holds_already p i) || (is_give (at p i) && holds_beneath p i)

-- what a line counts as: one that takes again, or gives such a take back, as a do of its job
unfoldable pub plain : Bool → ℕ → ℕ
unfolding pack job operand
plain again l = cond again (pack (job l) 0 (operand l)) l

abbrev pub plain_at : List ℕ → ℕ → ℕ
plain_at p i = plain (again_at p i) (at p i)
