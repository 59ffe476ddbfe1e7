-- The devices that each job holds after the plan's last line: those of its takes that no line gives back. Entry j is
-- job j's, as a set.
use Rattle.std.specs.Prelude.{ℕ, suc, List, map, length}
use Rattle.model.specs.Board.{devices}
use Rattle.model.specs.Lists.{up_from, has}
use Rattle.model.specs.Line.{max_job}
use Rattle.model.specs.Sets.{devices_where}
use Rattle.model.specs.WellFormed.{before, held_by}

unfoldable pub holding : List ℕ → ℕ → ℕ
unfolding devices_where has held_by before
holding p j = devices_where devices (λ d. has d (held_by j (before p (length p))))

unfoldable pub holdings : List ℕ → List ℕ
unfolding holding up_from
holdings p = map (holding p) (up_from 0 (suc max_job))
