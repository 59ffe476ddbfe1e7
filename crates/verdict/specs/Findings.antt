-- What the verdict is told of a plan without a fault beside what the order is handed out by: what the search for its
-- holds found (01, "Claims and rows").
use Rattle.std.specs.Prelude.{List, ℕ, ◌≡◌}
use Rattle.model.specs.Board.{devices}
use Rattle.model.specs.Kept.{held_to_end}
use Rattle.rows.specs.Lasting.{held_twice}
use Rattle.rows.specs.Holds.{rows_of}
use Rattle.rows.specs.declared.Held.{Held}

pub record Findings (p rs : List ℕ) (holds : Held) : Type 0 where
  pub rows_are : rs ≡ rows_of p
  pub to_end : holds.held ≡ held_to_end devices p
  pub twice_are : holds.twice ≡ held_twice devices p
