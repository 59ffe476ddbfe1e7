-- What is known where the way is walked for a move (01, "Moving a claim"): the plan is well-formed, its scan has left
-- the first line of each job, the line that starts it and the flags of the lines that take again, and the table has a
-- set for each line. A plan of the morning is well-formed at midday too (02, request 5; theory, WellFormed:
-- `morning_midday`), and nothing here needs more, so that plans of either kind are walked alike.
use Rattle.std.specs.Prelude.{ℕ, ◌≤◌, true, List, ◌≡◌, length}
use Rattle.model.specs.Board.{board_at}
use Rattle.model.specs.WellFormed.{WellFormed}
use Rattle.plan.specs.Jobs.{first_lines, starters}
use Rattle.plan.specs.Again.{again_flags}

pub record Scanned (p first starter again : List ℕ) : Type 0 where
  pub well_formed : WellFormed (board_at true) p
  pub firsts : first ≡ first_lines p
  pub starts : starter ≡ starters p
  pub agains : again ≡ again_flags p

pub record Known (p t first starter again : List ℕ) : Type 0 where
  pub scan : Scanned p first starter again
  pub room : length p ≤ length t
