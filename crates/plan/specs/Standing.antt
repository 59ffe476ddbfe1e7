-- Where the walk stands between two lines, from line to line.
use Rattle.std.specs.Prelude.{◌≡◌, ℕ, suc, cond, ◌==◌}
use Rattle.model.specs.Board.{devices}
use Rattle.model.specs.Line.{job, is_held}
use Rattle.model.specs.Sets.{empty}
use Rattle.plan.specs.Walk.{named_after}
use Rattle.plan.specs.declared.Standing.{Standing}

-- a job that begins has no open take, and holds nothing
pub record InJob (n : ℕ) (before here : Standing) : Type 0 where
  pub passed : here.lines ≡ before.lines
  pub deep : here.depth ≡ cond (job n == before.job) before.depth 0
  pub holds : here.held ≡ cond (job n == before.job) before.held empty

-- after one line more
pub record After (n depth held : ℕ) (before here : Standing) : Type 0 where
  pub passed : here.lines ≡ suc before.lines
  pub of_job : here.job ≡ job n
  pub of_verb : here.early ≡ is_held n
  pub names : here.named ≡ named_after devices n before.named
  pub deep : here.depth ≡ depth
  pub holds : here.held ≡ held
