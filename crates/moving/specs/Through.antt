-- What a move does for a caller that keeps more than the table (02, request 4): beside the outcome of `model`, where
-- the lines under the take end, and in the lent notes the first lines and starters of the jobs and the flags of the
-- lines that take again, of the plan as it is left; and what each job holds at its end, of the plan as it was.
use Rattle.std.specs.Prelude.{ℕ, List, ◌≡◌}
use Rattle.std.specs.Prelude.{Result, Ok, Err}
use Rattle.model.specs.declared.Refusal.{Refusal}
use Rattle.model.specs.Line.{Settings}
use Rattle.model.specs.WellFormed.{fault}
use Rattle.model.specs.Move.{asked_at}
use Rattle.model.specs.Entries.{moving}
use Rattle.mates.specs.Span.{span_of, stop_of}
use Rattle.plan.specs.Again.{again_flags}
use Rattle.plan.specs.Ends.{left_by}
use Rattle.plan.specs.Holdings.{holdings}
use Rattle.plan.specs.Jobs.{first_lines, starters}
use Rattle.plan.specs.declared.Notes.{Notes}
use Rattle.moving.specs.declared.Moved.{Moved}

abbrev pub through_by : Result ℕ Refusal → ℕ → Result Moved Refusal
through_by (Ok n) stop = Ok (record { changed = n; stop = stop })
through_by (Err r) stop = Err r

-- a plan with a fault leaves the notes as they were
pub record MovesThrough (S : Settings) (p t : List ℕ) (line device : ℕ) (lent : Notes) (answer : Result Moved Refusal)
    (p' t' : List ℕ) (left : Notes) : Type 0 where
  pub answers : answer ≡ through_by (moving S p t line device).answer (stop_of (span_of p (asked_at line)))
  pub plan : p' ≡ (moving S p t line device).left.plan
  pub sets : t' ≡ (moving S p t line device).left.sets
  pub firsts : left.first ≡ left_by (fault S p) (first_lines p) lent.first
  pub starts : left.starter ≡ left_by (fault S p) (starters p) lent.starter
  pub agains : left.again ≡ left_by (fault S p) (again_flags p') lent.again
  pub holds : left.holdings ≡ left_by (fault S p) (holdings p) lent.holdings
