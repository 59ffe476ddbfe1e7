-- What `judge` promises (02, request 1), and the words for what follows. `entries` is the order from elsewhere, as line
-- numbers; nothing that is lent is written to.
use Rattle.std.specs.Prelude.{ℕ, List, ◌≡◌}
use Rattle.std.specs.Prelude.{Result}
use Rattle.model.specs.Line.{Settings}
use Rattle.model.specs.Answers.{judge_values}
use Rattle.model.specs.WellFormed.{WellFormed}
use Rattle.model.specs.Judged.{judging}
use Rattle.model.specs.declared.Refusal.{Refusal}
use Rattle.model.specs.declared.Refusal.TheVariants.{IllegalStep}
use Rattle.theory.specs.WellFormed.{Broken}
use Rattle.theory.specs.Judged.{StrayAt}

pub record JudgesAs (S : Settings) (plan entries : List ℕ) (answer : Result (Unit {0}) Refusal) : Type 0 where
  pub answers : judge_values answer ≡ judge_values (judging S plan entries)

-- ---- what follows

-- why an order is refused: 2 to 7, 16 or 17 of the plan; where nothing is broken, 15 at the first entry that cannot
-- come there or is missing
pub data NotPassed (S : Settings) (plan entries : List ℕ) : Refusal → Type 0 where
  faulty : (r : Refusal) → Broken S plan r → NotPassed S plan entries r
  astray : (position : ℕ) → WellFormed S plan → StrayAt plan entries position
      → NotPassed S plan entries (IllegalStep position)
