-- What `table` promises (01, "Claims and rows" and "Refusal numbers"), and the words for what follows.
use Rattle.std.specs.Prelude.{ℕ, List, ◌≡◌, length, take}
use Rattle.std.specs.Prelude.{Result}
use Rattle.model.specs.Line.{Settings}
use Rattle.model.specs.Answers.{answer_values}
use Rattle.model.specs.WellFormed.{WellFormed}
use Rattle.model.specs.Claims.{table}
use Rattle.model.specs.Entries.{tabling}
use Rattle.model.specs.declared.Refusal.{Refusal}
use Rattle.theory.specs.WellFormed.{Broken}
use Rattle.promises.specs.Outcome.{Meets, Listed, NoFurther, Fills}

abbrev pub TablesAs : Settings → List ℕ → List ℕ → Result ℕ Refusal → List ℕ → Type 0
TablesAs S plan lent answer left = Meets answer_values (tabling S plan lent) answer left

-- why a plan gets no table: 2 to 7, 16 or 17; or, where nothing is broken, 11
abbrev pub NoTable : Settings → List ℕ → List ℕ → Refusal → Type 0
NoTable S plan lent = Listed (WellFormed S plan) (Broken S plan) (length lent) (length plan) NoFurther

abbrev pub IsTabled : Settings → List ℕ → List ℕ → ℕ → List ℕ → Type 0
IsTabled S plan lent count left = Fills (WellFormed S plan) (table plan) lent count left

-- A plan without a fault and its own table, in a list that may be longer: what `table` leaves.
pub record OwnTable (S : Settings) (plan sets : List ℕ) : Type 0 where
  pub sound : WellFormed S plan
  pub own : take (length plan) sets ≡ table plan
