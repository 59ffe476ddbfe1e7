-- 01, "Refusal numbers" (reading): all lines of a text, kept in the lent list: the fault of the plan, 11, or the plan.
-- No promise rests on these words.
use Rattle.std.specs.Prelude.{ℕ, List, [], ◌∷◌, length}
use Rattle.std.specs.Prelude.{Result, Ok, Err}
use Rattle.model.specs.declared.Refusal.{Refusal}
use Rattle.model.specs.Answers.{first_refusal, too_short, answer_values}
use Rattle.model.specs.Line.{Settings}
use Rattle.model.specs.Entries.{outcome}
use Rattle.model.specs.Lists.{over}
use Rattle.model.specs.WellFormed.{fault}
use Rattle.promises.specs.Outcome.{Meets}

abbrev pub KeepsAs : Settings → List ℕ → List ℕ → Result ℕ Refusal → List ℕ → Type 0
KeepsAs S lines lent answer left =
    Meets answer_values
    (outcome Err (first_refusal (fault S lines ∷ too_short (length lent) (length lines) ∷ []))
    (Ok (length lines)) (over lines lent) lent)
    answer left
