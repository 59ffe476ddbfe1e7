-- What a scan of the whole plan answers and leaves, from what the walk and the last tests found.
use Rattle.std.proofs.Common.{◌≡◌, Bool, true, List, ℕ, Result, Ok, Err, [], refl}
use Rattle.model.specs.Line.{Settings}
use Rattle.model.specs.Answers.{first_refusal}
use Rattle.model.specs.WellFormed.{first_fault, fault}
use Rattle.model.specs.declared.Refusal.{Refusal}
use Rattle.plan.specs.Walk.{Walked}
use Rattle.plan.specs.Noting.{NotesOf}
use Rattle.plan.specs.Ends.{EndsAs, WholeAs}
use Rattle.plan.specs.declared.Notes.{Notes}
use Rattle.plan.proofs.Answers.{told, untold}
use Rattle.plan.proofs.LastFaults.{ends_find}
use Rattle.plan.proofs.Tables.{firsts_are_lem, starters_are}

module _ (noting : Bool) (S : Settings) (p : List ℕ) (left : Notes) where
  -- a line is refused
  pub at_a_line : (r : Refusal) → Walked S p (Err r) left → WholeAs noting S p (Err r) left
  unfolding fault first_refusal
  at_a_line r w = record { answers = rw (told (first_fault S [] p) r w.answers); tables = λ z. absurd (cc) }

  -- no line is
  pub past_the_lines : (r : Result (Unit {0}) Refusal) → Walked S p (Ok tt) left
      → (noting ≡ true → NotesOf p left.again left.holdings) → EndsAs S.midday left.first left.starter r
      → WholeAs noting S p r left
  past_the_lines r w notes e =
      let t = w.tables refl in record {
        answers = ends_find S p left.first left.starter t r e (untold (first_fault S [] p) w.answers);
        tables = λ z. (firsts_are_lem S p left.first left.starter t, starters_are S p left.first left.starter t, notes);
      }
