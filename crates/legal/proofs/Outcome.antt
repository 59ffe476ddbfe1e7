-- The outcomes of the judge, by what was found (02, request 1): 2 to 7, 16 and 17 of the plan; then 15 where an entry
-- is no legal step, and otherwise a legal order.
use Prim.Native.Nat.{ℕ, ◌+◌}
use Rattle.std.specs.Prelude.{Result, Ok, Err}
use mathlib.Core.Bool.{Bool, true, false, ◌&&◌}
use mathlib.Core.List.{List}
use mathlib.Core.Option.{Option, none, some}
use mathlib.Core.Path.{◌≡◌, ◌∙◌, ap}
use native.Mathlib.Numerals.{add-one}
use lib.Dec.{eqb}
use lib.ListN.{length}
use Rattle.model.specs.Answers.{refuse_at, first_refusal}
use Rattle.model.specs.Line.{Settings}
use Rattle.model.specs.WellFormed.{fault}
use Rattle.model.specs.Mate.{steps}
use Rattle.model.specs.Judged.{judge_refusal, judged_by, judging}
use Rattle.model.specs.Board.{board_at}
use Rattle.model.specs.declared.Refusal.{Refusal}
use Rattle.model.specs.declared.Refusal.TheVariants.{IllegalStep}
use Rattle.plan.specs.Again.{again_flags}
use Rattle.plan.specs.Jobs.{first_lines, starters}
use Rattle.plan.specs.Ends.{left_by, ScansAs}
use Rattle.plan.specs.declared.Notes.{Notes}
use Rattle.promises.specs.Judge.{JudgesAs}
use Rattle.legal.specs.Begun.{Tabled}
use Rattle.legal.specs.Steps.{StepsAs}

-- what the scan notes of a plan without a fault
pub tabled : {midday : Bool} {p : List ℕ} {lent notes : Notes} {answer : Result (Unit {0}) Refusal}
    → ScansAs (board_at midday) p lent answer notes → fault (board_at midday) p ≡ none → Tabled midday p notes
tabled {midday} {p} {lent} s e = record {
  sound = e;
  firsts = s.firsts ∙ ap (λ (o : Option Refusal). left_by o (first_lines p) lent.first) e;
  starts = s.starts ∙ ap (λ (o : Option Refusal). left_by o (starters p) lent.starter) e;
  agains = s.agains ∙ ap (λ (o : Option Refusal). left_by o (again_flags p) lent.again) e;
}

module _ (S : Settings) (p es : List ℕ) where
  pub faulty : (r : Refusal) → fault S p ≡ some r → JudgesAs S p es (Err r)
  unfolding judging judged_by judge_refusal first_refusal
  faulty r e = record { answers = rw e }

  -- the judge's tests, by the number of steps that there are
  module _ (sound : fault S p ≡ none) (there : ℕ) (counted : there ≡ length (steps p)) (count : ℕ)
      (s : StepsAs p es count) where
    pub legal : (eqb count there && eqb count (length es)) ≡ true → JudgesAs S p es (Ok tt)
    unfolding judging judged_by judge_refusal first_refusal refuse_at
    legal e = record { answers = rw (sound, s.strays, ← counted, e) }

    pub illegal : (eqb count there && eqb count (length es)) ≡ false
        → JudgesAs S p es (Err (IllegalStep (count + 1)))
    unfolding judging judged_by judge_refusal first_refusal refuse_at
    illegal e = record { answers = rw (sound, s.strays, ← counted, e, add-one count) }
