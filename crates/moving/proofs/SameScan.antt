-- What the scan of a plan leaves; and that the edited plan has the same first lines, starts and way, so that the scan
-- serves it too, and as many lines, so that the same sets are counted.
use Prim.Native.Nat.{ℕ, zero, suc}
use mathlib.Core.Bool.{Bool, true, false}
use mathlib.Core.List.{List, map}
use mathlib.Core.Option.{Option, none}
use mathlib.Core.Path.{◌≡◌, refl, ◌∙◌, ap, fun_ext}
use lib.ListN.{length}
use Rattle.model.specs.Lists.{up_from, positions, first_of}
use Rattle.model.specs.Line.{job, starts, at, max_job}
use Rattle.model.specs.Board.{devices, board_at, board}
use Rattle.model.specs.WellFormed.{WellFormed, fault}
use Rattle.model.specs.Move.{way_in, way, changed}
use Rattle.model.specs.declared.Refusal.{Refusal}
use Rattle.plan.specs.Ends.{left_by, ScansAs}
use Rattle.plan.specs.Jobs.{number_of_first, number_of_found, first_lines, starters}
use Rattle.plan.specs.Again.{again_flags}
use Rattle.plan.specs.declared.Notes.{Notes}
use Rattle.std.specs.Prelude.{Result}
use Rattle.theory.proofs.Edited.{Alike, same_first, same_starts}
use Rattle.theory.proofs.WellFormed.{no_fault_exactly, morning_midday}
use Rattle.way.specs.Known.{Scanned}

-- a plan of the morning is well-formed at midday too
pub at_midday_lem : (midday : Bool) (p : List ℕ) → WellFormed (board_at midday) p → WellFormed (board_at true) p
at_midday_lem true p w = w
at_midday_lem false p w = morning_midday devices p w

pub is_scanned : (p : List ℕ) (lent left : Notes) (answer : Result (Unit {0}) Refusal)
    → ScansAs board p lent answer left → fault board p ≡ none → Scanned p left.first left.starter left.again
is_scanned p lent left answer s e = record {
  well_formed = at_midday_lem false p ((no_fault_exactly board p).0 e);
  firsts = s.firsts ∙ ap (λ (o : Option Refusal). left_by o (first_lines p) lent.first) e;
  starts = s.starts ∙ ap (λ (o : Option Refusal). left_by o (starters p) lent.starter) e;
  agains = s.agains ∙ ap (λ (o : Option Refusal). left_by o (again_flags p) lent.again) e;
}

module _ (p q : List ℕ) (a : Alike p q) where
  pub same_firsts : first_lines q ≡ first_lines p
  unfolding first_lines
  same_firsts =
      ap (λ (f : ℕ → ℕ). map f (up_from 0 (suc max_job))) (fun_ext (λ j. ap number_of_first (same_first j p q a)))

  pub same_starters : starters q ≡ starters p
  unfolding starters positions
  same_starters =
      ap (λ (f : ℕ → ℕ). map f (up_from 0 (suc max_job)))
      (fun_ext (λ j. ap number_of_found
      (ap (λ (n : ℕ). first_of (λ i. starts (at q i) j) (up_from 0 n)) a.long
      ∙ ap (λ (f : ℕ → Bool). first_of f (up_from 0 (length p))) (fun_ext (λ i. same_starts p q a i j)))))

  same_way_in : (j n : ℕ) → way_in q j n ≡ way_in p j n
  unfolding way_in
  same_way_in j zero = refl
  same_way_in j (suc n) = cc (a.jobs n, same_starts p q a n j, same_way_in j n, same_way_in (job (at p n)) n)

  pub same_way : (i : ℕ) → way q i ≡ way p i
  unfolding way
  same_way i = ap (λ (j : ℕ). way_in q j (suc i)) (a.jobs i) ∙ same_way_in (job (at p i)) (suc i)

  pub same_changed : (old new : List ℕ) → changed q old new ≡ changed p old new
  unfolding changed positions
  same_changed old new = rw a.long
