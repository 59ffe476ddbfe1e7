-- What `verdict` promises (01, "The order handed out" and "Refusal numbers"), and the words for what follows. At midday
-- (02, request 5) an order has the steps of the plan, which are its lines but for the held ones; in the morning these
-- are all lines.
use Rattle.std.specs.Prelude.{ℕ, ◌<◌, true, false, List, [], ◌∷◌, ◌++◌, map, ◌≡◌, length}
use Rattle.std.specs.Prelude.{Result, Ok, Err}
use Rattle.model.specs.Lists.{up_from, has, those, over}
use Rattle.model.specs.Line.{Settings, line_number}
use Rattle.model.specs.Mate.{held_at, held_lines, steps}
use Rattle.model.specs.Legal.{held, Legal}
use Rattle.model.specs.Answers.{answer_values}
use Rattle.model.specs.WellFormed.{WellFormed}
use Rattle.model.specs.Entries.{ordering}
use Rattle.model.specs.declared.Refusal.{Refusal}
use Rattle.theory.specs.WellFormed.{Broken}
use Rattle.theory.specs.Verdict.{NoOrder}
use Rattle.promises.specs.Outcome.{Meets, Listed}

abbrev pub OrdersAs : Settings → List ℕ → List ℕ → Result ℕ Refusal → List ℕ → Type 0
OrdersAs S plan lent answer left = Meets answer_values (ordering S plan lent) answer left

-- ---- what follows

-- why a plan gets no order: 2 to 7, 16 or 17; where nothing is broken, 11; and where there is room, 9 or 10
abbrev pub NoVerdict : Settings → List ℕ → List ℕ → Refusal → Type 0
NoVerdict S plan lent =
    Listed (WellFormed S plan) (Broken S plan) (length lent) (length (steps plan)) (NoOrder S.devices plan)

-- no number stands twice in a list
abbrev pub Apart : List ℕ → Type 0
Apart [] = Unit {0}
Apart (i ∷ o) = (has i o ≡ false) × Apart o

-- a list has each step of a plan, once, and nothing else: lines of the plan, no held line, each other line, and none
-- twice
pub record StepsOnce (plan o : List ℕ) : Type 0 where
  pub below : (i : ℕ) → has i o ≡ true → i < length plan
  pub not_held : (i : ℕ) → has i o ≡ true → held_at plan i ≡ false
  pub each : (i : ℕ) → i < length plan → held_at plan i ≡ false → has i o ≡ true
  pub once : Apart o

-- What an accepted plan's list is left with: the line numbers of a legal order of each step once, and past them what
-- was there; and the number answered is how many devices are held once the held lines and that order are done.
pub record Ordered (S : Settings) (plan lent : List ℕ) (still_held : ℕ) (left : List ℕ) : Type 0 where
  pub order : List ℕ
  pub legal : Legal plan order
  pub steps_once : StepsOnce plan order
  pub written : left ≡ over (map line_number order) lent
  pub counted : still_held ≡ length (those (held plan (held_lines plan ++ order)) (up_from 0 S.devices))

-- The verdict on a plan without a fault, in a list that is long enough: a legal order; or 9 or 10 for its reason, no
-- order of the plan is legal, and the list is as it was.
pub data Decided (S : Settings) (plan lent : List ℕ) : Result ℕ Refusal → List ℕ → Type 0 where
  ordered : (n : ℕ) (left : List ℕ) → Ordered S plan lent n left → Decided S plan lent (Ok n) left
  unordered : (r : Refusal) → NoOrder S.devices plan r → ((o : List ℕ) → Legal plan o → ⊥)
      → Decided S plan lent (Err r) lent
