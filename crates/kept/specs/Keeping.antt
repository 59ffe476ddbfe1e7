-- How rows and held set are kept, as the code does it (02, request 4), and how the quick verdict is decided by sets.
-- (That these are the outcomes of `model` is shown in proofs/.)
use Rattle.std.specs.Prelude.{ℕ, zero, suc, cond, List, [], ◌∷◌, map, ◌≡◌, ltb, length, get_or, set, take}
use Rattle.std.specs.Prelude.{Result}
use Rattle.std.proofs.Math.Option.{Option, none, some}
use Rattle.model.specs.Board.{devices}
use Rattle.model.specs.Lists.{up_from, those, over}
use Rattle.model.specs.Sets.{empty, union, member, lowest_of}
use Rattle.model.specs.Answers.{refuse_if, first_refusal, too_short}
use Rattle.model.specs.Line.{operand, at}
use Rattle.model.specs.Kept.{held_to_end, quick_by}
use Rattle.model.specs.declared.Refusal.{Refusal}
use Rattle.model.specs.declared.Refusal.TheVariants.{ListTooShort, TwoLasting, LeadsBack}
use Rattle.sets.specs.Only.{only_of}
use Rattle.sets.specs.Both.{both, without}
use Rattle.rows.specs.Lasting.{lasting_flags}
use Rattle.rows.specs.Where.{circles_of}
use Rattle.way.specs.Back.{way_by}
use Rattle.way.specs.Flagged.{flagged_by}
use Rattle.kept.specs.Gathered.{rows_by}

-- ---- too little room

-- a fault of the plan, or 11 for the first list that is too short; of n lines, with room for so many sets and rows
abbrev pub refused_by : Option Refusal → ℕ → ℕ → ℕ → Refusal
refused_by (some r) n sets rs = r
refused_by none n sets rs =
    cond (ltb sets n) (ListTooShort n) (cond (ltb rs devices) (ListTooShort devices) (ListTooShort 1))

-- ---- moving

-- rows made, of the devices of a set, over lent ones
unfoldable pub row_over : ℕ → List ℕ → List ℕ → ℕ → ℕ
unfolding member
row_over these made lent d = cond (member these d) (get_or made d 0) (get_or lent d 0)

abbrev pub new_rows : ℕ → List ℕ → List ℕ → List ℕ
new_rows these made lent = map (row_over these made lent) (up_from 0 devices)

unfoldable pub rows_over : ℕ → List ℕ → List ℕ → List ℕ
unfolding over row_over up_from
rows_over these made lent = over (new_rows these made lent) lent

-- a held set with a device in it if it is in another set, otherwise without it
unfoldable pub held_with : ℕ → ℕ → ℕ → ℕ
unfolding union without both only_of
held_with held to_end d = union (without held (only_of devices d)) (both to_end (only_of devices d))

-- the operand of the line asked for, which of a take is its device; 0 where the plan has no such line
abbrev pub operand_of : List ℕ → ℕ → ℕ
operand_of p zero = 0
operand_of p (suc i) = operand (at p i)

-- the old device, the new one, and those with a lasting take on the way of the line at `last`
unfoldable pub concerned_by : List ℕ → List ℕ → List ℕ → ℕ → ℕ → ℕ → ℕ
unfolding union only_of flagged_by lasting_flags way_by empty
concerned_by p starter t last old device =
    union (only_of devices old)
    (union (only_of devices device) (flagged_by p (lasting_flags p) (way_by p t starter last) empty))

-- what is left of rows and held set: p is the edited plan, t the rewritten table
pub record KeepsAs (p starter t : List ℕ) (last old device : ℕ) (rs held rs' held' : List ℕ) : Type 0 where
  pub rows_are : rs' ≡ rows_over (concerned_by p starter t last old device) (rows_by p t) rs
  pub held_is : held' ≡ set held 0 (held_with (held_with (get_or held 0 0) (held_to_end devices p) old)
      (held_to_end devices p) device)

-- ---- the quick verdict

-- a refusal at the lowest device of a set, by the number that stands for it; none where the set has no device
unfoldable pub refuse_lowest : (ℕ → Refusal) → ℕ → Option Refusal
unfolding refuse_if lowest_of
refuse_lowest r s = refuse_if (ltb (lowest_of devices s) devices) (r (lowest_of devices s))

-- by the set of the devices held to the end, and of those with two lasting takes
unfoldable pub decided : List ℕ → ℕ → ℕ → Result ℕ Refusal
unfolding quick_by first_refusal too_short refuse_lowest circles_of those member up_from
decided rs held twice =
    quick_by
    (first_refusal
    (too_short (length rs) devices ∷ refuse_lowest TwoLasting twice
    ∷ refuse_lowest LeadsBack (circles_of (take devices rs)) ∷ []))
    (length (those (member held) (up_from 0 devices)))
