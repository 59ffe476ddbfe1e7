-- What a walk back over a plan finds, and the outcomes of the entries above it (01, "Claims and rows"; 02, request 2).
use Rattle.std.specs.Prelude.{◌≡◌, ℕ, ◌%◌, ◌^◌, Bool, cond, ◌&&◌, List, ◌==◌, slice_index, slice_set}
use Rattle.std.specs.Prelude.{Result, Ok, Err}
use Rattle.std.proofs.Math.Option.{Option, none, some}
use Rattle.model.specs.Board.{devices, board}
use Rattle.model.specs.Line.{job, operand, is_take}
use Rattle.model.specs.Rows.{rows}
use Rattle.model.specs.Sets.{empty, union}
use Rattle.model.specs.WellFormed.{fault}
use Rattle.model.specs.declared.Refusal.{Refusal}
use Rattle.plan.specs.Jobs.{first_lines, starters}
use Rattle.plan.specs.Again.{again_flags}
use Rattle.plan.specs.Holdings.{holdings}
use Rattle.plan.specs.Ends.{left_by}
use Rattle.plan.specs.declared.Notes.{Notes}
use Rattle.sets.specs.Only.{only_of}
use Rattle.sets.specs.Both.{both}
use Rattle.claims.specs.Claim.{claim_of, table_in}
use Rattle.rows.specs.declared.Passed.{Passed}
use Rattle.rows.specs.declared.Held.{Held}
use Rattle.model.specs.Kept.{held_to_end}
use Rattle.rows.specs.Lasting.{lasting_flags, held_twice, wanted_before, wanted_after, row_joined}

-- the rows of the board's devices
abbrev pub rows_of : List ℕ → List ℕ
rows_of p = rows devices p

-- With the devices of one set more: those that were held already are held twice.
abbrev pub held_with : Held → ℕ → Held
held_with h s = record { held = union s h.held; twice = union (both h.held s) h.twice }

-- One line further back, as it stands and as it counts: what is wanted, whether the line lasts, and the two sets with
-- its device if it does; the rows with what lies beyond it, the line's claim set, and that set as what its job claims.
pub record PassedOn (r old : Passed) (l plain : ℕ) : Type 0 where
  pub job_is : r.job ≡ job l
  pub wanted_is : r.wanted ≡ wanted_before l (wanted_after l old.job old.wanted) % 2 ^ 32
  pub lasts_is : r.lasts ≡ (is_take plain && wanted_after l old.job old.wanted == 0)
  pub holds_are : r.holds ≡ held_with old.holds (cond r.lasts (only_of devices (operand l)) empty)

pub record JoinedOn (l : ℕ) (lasts : Bool) (rs claimed : List ℕ) (s : ℕ) (rs' claimed' : List ℕ) : Type 0 where
  pub set_is : s ≡ claim_of l (slice_index claimed (job l)) claimed
  pub rows_are : rs' ≡ row_joined l lasts (slice_index claimed (job l)) rs
  pub claimed_is : claimed' ≡ slice_set claimed (job l) s

-- the two sets are the plan's
pub record HeldAs (r : Held) (p : List ℕ) : Type 0 where
  pub to_end : r.held ≡ held_to_end devices p
  pub twice : r.twice ≡ held_twice devices p

-- the walk back has the plan's sets, rows and flags, and as much of its table as was lent room
pub record WalkedAs (p lent : List ℕ) (r : Held) (rs flags table : List ℕ) : Type 0 where
  pub held : HeldAs r p
  pub rows_are : rs ≡ rows_of p
  pub flags_are : flags ≡ lasting_flags p
  pub table_is : table ≡ table_in p lent

-- The holds of a plan: the fault, or the two sets; and what is lent, which a refusal leaves as it was.
abbrev pub holds_by : Option Refusal → List ℕ → Result Held Refusal
holds_by none p = Ok (record { held = held_to_end devices p; twice = held_twice devices p })
holds_by (some r) p = Err r

pub record HoldsAs (p : List ℕ) (lent : Notes) (rs flags : List ℕ) (answer : Result Held Refusal) (left : Notes)
    (rs' flags' : List ℕ) : Type 0 where
  pub answers : answer ≡ holds_by (fault board p) p
  pub firsts_are : left.first ≡ left_by (fault board p) (first_lines p) lent.first
  pub starts_are : left.starter ≡ left_by (fault board p) (starters p) lent.starter
  pub agains_are : left.again ≡ left_by (fault board p) (again_flags p) lent.again
  pub held_are : left.holdings ≡ left_by (fault board p) (holdings p) lent.holdings
  pub rows_are : rs' ≡ left_by (fault board p) (rows_of p) rs
  pub flags_are : flags' ≡ left_by (fault board p) (lasting_flags p) flags

-- the same with the table, as far as its list has room, and without notes and flags
pub record TabledAs (p rs table : List ℕ) (answer : Result Held Refusal) (rs' table' : List ℕ) : Type 0 where
  pub answers : answer ≡ holds_by (fault board p) p
  pub rows_are : rs' ≡ left_by (fault board p) (rows_of p) rs
  pub table_is : table' ≡ left_by (fault board p) (table_in p table) table
