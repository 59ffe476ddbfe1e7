-- What one walk back over an edited plan and its rewritten table gathers (02, request 4): rows, lasting takes and what
-- is held to the end.
use Rattle.std.specs.Prelude.{ℕ, ◌≤◌, true, List, map, ◌≢◌, ◌≡◌, length, get_or}
use Rattle.std.proofs.Math.Option.{none}
use Rattle.model.specs.Board.{devices, board}
use Rattle.model.specs.Lists.{up_from}
use Rattle.model.specs.Line.{job, at}
use Rattle.model.specs.Mate.{lasting}
use Rattle.model.specs.Rows.{row_of}
use Rattle.model.specs.Sets.{member}
use Rattle.model.specs.WellFormed.{fault}
use Rattle.model.specs.Kept.{held_to_end}
use Rattle.plan.specs.Again.{again_flags}
use Rattle.plan.specs.Jobs.{first_lines}
use Rattle.rows.specs.Lasting.{lasting_flags}

-- a plan without a fault, the flags of the lines that take again, and a table with a set for each line
pub record Prepared (p again t : List ℕ) : Type 0 where
  pub sound : fault board p ≡ none
  pub agains : again ≡ again_flags p
  pub room : length p ≤ length t

-- The first line of each job; and for each job but `moved` a set that has the devices of its lasting takes, so that a
-- job whose set is empty can be passed over. (What each job held at its end before a claim of `moved` was moved is such
-- a set.)
pub record Skips (p first holdings : List ℕ) (moved : ℕ) : Type 0 where
  pub firsts : first ≡ first_lines p
  pub among : (k d : ℕ) → lasting p k d ≡ true → job (at p k) ≢ moved
      → member (get_or holdings (job (at p k)) 0) d ≡ true

-- the row of each device, by the plan and some table
abbrev pub rows_by : List ℕ → List ℕ → List ℕ
rows_by p t = map (row_of p t) (up_from 0 devices)

pub record GathersAs (p t : List ℕ) (to_end : ℕ) (rs flags : List ℕ) : Type 0 where
  pub held_is : to_end ≡ held_to_end devices p
  pub rows_are : rs ≡ rows_by p t
  pub flags_are : flags ≡ lasting_flags p
