-- An order from elsewhere as the code follows it (02, requests 1 and 2): a list has for each job the number of its next
-- line, 0 until the job is started; place 0 is no job's. A set has the devices held. Lines are looked at as they count,
-- so that no take is of a device that its job holds. Then how many entries are legal steps.
use Rattle.std.specs.Prelude.{ℕ, suc, ◌≤◌, Bool, cond, not, ◌&&◌, ◌||◌, List, ◌≡◌, eqb, length, get_or, set}
use Rattle.std.proofs.Math.Option.{none, some}
use Rattle.model.specs.Board.{devices}
use Rattle.model.specs.Sets.{empty, member}
use Rattle.model.specs.Line.{job, operand, is_take, is_give, is_start}
use Rattle.model.specs.Mate.{steps}
use Rattle.model.specs.Judged.{stray}
use Rattle.sets.specs.Both.{differ}
use Rattle.sets.specs.Only.{only_of}

-- ---- what the code does

-- the line of number n is a legal next step: it is its job's next line, and takes no device that is held
unfoldable pub is_next : List ℕ → ℕ → ℕ → ℕ → Bool
is_next next held l n = eqb (get_or next (job l) 0) n && not (is_take l && member held (operand l))

-- the job that a line starts; 0 of another line
unfoldable pub started_by : ℕ → ℕ
started_by l = cond (is_start l) (operand l) 0

-- the line of number n is done: its job stands at the line after it, and the job that it starts at its first line
unfoldable pub passed : List ℕ → List ℕ → ℕ → ℕ → List ℕ
unfolding started_by
passed next first l n = set (set next (job l) (suc n)) (started_by l) (get_or first (started_by l) 0)

-- the devices held after a line: the one that it takes or gives is turned
abbrev pub set_after : ℕ → ℕ → ℕ
set_after l held = differ held (cond (is_take l || is_give l) (only_of devices (operand l)) empty)

-- ---- what it tells

-- so many entries from the front are legal steps: the next is the first that is none, if steps or entries are left
pub record StepsAs (p entries : List ℕ) (count : ℕ) : Type 0 where
  pub few : count ≤ length (steps p)
  pub strays : stray p entries
      ≡ cond (eqb count (length (steps p)) && eqb count (length entries)) none (some (suc count))
