-- The order handed out as the code keeps it (01, "The order handed out"). A job that goes on is followed line by line.
-- Each other line that stands next waits at a place: a lasting take at the place of its device, any other line at that
-- of its job. The places taken are two sets, of jobs and of devices, so the lowest is read off a word; a list says
-- which line waits at each place. Takes still to do are counted by device, and a third set has the devices that at most
-- one of them takes; lines are counted as they count, so that a take of what its job holds is none (02, request 2).
use Rattle.std.specs.Prelude.{◌≡◌, ℕ, zero, suc, ◌+◌, ◌-◌, ◌%◌, ◌≤◌, Bool, cond, not, ◌&&◌, eqb, leb, ltb}
use Rattle.std.specs.Prelude.{List, length, get_or, set, replicate}
use Rattle.std.specs.Prelude as found
use Rattle.std.specs.Bool.{then_some}
use Rattle.std.specs.Int.{from_bool}
use Rattle.std.specs.Result.{is_ok}
use Rattle.model.specs.Sets.{empty, union, member, lowest_of}
use Rattle.model.specs.Line.{job, operand, is_take, is_start, at, max_lines, max_job}
use Rattle.model.specs.Mate.{lasting_at}
use Rattle.model.specs.WellFormed.{fault}
use Rattle.model.specs.Board.{devices, board}
use Rattle.theory.specs.Outer.{plain_at}
use Rattle.sets.specs.Only.{only_of}
use Rattle.sets.specs.Both.{both, without}
use Rattle.plan.specs.Checked.{checked}
use Rattle.plan.specs.Jobs.{first_lines}
use Rattle.verdict.specs.declared.waiting.Waiting.{Waiting}

-- ---- what the code is told of a plan

-- it has no fault, as a test
abbrev pub is_sound : List ℕ → Bool
is_sound p = is_ok (checked (fault board p))

-- ---- places: those of the jobs, job j at j - 1, and past them those of the devices

abbrev pub all_places : ℕ
all_places = max_job + devices

-- of a line, which is a lasting take or not; and of line i
unfoldable pub waiting_place : Bool → ℕ → ℕ
waiting_place lasts l = cond lasts (max_job + operand l) (job l - 1)

unfoldable pub place_at : List ℕ → ℕ → ℕ
unfolding waiting_place
place_at p i = waiting_place (lasting_at p i) (at p i)

-- no line waits
unfoldable pub idle : ℕ → Waiting
unfolding empty
idle scarce = record { ready = empty; awaited = empty; scarce = scarce }

-- a line waits at place s
unfoldable pub waits : Waiting → ℕ → Bool
waits w s = cond (ltb s max_job) (member w.ready s) (member w.awaited (s - max_job))

-- a change of the set that has place s, by the set of that place alone
unfoldable pub with_set : (ℕ → ℕ → ℕ) → Waiting → ℕ → Waiting
with_set f w s =
    cond (ltb s max_job)
    (record { ready = f w.ready (only_of max_job s); awaited = w.awaited; scarce = w.scarce })
    (record { ready = w.ready; awaited = f w.awaited (only_of devices (s - max_job)); scarce = w.scarce })

-- place s is taken, and left
unfoldable pub taken : Waiting → ℕ → Waiting
unfolding with_set
taken w s = with_set union w s

unfoldable pub vacated : Waiting → ℕ → Waiting
unfolding with_set
vacated w s = with_set without w s

-- line i comes to its place, if it is one of the plan: the sets, and the list
unfoldable pub arrived : List ℕ → Waiting → ℕ → Waiting
arrived p w i = cond (ltb i (length p)) (taken w (place_at p i)) w

unfoldable pub placed : List ℕ → List ℕ → ℕ → List ℕ
placed p places i = cond (ltb i (length p)) (set places (place_at p i) i) places

-- the foremost place: of the lowest job that can go on, otherwise of the lowest device of a lasting take whose device
-- no other line still takes
unfoldable pub foremost : Waiting → ℕ
foremost w =
    cond (ltb (lowest_of max_job w.ready) max_job) (lowest_of max_job w.ready)
    (max_job + lowest_of devices (both w.awaited w.scarce))

-- the line that goes next, and the lines that wait beside it
pub record Choice : Type 0 where
  pub line : ℕ
  pub others : Waiting

-- line i where its job goes on, otherwise the foremost
unfoldable pub choosing : List ℕ → Waiting → Bool → ℕ → Choice
choosing places w on i =
    cond on (record { line = i; others = w })
    (record { line = get_or places (foremost w) 0; others = vacated w (foremost w) })

-- the same, where the line at which a job goes on is named, if one does
abbrev pub chosen : List ℕ → Waiting → found.Option ℕ → Choice
chosen places w next = choosing places w (found.is_some next) (found.unwrap_or next 0)

-- ---- the lines that a line lets stand next, of which there is at most one of each kind

-- the next line is of the job of line i
unfoldable pub followed : List ℕ → ℕ → Bool
followed p i = ltb (suc i) (length p) && eqb (job (at p (suc i))) (job (at p i))

-- the job goes on there, without a place, if that is no lasting take
unfoldable pub goes_on : List ℕ → ℕ → Bool
goes_on p i = followed p i && not (lasting_at p (suc i))

-- the line at which a job goes on after the line done last, if it does: at first line 0
unfoldable pub goes_after : List ℕ → found.Option ℕ → found.Option ℕ
goes_after p found.None = found.Some 0
goes_after p (found.Some i) = then_some (goes_on p i) (i + 1)

-- a lasting take comes to its place; else the plan's length, which is no line
unfoldable pub lasting_after : List ℕ → ℕ → ℕ
lasting_after p i = cond (followed p i && lasting_at p (suc i)) (suc i) (length p)

-- a line by its number; a number past the plan's end is no line's
abbrev pub as_line : List ℕ → ℕ → found.Option ℕ
as_line p t = then_some (ltb t (length p)) t

-- the first line of the job that line i starts; else the plan's length
unfoldable pub started_line : List ℕ → ℕ → ℕ
started_line p i = cond (is_start (at p i)) (get_or (first_lines p) (operand (at p i)) 0 - 1) (length p)

-- ---- counts: a list with an entry for each device

-- the entry of a line's device; of a line that names no device of the board, some entry
abbrev pub slot : ℕ → ℕ
slot l = operand l % devices

-- one for a take, else nought
abbrev pub takes_one : ℕ → ℕ
takes_one l = from_bool (is_take l)

-- the count at the entry of a line is small, so that it can rise; it has what the line takes off
abbrev pub CanRise : List ℕ → ℕ → Type 0
CanRise counts l = get_or counts (slot l) 0 ≤ max_lines

abbrev pub CanFall : List ℕ → ℕ → Type 0
CanFall counts l = takes_one l ≤ get_or counts (slot l) 0

-- a line is counted, if it is a take
unfoldable pub added : List ℕ → ℕ → List ℕ
added counts l = set counts (slot l) (get_or counts (slot l) 0 + takes_one l)

-- the takes of each device among the first n lines
unfoldable pub tallied : List ℕ → ℕ → List ℕ
tallied p zero = replicate devices 0
tallied p (suc n) = added (tallied p n) (plain_at p n)

-- the set of a device, if it comes to be scarce; else no device
abbrev pub scarce_if : Bool → ℕ → ℕ
scarce_if b d = cond b (only_of devices d) empty

-- the devices below n that at most one line takes
unfoldable pub scarce_below : List ℕ → ℕ → ℕ
scarce_below counts zero = empty
scarce_below counts (suc n) = union (scarce_below counts n) (scarce_if (leb (get_or counts n 0) 1) n)

-- a line is done: the counts, and the sets. At most one line is left that takes its device, where at most two were.
unfoldable pub counted : List ℕ → ℕ → List ℕ
counted counts l = set counts (slot l) (get_or counts (slot l) 0 - takes_one l)

unfoldable pub settled : List ℕ → Waiting → ℕ → Waiting
settled counts w l = record {
  ready = w.ready;
  awaited = w.awaited;
  scarce = union w.scarce (scarce_if (is_take l && leb (get_or counts (slot l) 0) 2) (slot l));
}

-- the sets after line i, which waits at no place, is done
unfoldable pub passed : List ℕ → List ℕ → Waiting → ℕ → Waiting
passed p counts w i = arrived p (arrived p (settled counts w (plain_at p i)) (lasting_after p i)) (started_line p i)

-- and the list of the lines that wait
unfoldable pub replaced : List ℕ → List ℕ → ℕ → List ℕ
replaced p places i = placed p (placed p places (lasting_after p i)) (started_line p i)
