-- Which lines take again what their job holds, or give such a take back (02, request 2), as the walk finds them: beside
-- the devices held it has for each open take what that has added to them, its device or nothing. A line changes less
-- than its verb says exactly if it is such a line. Beside them, what each job holds after the lines so far (02, request
-- 4).
use Rattle.std.specs.Prelude.{◌≡◌, ℕ, suc, ◌<◌, Bool, cond, not, List, [], ◌∷◌, length, ◌==◌, slice_index, slice_set}
use mir.Val.{bool_byte}
use Rattle.model.specs.Board.{devices}
use Rattle.model.specs.Lists.{has}
use Rattle.model.specs.Line.{job, opens, max_lines}
use Rattle.model.specs.Sets.{empty, union, member}
use Rattle.line.specs.Device.{device_bits}
use Rattle.sets.specs.Both.{both, differ, without}
use Rattle.sets.specs.Only.{only_of}
use Rattle.plan.specs.Again.{again_flags}
use Rattle.plan.specs.Holdings.{holdings}
use Rattle.plan.specs.Walk.{given_by}

-- the set of the device that a line takes or holds; that it gives too
abbrev pub taken_by : ℕ → ℕ
taken_by n = cond (opens n) (only_of devices (device_bits n)) empty

abbrev pub handled_by : ℕ → ℕ
handled_by n = union (taken_by n) (given_by n)

-- what a line changes of the devices held: of a give, what its take has added
unfoldable pub change_of : ℕ → ℕ → ℕ → ℕ
change_of n held latest = union (without (taken_by n) held) (both (given_by n) latest)

-- a new job holds nothing
abbrev pub change_after : ℕ → ℕ → ℕ → ℕ → List ℕ → ℕ
change_after n prev depth held added =
    change_of n (cond (job n == prev) held empty) (slice_index added (cond (job n == prev) depth 0))

-- what a take of a device adds: the device, unless it is held already
abbrev pub added_by : Bool → ℕ → ℕ
added_by again d = cond again empty (only_of devices d)

-- each open take has its place, the latest the highest
pub data Added (added : List ℕ) : List ℕ → Type 0 where
  bare : Added added []
  more : (d : ℕ) (ds : List ℕ) → slice_index added (suc (length ds)) ≡ added_by (has d ds) d → Added added ds
      → Added added (d ∷ ds)

-- the devices held, as a set and by what the open takes have added
pub record Noted (ds : List ℕ) (held : ℕ) (added : List ℕ) : Type 0 where
  pub long : length added ≡ suc max_lines
  pub same : (d : ℕ) → d < devices → member held d ≡ has d ds
  pub adds : Added added ds

-- what is noted of the line at position i: the devices held after it, also as its job's; what it has added; its flag
pub record NotesAs (i n prev depth held : ℕ) (added again left : List ℕ)
    (held' : ℕ) (added' again' left' : List ℕ) : Type 0 where
  pub holds : held' ≡ differ (cond (job n == prev) held empty) (change_after n prev depth held added)
  pub adds : added' ≡ slice_set added (suc (cond (job n == prev) depth 0)) (change_after n prev depth held added)
  pub flags : again' ≡ slice_set again i (bool_byte (not (handled_by n == change_after n prev depth held added)))
  pub keeps : left' ≡ slice_set left (job n) held'

-- what is noted of the whole plan: the flags, and the devices that each job holds after the last line
pub record NotesOf (p again left : List ℕ) : Type 0 where
  pub flags : again ≡ again_flags p
  pub held : left ≡ holdings p
