-- 01, "The plan as text" (its table and limits) and "Packed", and the held lines of 02, request 5: a line as its packed
-- number. A plan is the list of its packed numbers. Positions count from 0; the number of a line is its position plus
-- one.
use Rattle.std.specs.Prelude.{ℕ, suc, ◌+◌, ◌-◌, ◌*◌, ◌/◌, ◌%◌, Bool, true, false, cond, not, ◌&&◌, ◌||◌, List, [], ◌∷◌}
use Rattle.std.specs.Prelude.{map, eqb, leb, ltb, get_or}
use Rattle.model.specs.Lists.{any}

-- the limits
abbrev pub max_lines : ℕ
max_lines = 1024

abbrev pub max_bytes : ℕ
max_bytes = 12288

abbrev pub max_job : ℕ
max_job = 64

-- What a reader goes by: how many devices there are, and whether the plans it reads are taken up at midday, with jobs
-- under way (02, request 5), or in the morning, with nothing done, as 01's are.
pub record Settings : Type 0 where
  pub devices : ℕ
  pub midday : Bool

abbrev pub morning : ℕ → Settings
morning D = record { devices = D; midday = false }

abbrev pub at_midday : ℕ → Settings
at_midday D = record { devices = D; midday = true }

-- a packed number from job, kind and operand, and back
unfoldable pub pack : ℕ → ℕ → ℕ → ℕ
pack j k o = j * 1024 + k * 256 + o

unfoldable pub job : ℕ → ℕ
job l = l / 1024

unfoldable pub kind : ℕ → ℕ
kind l = l / 256 % 4

unfoldable pub operand : ℕ → ℕ
operand l = l % 256

-- The kinds: do is 0, take 1, give 2, start 3. A line of kind 1 opens a stretch, which a give closes. With an operand
-- from 128 on it is a held line, which is no take and no step: its job holds the device from the beginning. So there is
-- room for 128 devices.
abbrev pub held_from : ℕ
held_from = 128

unfoldable pub opens : ℕ → Bool
unfolding kind
opens l = eqb (kind l) 1

unfoldable pub is_held : ℕ → Bool
unfolding opens operand
is_held l = opens l && leb held_from (operand l)

unfoldable pub is_take : ℕ → Bool
unfolding opens operand
is_take l = opens l && not (leb held_from (operand l))

-- the device of a line that takes, holds or gives one; of any other line its operand
unfoldable pub device_of : ℕ → ℕ
unfolding is_held operand
device_of l = cond (is_held l) (operand l - held_from) (operand l)

-- a held line of device d
unfoldable pub holds : ℕ → ℕ → Bool
unfolding is_held device_of
holds l d = is_held l && eqb (device_of l) d

unfoldable pub is_give : ℕ → Bool
unfolding kind
is_give l = eqb (kind l) 2

unfoldable pub is_start : ℕ → Bool
unfolding kind
is_start l = eqb (kind l) 3

-- a start of job j
unfoldable pub starts : ℕ → ℕ → Bool
unfolding is_start operand
starts l j = is_start l && eqb (operand l) j

-- The verbs by number: do, take, give and start as their kinds, and held, which is of kind 1, as 4. The packed number
-- of a job, a verb and what the operand names; and the verb of a packed number.
abbrev pub held_verb : ℕ
held_verb = 4

unfoldable pub pack_verb : ℕ → ℕ → ℕ → ℕ
unfolding pack
pack_verb j v o = cond (eqb v held_verb) (pack j 1 (held_from + o)) (pack j v o)

unfoldable pub verb_of : ℕ → ℕ
unfolding is_held kind
verb_of l = cond (is_held l) held_verb (kind l)

-- the operand's range at each verb; a plan of the morning has no held line
unfoldable pub operand_fits : Settings → ℕ → ℕ → Bool
operand_fits S v o =
    (eqb v 0 && leb o 255) || ((eqb v 1 || eqb v 2 || (eqb v held_verb && S.midday)) && ltb o S.devices)
    || (eqb v 3 && (leb 2 o && leb o max_job))

-- job, verb and operand are those of a line; a packed number is a line's
unfoldable pub line_fits : Settings → ℕ → ℕ → ℕ → Bool
unfolding operand_fits
line_fits S j v o = leb 1 j && leb j max_job && operand_fits S v o

unfoldable pub is_line : Settings → ℕ → Bool
unfolding line_fits job verb_of device_of
is_line S l = line_fits S (job l) (verb_of l) (device_of l)

-- the line at a position of a plan; past its end 0, which is no line and of no job
abbrev pub at : List ℕ → ℕ → ℕ
at p i = get_or p i 0

-- the number of the line at a position
unfoldable pub line_number : ℕ → ℕ
line_number i = suc i

-- some line of a plan is of job j
unfoldable pub has_lines : List ℕ → ℕ → Bool
unfolding any job
has_lines p j = any (λ l. eqb (job l) j) p

-- where the first line of job j stands among some lines: a list of one place or of none, since successors are a list
unfoldable pub first_line : ℕ → List ℕ → List ℕ
unfolding job
first_line j [] = []
first_line j (l ∷ ls) = elim (eqb (job l) j) [ true ↦ 0 ∷ [] | false ↦ map suc (first_line j ls) ]
