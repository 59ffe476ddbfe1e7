-- 01, "Moving a claim", with the lines that 02, request 2, adds to those that a move may change. A held line (02,
-- request 5) is no take, and so it is not moved: 12.
use Rattle.std.specs.Prelude.{ℕ, zero, suc, ◌-◌, Bool, true, false, not, ◌||◌, List, [], ◌∷◌, ◌++◌, eqb, leb, length}
use Rattle.std.specs.Prelude.{get_or, set}
use Rattle.std.proofs.Math.Option
use Rattle.std.proofs.Math.Option.{Option, none, some}
use Rattle.model.specs.Lists.{up_from, positions, first_of, those, last_or}
use Rattle.model.specs.Sets.{union}
use Rattle.model.specs.Answers.{refuse_if, refuse_at, first_refusal, too_short}
use Rattle.model.specs.Line.{Settings, pack, job, kind, is_take, starts, at, line_number}
use Rattle.model.specs.Mate.{mate}
use Rattle.model.specs.WellFormed.{fault}
use Rattle.model.specs.Claims.{own, beyond}
use Rattle.model.specs.declared.Refusal.{Refusal}
use Rattle.model.specs.declared.Refusal.TheVariants.{NotATake, NoSuchDevice, StaleTable}

-- the plan with the line at i given another device
unfoldable pub with_device : List ℕ → ℕ → ℕ → List ℕ
unfolding pack job kind
with_device p e i = set p i (pack (job (at p i)) (kind (at p i)) e)

unfoldable pub also_mate : List ℕ → ℕ → Option ℕ → List ℕ
unfolding with_device
also_mate p e none = p
also_mate p e (some m) = with_device p e m

-- the edited plan: device e at the take and at its mate
unfoldable pub edited : List ℕ → ℕ → ℕ → List ℕ
unfolding with_device also_mate mate
edited p i e = also_mate (with_device p e i) e (mate p i)

-- The way, walked back: below some position, looking for the lines of job j and the line that starts it; from there
-- on its job is looked for. Where no line starts it, as in a running job, the way ends at the job's first line, which
-- may be a held line.
unfoldable pub way_in : List ℕ → ℕ → ℕ → List ℕ
unfolding job starts
way_in p j zero = []
way_in p j (suc i) =
    elim (eqb (job (at p i)) j || starts (at p i) j) [ true ↦ i ∷ way_in p (job (at p i)) i | false ↦ way_in p j i ]

unfoldable pub way : List ℕ → ℕ → List ℕ
unfolding way_in job
way p i = way_in p (job (at p i)) (suc i)

-- the position of the take's mate or, where it has none, the plan's end
unfoldable pub until : List ℕ → ℕ → ℕ
unfolding mate
until p i = Option.get_or (mate p i) (length p)

-- the lines after the take at i and before its give, or to its job's end, in line order: another device at the take
-- makes takes among them outermost, or no longer so
unfoldable pub under : List ℕ → ℕ → List ℕ
unfolding those job up_from until
under p i = those (λ k. eqb (job (at p k)) (job (at p i))) (up_from (suc i) (until p i - suc i))

-- the lines whose sets a move may change, in the order in which they are tested: the way, then the lines under the take
unfoldable pub may_change : List ℕ → ℕ → List ℕ
unfolding way under
may_change p i = way p i ++ under p i

-- The same lines in the order in which they are joined. A set is joined from those of later lines, so this goes from
-- the last of them back to the way's end: it is the way of the last line under the take.
unfoldable pub from_last : List ℕ → ℕ → List ℕ
unfolding way last_or under
from_last p i = way p (last_or i (under p i))

-- the set that line i should have, going by what the table stores for its successors
unfoldable pub rejoined : List ℕ → List ℕ → ℕ → ℕ
unfolding union own beyond
rejoined p t i = union (own p i) (beyond p t i)

unfoldable pub stale : List ℕ → List ℕ → ℕ → Bool
unfolding rejoined
stale p t i = not (eqb (get_or t i 0) (rejoined p t i))

-- the table with the sets at some positions rewritten, one after the other
unfoldable pub rewritten : List ℕ → List ℕ → List ℕ → List ℕ
unfolding rejoined
rewritten p t [] = t
rewritten p t (i ∷ is) = rewritten p (set t i (rejoined p t i)) is

-- how many of the plan's lines have another set than before
unfoldable pub changed : List ℕ → List ℕ → List ℕ → ℕ
unfolding those positions
changed p old new = length (those (λ i. not (eqb (get_or new i 0) (get_or old i 0))) (positions p))

-- the position of the line asked for, which is counted from 1
unfoldable pub asked_at : ℕ → ℕ
asked_at zero = zero
asked_at (suc i) = i

-- the line asked for is a take of the plan
unfoldable pub is_take_of : List ℕ → ℕ → Bool
unfolding is_take
is_take_of p zero = false
is_take_of p (suc i) = is_take (at p i)

-- The tests, in their order, with one for the room in what is lent beside the plan. Of a plan without a fault the
-- edited one has none (shown in `theory`, Edited).
abbrev pub move_tests : Settings → List ℕ → List ℕ → Option Refusal → ℕ → ℕ → Option Refusal
move_tests S p t room line device =
    first_refusal
    (fault S p
    ∷ room
    ∷ refuse_if (not (is_take_of p line)) (NotATake line)
    ∷ refuse_if (leb S.devices device) (NoSuchDevice device)
    ∷ refuse_at (λ k. StaleTable (line_number k)) (first_of (stale p t) (may_change p (asked_at line)))
    ∷ [])

unfoldable pub move_refusal : Settings → List ℕ → List ℕ → ℕ → ℕ → Option Refusal
unfolding first_refusal fault too_short refuse_if is_take_of refuse_at first_of stale may_change asked_at line_number
move_refusal S p t line device = move_tests S p t (too_short (length t) (length p)) line device
