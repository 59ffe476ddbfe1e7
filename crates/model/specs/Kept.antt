-- 02, request 4: the rows and the set of the devices held to the end, kept beside the table; which of them a move
-- writes; and the outcomes of the three entries that are lent them, for any table, rows and held set, the plan's own or
-- not. They serve plans of the morning: a held line is no line for them (02, request 5).
use Rattle.std.specs.Prelude.{ℕ, Bool, cond, ◌||◌, List, [], ◌∷◌, map, eqb, length, get_or, take}
use Rattle.std.specs.Prelude.{Result, Ok, Err}
use Rattle.std.proofs.Math.Option.{Option, none, some}
use Rattle.model.specs.Lists.{up_from, positions, any, those, first_of, over}
use Rattle.model.specs.Sets.{put, devices_where}
use Rattle.model.specs.Answers.{refuse_if, refuse_at, first_refusal, too_short}
use Rattle.model.specs.Line.{morning, line_number}
use Rattle.model.specs.WellFormed.{fault}
use Rattle.model.specs.Mate.{device_at, lasting}
use Rattle.model.specs.Claims.{table}
use Rattle.model.specs.Rows.{row_of, rows}
use Rattle.model.specs.Verdict.{two_lasting, circle_of}
use Rattle.model.specs.Move.{edited, may_change, from_last, stale, rewritten, changed, asked_at, is_take_of, move_tests}
use Rattle.model.specs.Entries.{Outcome, outcome}
use Rattle.model.specs.declared.Refusal.{Refusal}

-- device d has a lasting take among some lines; it is held to the end: it has one in the plan
unfoldable pub lasts_among : List ℕ → List ℕ → ℕ → Bool
unfolding any lasting
lasts_among p is d = any (λ k. lasting p k d) is

unfoldable pub lasts_in : List ℕ → ℕ → Bool
unfolding lasts_among positions
lasts_in p d = lasts_among p (positions p) d

-- the set of the devices held to the end, and how many they are
unfoldable pub held_to_end : ℕ → List ℕ → ℕ
unfolding devices_where lasts_in
held_to_end D p = devices_where D (lasts_in p)

unfoldable pub held_number : ℕ → List ℕ → ℕ
unfolding those lasts_in up_from
held_number D p = length (those (lasts_in p) (up_from 0 D))

-- What is kept beside a plan, each in a lent list that may be longer: a set a line, a row a device, and one set.
pub record Beside : Type 0 where
  pub sets : List ℕ
  pub rows : List ℕ
  pub held : List ℕ

-- the plan's own
unfoldable pub beside_of : ℕ → List ℕ → Beside
unfolding table rows held_to_end
beside_of D p = record { sets = table p; rows = rows D p; held = held_to_end D p ∷ [] }

-- the lent lists after all three were written to
unfoldable pub over_all : Beside → Beside → Beside
unfolding over
over_all new old = record {
  sets = over new.sets old.sets;
  rows = over new.rows old.rows;
  held = over new.held old.held;
}

-- 11 for the table, the rows and the held set, in this order
unfoldable pub room_for : ℕ → List ℕ → Beside → Option Refusal
unfolding first_refusal too_short
room_for D p b =
    first_refusal
    (too_short (length b.sets) (length p) ∷ too_short (length b.rows) D ∷ too_short (length b.held) 1 ∷ [])

-- ---- building

unfoldable pub building : ℕ → List ℕ → Beside → Outcome (Result ℕ Refusal) Beside
unfolding outcome first_refusal fault room_for over_all beside_of
building D p lent =
    outcome Err (first_refusal (fault (morning D) p ∷ room_for D p lent ∷ []))
    (Ok (length p)) (over_all (beside_of D p) lent) lent

-- ---- moving

-- A move of the take at i to device e concerns the old device, the new one, and those of which a lasting take is a line
-- whose set may change. (Of a device other than the old and the new one the edited plan has the same lasting takes, so
-- that it makes no difference which of the two plans is asked: shown in `theory`, LastingKept.)
unfoldable pub concerned : List ℕ → ℕ → ℕ → ℕ → Bool
unfolding device_at lasts_among may_change
concerned p i e d = eqb d (device_at p i) || (eqb d e || lasts_among p (may_change p i) d)

-- the rows: of the devices concerned those that plan q and table t give, of the others those that were lent
unfoldable pub kept_rows : ℕ → List ℕ → List ℕ → (ℕ → Bool) → List ℕ → List ℕ
unfolding row_of up_from
kept_rows D q t concerns lent = map (λ d. cond (concerns d) (row_of q t d) (get_or lent d 0)) (up_from 0 D)

-- the held set: the old device and the new one as plan q has them, the others as they were lent
unfoldable pub kept_held : List ℕ → ℕ → ℕ → ℕ → ℕ
unfolding put lasts_in
kept_held q old new lent = put (lasts_in q new) new (put (lasts_in q old) old lent)

-- the tests of a move, with 11 for all three lists
unfoldable pub kept_refusal : ℕ → List ℕ → Beside → ℕ → ℕ → Option Refusal
unfolding first_refusal fault room_for refuse_if is_take_of refuse_at first_of stale may_change asked_at line_number
kept_refusal D p b line device = move_tests (morning D) p b.sets (room_for D p b) line device

-- what an accepted move of the take at i leaves beside the plan: the table as without rows; the rows kept, by the
-- edited plan and that table; and the held set kept, by the edited plan
abbrev pub beside_after : ℕ → List ℕ → Beside → ℕ → ℕ → Beside
beside_after D p lent i device =
    let plan : List ℕ = edited p i device in
    let sets : List ℕ = rewritten plan lent.sets (from_last p i) in
    record {
      sets = sets;
      rows = over (kept_rows D plan sets (concerned p i device) lent.rows) lent.rows;
      held = over (kept_held plan (device_at p i) device (get_or lent.held 0 0) ∷ []) lent.held;
    }

pub record LentBeside : Type 0 where
  pub plan : List ℕ
  pub beside : Beside

unfoldable pub moving_kept : ℕ → List ℕ → Beside → ℕ → ℕ → Outcome (Result ℕ Refusal) LentBeside
unfolding outcome kept_refusal asked_at edited rewritten from_last changed over kept_rows concerned kept_held device_at
moving_kept D p lent line device =
    let i : ℕ = asked_at line in
    let new : Beside = beside_after D p lent i device in
    outcome Err (kept_refusal D p lent line device)
    (Ok (changed p lent.sets new.sets)) (record { plan = edited p i device; beside = new })
    (record { plan = p; beside = lent })

-- ---- the quick verdict: 9 by the plan, 10 by whatever rows are lent; it writes to nothing that is lent

unfoldable pub quick_refusal : ℕ → List ℕ → List ℕ → Option Refusal
unfolding first_refusal fault too_short two_lasting circle_of
quick_refusal D p rs =
    first_refusal (fault (morning D) p ∷ too_short (length rs) D ∷ two_lasting D p ∷ circle_of D (take D rs) ∷ [])

unfoldable pub quick_by : Option Refusal → ℕ → Result ℕ Refusal
quick_by none n = Ok n
quick_by (some r) n = Err r

unfoldable pub quick : ℕ → List ℕ → List ℕ → Result ℕ Refusal
unfolding quick_by quick_refusal held_number
quick D p rs = quick_by (quick_refusal D p rs) (held_number D p)
