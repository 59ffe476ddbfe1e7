-- What `move_claim` promises (01, "Moving a claim"), and the words for what follows. `p` and `t` are plan and table as
-- they are lent, `p'` and `t'` as they are left.
use Rattle.std.specs.Prelude.{ℕ, ◌<◌, ◌≤◌, true, false, List, [], ◌∷◌, ◌≡◌, length, get_or}
use Rattle.std.specs.Prelude.{Result, Ok, Err}
use Rattle.model.specs.Lists.{has}
use Rattle.model.specs.Answers.{answer_values}
use Rattle.model.specs.Line.{Settings, line_number}
use Rattle.model.specs.WellFormed.{WellFormed}
use Rattle.model.specs.Mate.{steps}
use Rattle.model.specs.Move.{edited, may_change, asked_at, is_take_of}
use Rattle.model.specs.Entries.{Lent, moving}
use Rattle.model.specs.declared.Refusal.{Refusal}
use Rattle.model.specs.declared.Refusal.TheVariants.{NotATake, NoSuchDevice, StaleTable}
use Rattle.theory.specs.WellFormed.{Broken}
use Rattle.theory.specs.Move.{WayEnds, NearestStale, Refused, differing, Ask}
use Rattle.promises.specs.Outcome.{Meets, Listed}
use Rattle.promises.specs.Table.{TablesAs, OwnTable}
use Rattle.promises.specs.Verdict.{OrdersAs, Decided}

abbrev pub MovesAs : Settings → List ℕ → List ℕ → ℕ → ℕ → Result ℕ Refusal → List ℕ → List ℕ → Type 0
MovesAs S p t line device answer p' t' =
    Meets answer_values (moving S p t line device) answer (record { plan = p'; sets = t' })

-- ---- of any plan and table

-- why a plan's claim is not moved in a table that is long enough, in the order of the tests: 12; 13; 14, at the nearest
-- stale line of those that the move may change
pub data NotMoved (S : Settings) (p t : List ℕ) (line device : ℕ) : Refusal → Type 0 where
  not_a_take : is_take_of p line ≡ false → NotMoved S p t line device (NotATake line)
  no_such_device : is_take_of p line ≡ true → S.devices ≤ device → NotMoved S p t line device (NoSuchDevice device)
  stale_table : (k : ℕ) → is_take_of p line ≡ true → device < S.devices → NearestStale p t (asked_at line) k
      → NotMoved S p t line device (StaleTable (line_number k))

-- why a move is refused: 2 to 7, 16 or 17 of the plan as it is; where nothing is broken, 11; and where there is room,
-- the above
abbrev pub NoMove : Settings → List ℕ → List ℕ → ℕ → ℕ → Refusal → Type 0
NoMove S p t line device =
    Listed (WellFormed S p) (Broken S p) (length t) (length p) (NotMoved S p t line device)

-- ---- from a plan without a fault and its own table

-- what an accepted move leaves: the edited plan, without a fault; the table of it that `table` would leave in the list;
-- at lines that are neither on the way nor under the take the sets that were there, and so at all lines before the
-- first line of the running job at which the way ends (02, request 5). The count is the number of places at which the
-- sets differ from those before; and a verdict on the plan left decides about the edited plan.
pub record Afresh (S : Settings) (p t : List ℕ) (line device count : ℕ) (p' t' : List ℕ) : Type 0 where
  pub plan : p' ≡ edited p (asked_at line) device
  pub sound : WellFormed S p'
  pub tables : TablesAs S p' t (Ok (length p')) t'
  pub elsewhere : (k : ℕ) → has k (may_change p (asked_at line)) ≡ false → get_or t' k 0 ≡ get_or t k 0
  pub running : (r : ℕ) × WayEnds p (asked_at line) r × ((k : ℕ) → k < r → get_or t' k 0 ≡ get_or t k 0)
  pub counts : count ≡ differing t' t
  pub verdict : (lent : List ℕ) → length (steps p') ≤ length lent → (a : Result ℕ Refusal) (left : List ℕ)
      → OrdersAs S p' lent a left → Decided S (edited p (asked_at line) device) lent a left

-- a move there: refused by 12 or 13, with nothing changed, or accepted
pub data Moved (S : Settings) (p t : List ℕ) (line device : ℕ) : Result ℕ Refusal → List ℕ → List ℕ → Type 0 where
  not_moved : (r : Refusal) → Refused S p line device r → Moved S p t line device (Err r) p t
  is_moved : (n : ℕ) (p' t' : List ℕ) → Afresh S p t line device n p' t'
      → Moved S p t line device (Ok n) p' t'

-- ---- demand 3: any list of moves, refused ones among them

-- one move after the other, each as it promises
pub data Moves (S : Settings) : Lent → List Ask → Lent → Type 0 where
  none_asked : (s : Lent) → Moves S s [] s
  one_more : (s u v : Lent) (a : Ask) (asks : List Ask) (answer : Result ℕ Refusal)
      → MovesAs S s.plan s.sets a.line a.device answer u.plan u.sets → Moves S u asks v
      → Moves S s (a ∷ asks) v

-- What is lent now is right, going by what was lent first: the plan has no fault and as many lines; the sets are the
-- table of it that `table` would leave in the first list; and the next move, whatever it is asked, is right.
pub record StaysRight (S : Settings) (s v : Lent) : Type 0 where
  pub lines : length v.plan ≡ length s.plan
  pub own : OwnTable S v.plan v.sets
  pub tables : TablesAs S v.plan s.sets (Ok (length v.plan)) v.sets
  pub next : (a : Ask) (answer : Result ℕ Refusal) (p' t' : List ℕ)
      → MovesAs S v.plan v.sets a.line a.device answer p' t'
      → Moved S v.plan v.sets a.line a.device answer p' t'
