-- What `build`, `move_kept` and `quick` promise (02, request 4), and the words for what follows, all of it for plans of
-- the morning. What is lent beside the plan is a table, rows and a list whose first number is the held set, and of each
-- what is left has a mark. `quick` writes to nothing that is lent.
use Rattle.std.specs.Prelude.{ℕ, ◌<◌, ◌≤◌, List, [], ◌∷◌, ◌≡◌, length, take}
use Rattle.std.specs.Prelude.{Result, Ok, Err}
use Rattle.model.specs.Answers.{answer_values}
use Rattle.model.specs.WellFormed.{WellFormed}
use Rattle.model.specs.Claims.{table}
use Rattle.model.specs.Rows.{rows}
use Rattle.model.specs.Kept.{held_to_end, Beside, building, LentBeside, moving_kept, quick}
use Rattle.model.specs.Board.{devices, board}
use Rattle.model.specs.declared.Refusal.{Refusal}
use Rattle.model.specs.declared.Refusal.TheVariants.{ListTooShort}
use Rattle.theory.specs.WellFormed.{Broken}
use Rattle.theory.specs.Verdict.{NoOrderBy}
use Rattle.theory.specs.Move.{Refused, Ask}
use Rattle.theory.specs.Kept.{Own, WritesOnly}
use Rattle.promises.specs.Outcome.{Meets, Listed, NoFurther, Fills}
use Rattle.promises.specs.Verdict.{OrdersAs}
use Rattle.promises.specs.Move.{NotMoved, Afresh}

abbrev pub beside : List ℕ → List ℕ → List ℕ → Beside
beside sets rs held = record { sets = sets; rows = rs; held = held }

abbrev pub BuildsWith : List ℕ → Beside → Result ℕ Refusal → Beside → Type 0
BuildsWith plan lent answer left = Meets answer_values (building devices plan lent) answer left

abbrev pub BuildsAs : List ℕ → List ℕ → List ℕ → List ℕ → Result ℕ Refusal → List ℕ → List ℕ → List ℕ → Type 0
BuildsAs plan sets rs held answer sets' rs' held' =
    BuildsWith plan (beside sets rs held) answer (beside sets' rs' held')

abbrev pub MovesKeptWith : List ℕ → Beside → ℕ → ℕ → Result ℕ Refusal → List ℕ → Beside → Type 0
MovesKeptWith p lent line device answer p' left =
    Meets answer_values (moving_kept devices p lent line device) answer (record { plan = p'; beside = left })

abbrev pub MovesKeptAs : List ℕ → List ℕ → List ℕ → List ℕ → ℕ → ℕ → Result ℕ Refusal → List ℕ → List ℕ → List ℕ
    → List ℕ → Type 0
MovesKeptAs p sets rs held line device answer p' sets' rs' held' =
    MovesKeptWith p (beside sets rs held) line device answer p' (beside sets' rs' held')

pub record QuickAs (plan rs : List ℕ) (answer : Result ℕ Refusal) : Type 0 where
  pub answers : answer_values answer ≡ answer_values (quick devices plan rs)

-- ---- the listed cases

-- one more lent list: 11 where it is too short; otherwise a further case
pub data AlsoLent (room needed : ℕ) (Further : Refusal → Type 0) : Refusal → Type 0 where
  also_short : room < needed → AlsoLent room needed Further (ListTooShort needed)
  beyond : (r : Refusal) → needed ≤ room → Further r → AlsoLent room needed Further r

-- after the table: the rows, then the held set
abbrev pub AfterTable : Beside → (Refusal → Type 0) → Refusal → Type 0
AfterTable lent Further = AlsoLent (length lent.rows) devices (AlsoLent (length lent.held) 1 Further)

-- why nothing is built: 2 to 7; where nothing is broken, 11 for the first list that is too short
abbrev pub NoBuild : List ℕ → Beside → Refusal → Type 0
NoBuild plan lent =
    Listed (WellFormed board plan) (Broken board plan) (length lent.sets) (length plan)
    (AfterTable lent NoFurther)

-- why a move is refused: 2 to 7 of the plan as it is; where nothing is broken, 11 so; and where there is room, as
-- without rows
abbrev pub NoMoveKept : List ℕ → Beside → ℕ → ℕ → Refusal → Type 0
NoMoveKept p lent line device =
    Listed (WellFormed board p) (Broken board p) (length lent.sets) (length p)
    (AfterTable lent (NotMoved board p lent.sets line device))

-- why the quick verdict refuses: 2 to 7; where nothing is broken, 11 for the rows; and where there is room, 9 by the
-- plan or 10 by the rows as they were lent
abbrev pub NoQuick : List ℕ → List ℕ → Refusal → Type 0
NoQuick plan rs =
    Listed (WellFormed board plan) (Broken board plan) (length rs) devices
    (NoOrderBy devices plan (take devices rs))

-- ---- building

-- each list has room
abbrev pub HasRoom : List ℕ → Beside → Type 0
HasRoom plan lent = (length plan ≤ length lent.sets) × (devices ≤ length lent.rows) × (1 ≤ length lent.held)

-- each list is filled: with the table, the rows, the held set
pub record IsBuilt (plan : List ℕ) (lent : Beside) (count : ℕ) (left : Beside) : Type 0 where
  pub of_table : Fills (WellFormed board plan) (table plan) lent.sets count left.sets
  pub of_rows : Fills (WellFormed board plan) (rows devices plan) lent.rows devices left.rows
  pub of_held : Fills (WellFormed board plan) (held_to_end devices plan ∷ []) lent.held 1 left.held

-- A plan without a fault and what is its own beside it, in lists that may be longer: what `build` leaves.
pub record OwnBeside (plan : List ℕ) (lent : Beside) : Type 0 where
  pub sound : WellFormed board plan
  pub own : Own devices plan lent

-- ---- the quick verdict

-- by these rows it is the verdict's answer, in number, place and count
abbrev pub Agrees : List ℕ → List ℕ → Type 0
Agrees plan rs =
    (a b : Result ℕ Refusal) (lent left : List ℕ) → length plan ≤ length lent → QuickAs plan rs a
    → OrdersAs board plan lent b left → a ≡ b

-- ---- moves from a plan without a fault and its own table, rows and held set

-- what an accepted move leaves: of plan and table what it leaves without rows; in the three lists what `build` would
-- leave there; rows of no device but those concerned, and in the held set no bits but two, are other than they were;
-- and the quick verdict agrees
pub record AfreshKept (p : List ℕ) (lent : Beside) (line device count : ℕ) (p' : List ℕ) (left : Beside)
    : Type 0 where
  pub as_before : Afresh board p lent.sets line device count p' left.sets
  pub builds : BuildsWith p' lent (Ok (length p')) left
  pub only : WritesOnly devices p lent line device left
  pub agrees : Agrees p' left.rows

-- a move there: refused by 12 or 13, with nothing changed, or accepted
pub data MovedKept (p : List ℕ) (lent : Beside) (line device : ℕ) : Result ℕ Refusal → List ℕ → Beside → Type 0 where
  not_moved : (r : Refusal) → Refused board p line device r
      → MovedKept p lent line device (Err r) p lent
  is_moved : (n : ℕ) (p' : List ℕ) (left : Beside) → AfreshKept p lent line device n p' left
      → MovedKept p lent line device (Ok n) p' left

-- ---- any list of moves, refused ones among them

-- one move after the other, each as it promises
pub data MovesKept : LentBeside → List Ask → LentBeside → Type 0 where
  none_asked : (s : LentBeside) → MovesKept s [] s
  one_more : (s u v : LentBeside) (a : Ask) (asks : List Ask) (answer : Result ℕ Refusal)
      → MovesKeptWith s.plan s.beside a.line a.device answer u.plan u.beside → MovesKept u asks v
      → MovesKept s (a ∷ asks) v

-- What is lent now is right, going by what was lent first: the plan has no fault and as many lines; the three lists
-- have what `build` would leave of it in the first lists; the quick verdict agrees; and the next move, whatever it is
-- asked, is right.
pub record StaysRightKept (s v : LentBeside) : Type 0 where
  pub lines : length v.plan ≡ length s.plan
  pub own : OwnBeside v.plan v.beside
  pub builds : BuildsWith v.plan s.beside (Ok (length v.plan)) v.beside
  pub agrees : Agrees v.plan v.beside.rows
  pub next : (a : Ask) (answer : Result ℕ Refusal) (p' : List ℕ) (left : Beside)
      → MovesKeptWith v.plan v.beside a.line a.device answer p' left
      → MovedKept v.plan v.beside a.line a.device answer p' left
