-- 01, "Moving a claim": the tests after those of the plan, in the two parts in which the code makes them; what is known
-- between them; and what the tests and the rewriting leave.
use Rattle.std.specs.Prelude.{ℕ, ◌-◌, ◌<◌, true, not, List, [], ◌∷◌, ◌≡◌, leb, length}
use Rattle.std.specs.Prelude.{Some, None, Result, Ok, Err}
use Rattle.std.specs.Prelude as code
use Rattle.std.proofs.Math.Option.{Option, none, some}
use Rattle.model.specs.Lists.{first_of}
use Rattle.model.specs.Answers.{refuse_if, refuse_at, too_short}
use Rattle.model.specs.Line.{Settings, is_take, at, line_number}
use Rattle.model.specs.WellFormed.{WellFormed, fault}
use Rattle.model.specs.Move.{edited, may_change, stale, changed, asked_at, is_take_of, move_refusal}
use Rattle.model.specs.Board.{devices, board_at}
use Rattle.model.specs.declared.Refusal.{Refusal}
use Rattle.model.specs.declared.Refusal.TheVariants.{NotATake, NoSuchDevice, StaleTable}
use Rattle.mates.specs.Span.{span_of, stop_of}
use Rattle.mates.specs.declared.Span.{Span}
use Rattle.plan.specs.Again.{again_flags}
use Rattle.plan.specs.Ends.{left_by}
use Rattle.plan.specs.Holdings.{holdings}
use Rattle.plan.specs.Jobs.{first_lines, starters}
use Rattle.plan.specs.declared.Notes.{Notes}
use Rattle.way.specs.Back.{way_by}
use Rattle.way.specs.Join.{mended_by}

-- a line of a well-formed plan, of the morning or of midday (see `Known` in room `way`)
pub record At (p : List ℕ) (i : ℕ) : Type 0 where
  pub well_formed : WellFormed (board_at true) p
  pub in_plan : i < length p

-- a take of one, and a device of the board
pub record Take (p : List ℕ) (i device : ℕ) : Type 0 where
  pub line : At p i
  pub takes : is_take (at p i) ≡ true
  pub on_board : device < devices

-- what tests find, by the first that refuses: a refusal, or the take's span
abbrev pub tested_by : Option Refusal → Span → Result Span Refusal
tested_by none span = Ok span
tested_by (some r) span = Err r

-- the refusal of a table in which a line has been found whose set is stale
abbrev pub stale_refusal : code.Option ℕ → Option Refusal
stale_refusal None = none
stale_refusal (Some k) = some (StaleTable (line_number k))

-- 14: the sets that a move of the take at i may change
abbrev pub last_tests : List ℕ → List ℕ → ℕ → List (Option Refusal)
last_tests p t i = refuse_at (λ k. StaleTable (line_number k)) (first_of (stale p t) (may_change p i)) ∷ []

-- 11, 12 and 13 before it: room for the table, the line and the device asked for
abbrev pub asked_tests : ℕ → List ℕ → List ℕ → ℕ → ℕ → List (Option Refusal)
asked_tests D p t line device =
    too_short (length t) (length p)
    ∷ refuse_if (not (is_take_of p line)) (NotATake line)
    ∷ refuse_if (leb D device) (NoSuchDevice device)
    ∷ last_tests p t (asked_at line)

-- what all tests answer, and leave as notes
pub record TestsAs (S : Settings) (p t : List ℕ) (line device : ℕ) (lent : Notes) (answer : Result Span Refusal)
    (left : Notes) : Type 0 where
  pub answers : answer ≡ tested_by (move_refusal S p t line device) (span_of p (asked_at line))
  pub firsts : left.first ≡ left_by (fault S p) (first_lines p) lent.first
  pub starts : left.starter ≡ left_by (fault S p) (starters p) lent.starter
  pub agains : left.again ≡ left_by (fault S p) (again_flags p) lent.again
  pub holds : left.holdings ≡ left_by (fault S p) (holdings p) lent.holdings

-- what the rewriting answers and leaves: the plan as p', the table as t', the notes with the flags of p'
pub record RewritesAs (p t : List ℕ) (lent : Notes) (i device count : ℕ) (p' t' : List ℕ) (left : Notes) : Type 0 where
  pub counts : count ≡ changed p' t t'
  pub plan : p' ≡ edited p i device
  pub sets : t' ≡ mended_by p' (again_flags p') lent.first t (way_by p' t lent.starter (stop_of (span_of p i) - 1))
  pub firsts : left.first ≡ lent.first
  pub starts : left.starter ≡ lent.starter
  pub agains : left.again ≡ again_flags p'
  pub holds : left.holdings ≡ lent.holdings
