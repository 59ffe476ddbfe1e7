-- The words in which theory says what moves do (01, "Moving a claim"; 02, requests 2 and 5): where the way ends, why a
-- move is refused, what it leaves, and the same of any list of moves. What is claimed of moves is claimed in these
-- words, so they are read like those of `model`.
use Rattle.std.specs.Prelude.{ℕ, suc, ◌<◌, ◌≤◌, true, false, cond, List, [], ◌∷◌, ◌++◌, ◌≢◌, ◌≡◌, eqb, length, get_or}
use Rattle.std.specs.Prelude.{Result, Ok, Err}
use Rattle.std.specs.Prelude.{drop}
use Rattle.std.proofs.Math.Option.{none}
use Rattle.model.specs.Lists.{has}
use Rattle.model.specs.Line.{Settings, job, starts, at}
use Rattle.model.specs.WellFormed.{fault}
use Rattle.model.specs.Claims.{table}
use Rattle.model.specs.Move.{edited, may_change, stale, asked_at, is_take_of}
use Rattle.model.specs.Entries.{Outcome, Lent, moving}
use Rattle.model.specs.declared.Refusal.{Refusal}
use Rattle.model.specs.declared.Refusal.TheVariants.{NotATake, NoSuchDevice}
use Rattle.theory.specs.Claims.{Reach}

-- ---- the lines that a move may change

-- line k is the first line of a running job: no line before it is of its job, and no line starts its job. In a plan of
-- the morning that is line 1; at midday (02, request 5) a job that no line starts is already running.
pub record Running (p : List ℕ) (k : ℕ) : Type 0 where
  pub line : k < length p
  pub first : (i : ℕ) → i < k → job (at p i) ≢ job (at p k)
  pub unstarted : (i : ℕ) → starts (at p i) (job (at p k)) ≡ false

-- the way of the line at i ends at line r: that is the first line of a running job, it leads to line i, and no line
-- before it does
pub record WayEnds (p : List ℕ) (i r : ℕ) : Type 0 where
  pub running : Running p r
  pub leads : Reach p r i
  pub first : (k : ℕ) → Reach p k i → r ≤ k

-- numbers that fall, all below n
pub data Falls : ℕ → List ℕ → Type 0 where
  ends : (n : ℕ) → Falls n []
  falls : (n x : ℕ) (xs : List ℕ) → x < n → Falls x xs → Falls n (x ∷ xs)

-- the line at k is the nearest stale one of those that a move of the take at i may change: in the order of the test,
-- those before it are not stale
pub record NearestStale (p t : List ℕ) (i k : ℕ) : Type 0 where
  pub nearer : List ℕ
  pub others : List ℕ
  pub split : may_change p i ≡ nearer ++ (k ∷ others)
  pub is_stale : stale p t k ≡ true
  pub fresh : (j : ℕ) → has j nearer ≡ true → stale p t j ≡ false

-- ---- one move

-- why a move from a plan without a fault and its own table is refused: 12 or 13
pub data Refused (S : Settings) (p : List ℕ) (line device : ℕ) : Refusal → Type 0 where
  not_a_take : is_take_of p line ≡ false → Refused S p line device (NotATake line)
  no_such_device : is_take_of p line ≡ true → S.devices ≤ device → Refused S p line device (NoSuchDevice device)

-- at how many places two lists differ, as far as both go
unfoldable pub differing : List ℕ → List ℕ → ℕ
differing [] ys = 0
differing (x ∷ xs) [] = 0
differing (x ∷ xs) (y ∷ ys) = cond (eqb x y) (differing xs ys) (suc (differing xs ys))

-- what an accepted move does: the plan is the edited one and has no fault; the sets are its table, worked out afresh,
-- and the rest of the list; at lines that are neither on the way nor under the take they are what they were; the count
-- is that of the places where the lists differ
pub record Accepted (S : Settings) (p t : List ℕ) (line device : ℕ) (o : Outcome (Result ℕ Refusal) Lent) : Type 0 where
  pub plan : o.left.plan ≡ edited p (asked_at line) device
  pub long : length o.left.plan ≡ length p
  pub no_fault : fault S o.left.plan ≡ none
  pub afresh : o.left.sets ≡ table o.left.plan ++ drop (length p) t
  pub room : length o.left.sets ≡ length t
  pub elsewhere : (k : ℕ) → has k (may_change p (asked_at line)) ≡ false → get_or o.left.sets k 0 ≡ get_or t k 0
  pub count : o.answer ≡ Ok (differing o.left.sets t)

-- what a refused move does: nothing, but for the answer
pub record Unmoved (S : Settings) (p t : List ℕ) (line device : ℕ) (o : Outcome (Result ℕ Refusal) Lent) : Type 0 where
  pub refusal : Refusal
  pub reason : Refused S p line device refusal
  pub answer : o.answer ≡ Err refusal
  pub plan : o.left.plan ≡ p
  pub sets : o.left.sets ≡ t

-- what a move from a plan without a fault and its own table does
pub data Step (S : Settings) (p t : List ℕ) (line device : ℕ) (o : Outcome (Result ℕ Refusal) Lent) : Type 0 where
  refused : Unmoved S p t line device o → Step S p t line device o
  accepted : Accepted S p t line device o → Step S p t line device o

-- ---- a list of moves

-- what is asked for: a line, by its number, and a device
pub record Ask : Type 0 where
  pub line : ℕ
  pub device : ℕ

-- one move, from what is lent to what is lent next
unfoldable pub moved : Settings → Lent → Ask → Lent
moved S s a = (moving S s.plan s.sets a.line a.device).left

-- one move after the other
unfoldable pub moved_by : Settings → Lent → List Ask → Lent
unfolding moved
moved_by S s [] = s
moved_by S s (a ∷ asks) = moved_by S (moved S s a) asks

-- What is lent now is right, going by what was lent first: the plan has no fault and as many lines, the sets are its
-- own table and then the rest of the first list, and what is asked next is refused and changes nothing, or is
-- accepted.
pub record Kept (S : Settings) (first s : Lent) : Type 0 where
  pub no_fault : fault S s.plan ≡ none
  pub long : length s.plan ≡ length first.plan
  pub afresh : s.sets ≡ table s.plan ++ drop (length first.plan) first.sets
  pub next : (a : Ask)
      → Step S s.plan s.sets a.line a.device (moving S s.plan s.sets a.line a.device)
