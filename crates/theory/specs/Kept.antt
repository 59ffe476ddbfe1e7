-- The words in which theory says what moves with kept rows do (02, request 4): what it is for a lent table, rows and
-- held set to be a plan's own, what one move leaves, and the same of any list of moves. All of it is for plans of the
-- morning (02, request 5).
use Rattle.std.specs.Prelude.{ℕ, ◌<◌, ◌≤◌, true, false, List, [], ◌∷◌, ◌≢◌, ◌≡◌, length, get_or, take, drop}
use Rattle.std.specs.Prelude.{Result}
use Rattle.model.specs.declared.Refusal.{Refusal}
use Rattle.std.proofs.Math.Option.{none}
use Rattle.model.specs.Sets.{member}
use Rattle.model.specs.Line.{morning}
use Rattle.model.specs.WellFormed.{fault}
use Rattle.model.specs.Mate.{device_at}
use Rattle.model.specs.Claims.{table}
use Rattle.model.specs.Rows.{row_of, rows}
use Rattle.model.specs.Move.{asked_at}
use Rattle.model.specs.Entries.{Outcome, Lent, ordering}
use Rattle.model.specs.Kept.{lasts_in, held_to_end, Beside, beside_of, over_all, concerned, LentBeside, moving_kept}
use Rattle.model.specs.Kept.{quick}
use Rattle.theory.specs.Move.{Accepted, Unmoved, Ask}

-- what is lent beside plan p begins with what is its own
pub record Own (D : ℕ) (p : List ℕ) (b : Beside) : Type 0 where
  pub own_table : take (length p) b.sets ≡ table p
  pub own_rows : take D b.rows ≡ rows D p
  pub own_held : take 1 b.held ≡ held_to_end D p ∷ []

-- ---- one move

-- less rows and held set: what is lent, and the outcome
unfoldable pub less_rows : LentBeside → Lent
less_rows s = record { plan = s.plan; sets = s.beside.sets }

unfoldable pub without_rows : Outcome (Result ℕ Refusal) LentBeside → Outcome (Result ℕ Refusal) Lent
unfolding less_rows
without_rows o = record { answer = o.answer; left = less_rows o.left }

-- what any move writes to rows and held set at most, whatever was lent: the rows of the devices concerned, and in the
-- held set the bits of the old device and the new one; the lists are as long as they were
pub record WritesOnly (D : ℕ) (p : List ℕ) (lent : Beside) (line device : ℕ) (left : Beside) : Type 0 where
  pub others : (d : ℕ) → concerned p (asked_at line) device d ≡ false → get_or left.rows d 0 ≡ get_or lent.rows d 0
  pub past_rows : drop D left.rows ≡ drop D lent.rows
  pub long_rows : length left.rows ≡ length lent.rows
  pub other_bits : (d : ℕ) → d ≢ device_at p (asked_at line) → d ≢ device
      → member (get_or left.held 0 0) d ≡ member (get_or lent.held 0 0) d
  pub past_held : drop 1 left.held ≡ drop 1 lent.held
  pub long_held : length left.held ≡ length lent.held

-- what an accepted move writes there, whatever was lent: of a device concerned the row that the edited plan and the
-- table as it has become give, and of the old device and the new one the bit that the edited plan has
pub record MadeBy (D : ℕ) (p : List ℕ) (line device : ℕ) (p' : List ℕ) (left : Beside) : Type 0 where
  pub rows_made : (d : ℕ) → d < D → concerned p (asked_at line) device d ≡ true
      → get_or left.rows d 0 ≡ row_of p' left.sets d
  pub old_bit : member (get_or left.held 0 0) (device_at p (asked_at line)) ≡ lasts_in p' (device_at p (asked_at line))
  pub new_bit : member (get_or left.held 0 0) device ≡ lasts_in p' device

-- what an accepted move does from a plan's own table, rows and held set: to plan and table what it does without rows;
-- and the three lists are the edited plan's, worked out afresh, and the rest of each
pub record AcceptedKept (D : ℕ) (p : List ℕ) (lent : Beside) (line device : ℕ)
    (o : Outcome (Result ℕ Refusal) LentBeside) : Type 0 where
  pub as_before : Accepted (morning D) p lent.sets line device (without_rows o)
  pub afresh : o.left.beside ≡ over_all (beside_of D o.left.plan) lent

-- what a refused move does: nothing, but for the answer
pub record UnmovedKept (D : ℕ) (p : List ℕ) (lent : Beside) (line device : ℕ)
    (o : Outcome (Result ℕ Refusal) LentBeside) : Type 0 where
  pub as_before : Unmoved (morning D) p lent.sets line device (without_rows o)
  pub stays : o.left.beside ≡ lent

pub data StepKept (D : ℕ) (p : List ℕ) (lent : Beside) (line device : ℕ) (o : Outcome (Result ℕ Refusal) LentBeside)
    : Type 0 where
  refused : UnmovedKept D p lent line device o → StepKept D p lent line device o
  accepted : AcceptedKept D p lent line device o → StepKept D p lent line device o

-- ---- a list of moves

unfoldable pub moved_kept : ℕ → LentBeside → Ask → LentBeside
moved_kept D s a = (moving_kept D s.plan s.beside a.line a.device).left

unfoldable pub moved_kept_by : ℕ → LentBeside → List Ask → LentBeside
unfolding moved_kept
moved_kept_by D s [] = s
moved_kept_by D s (a ∷ asks) = moved_kept_by D (moved_kept D s a) asks

-- What is lent now is right, going by what was lent first: the plan has no fault and as many lines; table, rows and
-- held set are its own, and then the rest of the first lists; what is asked next is refused and changes nothing, or is
-- accepted; and the quick verdict is the verdict's answer.
pub record StillOwn (D : ℕ) (first s : LentBeside) : Type 0 where
  pub no_fault : fault (morning D) s.plan ≡ none
  pub long : length s.plan ≡ length first.plan
  pub afresh : s.beside ≡ over_all (beside_of D s.plan) first.beside
  pub next : (a : Ask)
      → StepKept D s.plan s.beside a.line a.device
      (moving_kept D s.plan s.beside a.line a.device)
  pub verdict : (order : List ℕ) → length s.plan ≤ length order
      → quick D s.plan s.beside.rows ≡ (ordering (morning D) s.plan order).answer
