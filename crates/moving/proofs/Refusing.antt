-- Which test of a move refuses, by what the code found; and what is known where none does.
use Prim.Native.Nat.{ℕ, zero, suc, ◌+◌, ◌-◌, ◌^◌, ◌<◌, ◌≤◌}
use mathlib.Core.Bool.{Bool, true, false}
use mathlib.Core.List.{List, ◌∷◌}
use mathlib.Core.Option.{Option, none, some, none-ne-some}
use mathlib.Core.Path.{◌≡◌, refl, sym, ◌∙◌}
use native.Mathlib.Numerals.{add-one}
use native.Mathlib.Omega.{arith}
use lib.Dec.{leb, ltb}
use lib.ListN.{length, get_or}
use borrow.Author.Tests.{lt-ltb, le-ltb, le-leb, lt-leb, ltb-false, leb-false}
use Rattle.model.specs.Lists.{first_of, or_else}
use Rattle.model.specs.Answers.{refuse_if, refuse_at, first_refusal, too_short}
use Rattle.model.specs.Line.{Settings, line_number}
use Rattle.model.specs.WellFormed.{WellFormed, fault}
use Rattle.model.specs.Move.{edited, way, under, may_change, stale, asked_at, is_take_of, move_refusal}
use Rattle.model.specs.Board.{devices, board_at}
use Rattle.model.specs.declared.Refusal.{Refusal}
use Rattle.model.specs.declared.Refusal.TheVariants.{ListTooShort, NotATake, NoSuchDevice, StaleTable}
use Rattle.mates.specs.declared.Span.{Span}
use Rattle.theory.proofs.Tests.{clash}
use Rattle.theory.proofs.Lists.{first_append}
use Rattle.theory.proofs.Answers.{none_refuses, not_refused}
use Rattle.theory.proofs.Line.{take_line}
use Rattle.theory.proofs.WellFormed.{no_fault_exactly}
use Rattle.theory.proofs.Edited.{edited_well_formed}
use Rattle.theory.proofs.Move.{asked_take, stale_exactly, nearest_may_change}
use Rattle.theory.proofs.Way.{may_change_line}
use Rattle.moving.specs.Tested.{Take, tested_by, stale_refusal, last_tests, asked_tests}
use Rattle.std.specs.Prelude.{Result, Ok, Err, IfSome}
use Rattle.std.specs.Prelude as code
use Rattle.mates.specs.Found.{found}
use Rattle.plan.specs.Checked.{checked}
use Rattle.moving.proofs.SameScan.{at_midday_lem}

-- ---- 14

-- a stale line stands in the plan
pub stale_inside : (p t : List ℕ) (i k : ℕ) → i < length p → first_of (stale p t) (may_change p i) ≡ some k
    → k < length p
stale_inside p t i k h e = may_change_line p i h k (nearest_may_change p t i k ((stale_exactly p t i k).0 e))

module _ (p t : List ℕ) (i : ℕ) where
  -- the search along the way, and then under the take
  both_searched : first_of (stale p t) (may_change p i)
      ≡ or_else (first_of (stale p t) (way p i)) (first_of (stale p t) (under p i))
  unfolding may_change
  both_searched = first_append (stale p t) (way p i) (under p i)

  pub found_on_way : (k : ℕ) → first_of (stale p t) (way p i) ≡ some k → first_of (stale p t) (may_change p i) ≡ some k
  unfolding or_else
  found_on_way k e = both_searched ∙ rw e

  pub then_under : (o : Option ℕ) → first_of (stale p t) (way p i) ≡ none → first_of (stale p t) (under p i) ≡ o
      → first_of (stale p t) (may_change p i) ≡ o
  unfolding or_else
  then_under o e f = both_searched ∙ rw (e, f)

  pub stale_refuses : (span : Span) (k : ℕ) → first_of (stale p t) (may_change p i) ≡ some k
      → Err (StaleTable (k + 1)) ≡ tested_by (first_refusal (last_tests p t i)) span
  unfolding first_refusal refuse_at line_number
  stale_refuses span k e = rw (e, add-one k)

  pub none_stale : (span s : Span) → s ≡ span → first_of (stale p t) (may_change p i) ≡ none
      → Ok s ≡ tested_by (first_refusal (last_tests p t i)) span
  unfolding first_refusal refuse_at
  none_stale span s q e = rw (e, q)

-- what the code found of one of the two searches
pub number_fits : (o : Option ℕ) (x : code.Option ℕ) → x ≡ found o → ((k : ℕ) → o ≡ some k → k < 2 ^ 32 - 1)
    → IfSome x (λ k. k < 2 ^ 32 - 1)
number_fits none x e h = rw e tt
number_fits (some k) x e h = rw e (h k refl)

pub found_stale : (o : Option ℕ) (r : Refusal) → Err r ≡ checked (stale_refusal (found o))
    → (k : ℕ) × (o ≡ some k) × (r ≡ StaleTable (k + 1))
unfolding line_number
found_stale none r e = cc
found_stale (some k) r e = let z : r ≡ StaleTable (suc k) = cc in (k, refl, rw add-one z)

pub found_no_stale : (o : Option ℕ) → Ok tt ≡ checked (stale_refusal (found o)) → o ≡ none
found_no_stale none e = refl
found_no_stale (some k) e = cc

-- ---- 11, 12 and 13

pub asked_position : (p : List ℕ) (line : ℕ) → is_take_of p line ≡ true → (1 ≤ line) × (asked_at line ≡ line - 1)
unfolding is_take_of asked_at
asked_position p zero h = clash false h refl
asked_position p (suc i) h = (omega arith, omega arith)

pub take_asked : (p : List ℕ) (line device : ℕ) → WellFormed (board_at true) p → is_take_of p line ≡ true
    → device < devices → Take p (line - 1) device
take_asked p line device w k b =
    let taken = rw (asked_position p line k).1 at (asked_take p line k) in
    record { line = record { well_formed = w; in_plan = take_line p (line - 1) taken }; takes = taken; on_board = b }

module _ (D : ℕ) (p t : List ℕ) (line device : ℕ) (span : Span) where
  abbrev Answers : Result Span Refusal → Type 0
  Answers x = x ≡ tested_by (first_refusal (asked_tests D p t line device)) span

  pub too_short_lem : length t < length p → Answers (Err (ListTooShort (length p)))
  unfolding first_refusal too_short refuse_if
  too_short_lem h = rw (lt-ltb (length t) (length p) h)

  -- where the table has room
  module _ (room : length p ≤ length t) where
    pub not_a_take_lem : is_take_of p line ≡ false → Answers (Err (NotATake line))
    unfolding first_refusal too_short refuse_if
    not_a_take_lem k = rw (le-ltb (length t) (length p) room, k)

    pub no_device_lem : is_take_of p line ≡ true → D ≤ device → Answers (Err (NoSuchDevice device))
    unfolding first_refusal too_short refuse_if
    no_device_lem k d = rw (le-ltb (length t) (length p) room, k, le-leb D device d)

    -- 14 decides
    pub last_left : is_take_of p line ≡ true → device < D → (answer : Result Span Refusal)
        → answer ≡ tested_by (first_refusal (last_tests p t (line - 1))) span → Answers answer
    unfolding first_refusal too_short refuse_if
    last_left k d answer a =
        rw (le-ltb (length t) (length p) room, k, lt-leb D device d, (asked_position p line k).1) a

-- ---- all tests of a move

module _ (S : Settings) (p t : List ℕ) (line device : ℕ) where
  pub by_fault : (r : Refusal) → fault S p ≡ some r → move_refusal S p t line device ≡ some r
  unfolding move_refusal first_refusal
  by_fault r e = rw e

  pub by_asked : (span : Span) → fault S p ≡ none → (answer : Result Span Refusal)
      → answer ≡ tested_by (first_refusal (asked_tests S.devices p t line device)) span
      → answer ≡ tested_by (move_refusal S p t line device) span
  unfolding move_refusal first_refusal
  by_asked span e answer a = rw e a

passed : (b : Bool) (r : Refusal) → refuse_if b r ≡ none → b ≡ false
unfolding refuse_if
passed true r e = absurd (none-ne-some r (sym e))
passed false r e = refl

-- where none refuses: the line's position, what was asked, room for the table, and an edited plan without a fault
pub record Passes (midday : Bool) (p t : List ℕ) (line device : ℕ) : Type 0 where
  pub positive : 1 ≤ line
  pub position : asked_at line ≡ line - 1
  pub asked : Take p (line - 1) device
  pub room : length p ≤ length t
  pub sound : WellFormed (board_at midday) p
  pub fine : WellFormed (board_at midday) (edited p (line - 1) device)

pub passes : (midday : Bool) (p t : List ℕ) (line device : ℕ) → move_refusal (board_at midday) p t line device ≡ none
    → Passes midday p t line device
unfolding move_refusal too_short
passes midday p t line device e = record {
  positive = z.0;
  position = z.1;
  asked = k;
  room = ltb-false (length t) (length p) (passed (ltb (length t) (length p)) (ListTooShort (length p)) (test 1));
  sound = w;
  fine = edited_well_formed (board_at midday) p (line - 1) device w k.takes k.on_board (omega arith);
}
  where
    test : (k : ℕ) → get_or (fault (board_at midday) p ∷ asked_tests devices p t line device) k none ≡ none
    test = none_refuses (fault (board_at midday) p ∷ asked_tests devices p t line device) e

    w : WellFormed (board_at midday) p
    w = (no_fault_exactly (board_at midday) p).0 (test 0)

    z : (1 ≤ line) × (asked_at line ≡ line - 1)
    z = asked_position p line (not_refused (is_take_of p line) (NotATake line) (test 2))

    k : Take p (line - 1) device
    k =
        take_asked p line device (at_midday_lem midday p w)
        (not_refused (is_take_of p line) (NotATake line) (test 2))
        (leb-false devices device (passed (leb devices device) (NoSuchDevice device) (test 3)))
