-- What follows from what `build`, `move_kept` and `quick` promise (02, request 4; 01, "Refusal numbers"). Each refuses
-- exactly in a listed case, and then leaves what was lent. Whatever was lent, a move does to plan and table what it
-- does without rows. From a plan without a fault and what is its own beside it, an accepted move leaves what `build`
-- would leave, and so on over any list of moves (demand 3, with rows); by such rows `quick` is the verdict's answer,
-- and by any rows 9 and 10 have their reason in the plan and in the rows as lent.
use Prim.Native.Nat.{ℕ, ◌≤◌}
use Rattle.std.specs.Prelude.{Result, Ok, Err}
use mathlib.Core.Bool.{Bool, true, false}
use mathlib.Core.List.{List, [], ◌∷◌}
use mathlib.Core.Logic.{◌≢◌, ◌↔◌}
use mathlib.Core.Option.{Option, none, some, none-ne-some}
use mathlib.Core.Path.{◌≡◌, refl, sym, ◌∙◌, ap}
use native.Mathlib.Omega.{arith}
use lib.Dec.{lit≤, ltb}
use lib.ListN.{length, get_or, take}
use borrow.Author.Tests.{ltb-true, ltb-false, lt-ltb, le-ltb}
use Rattle.model.specs.Lists.{over}
use Rattle.model.specs.Answers.{number_of, answer_values, refuse_if, first_refusal, too_short}
use Rattle.model.specs.WellFormed.{WellFormed, fault}
use Rattle.model.specs.Rows.{rows}
use Rattle.model.specs.Mate.{device_at}
use Rattle.model.specs.Move.{edited, changed, asked_at, is_take_of, move_refusal}
use Rattle.model.specs.Verdict.{two_lasting, circle_of}
use Rattle.model.specs.Entries.{Outcome, Lent, outcome, moving}
use Rattle.model.specs.Kept.{held_number, Beside, beside_of, over_all, room_for, building}
use Rattle.model.specs.Kept.{concerned, kept_rows, kept_held, kept_refusal, beside_after, LentBeside, moving_kept}
use Rattle.model.specs.Kept.{quick_refusal, quick_by, quick}
use Rattle.model.specs.Board.{devices, board}
use Rattle.model.specs.declared.Refusal.{Refusal}
use Rattle.model.specs.declared.Refusal.TheVariants.{ListTooShort}
use Rattle.theory.specs.WellFormed.{Broken}
use Rattle.theory.specs.Verdict.{NoOrderBy}
use Rattle.theory.specs.Move.{differing, Ask}
use Rattle.theory.specs.Kept.{Own, less_rows, without_rows, WritesOnly, MadeBy, StepKept, refused, accepted}
use Rattle.theory.specs.Kept.{moved_kept, moved_kept_by, StillOwn}
use Rattle.theory.proofs.Answers.{one_answer, none_refuses, long_enough}
use Rattle.theory.proofs.WellFormed.{fault_exactly, no_fault_exactly, morning_number}
use Rattle.theory.proofs.Claims.{length_table}
use Rattle.theory.proofs.OnlyIf.{length_rows}
use Rattle.theory.proofs.Verdict.{view_by, seen_exactly}
use Rattle.theory.proofs.Move.{own_long}
use Rattle.theory.proofs.Kept.{own_written, own_stays, rows_room_lem, held_room_lem, same_tests, as_before, writes_only}
use Rattle.theory.proofs.Kept.{made_after}
use Rattle.theory.proofs.Kept.{kept_step, quick_agrees, moves_keep_own}
use Rattle.promises.specs.Outcome.{Meets, faulty, short, further, NoFurther, Refuses}
use Rattle.promises.specs.Table.{OwnTable}
use Rattle.promises.specs.Move as plainly
use Rattle.promises.specs.Move.{MovesAs, NotMoved, not_a_take, no_such_device, stale_table, Afresh, Moved, Moves}
use Rattle.promises.specs.Kept.{beside, BuildsWith, MovesKeptWith, QuickAs}
use Rattle.promises.specs.Kept.{AlsoLent, also_short, beyond, AfterTable}
use Rattle.promises.specs.Kept.{NoBuild, NoMoveKept, NoQuick, HasRoom, IsBuilt, OwnBeside, Agrees}
use Rattle.promises.specs.Kept.{MovedKept, not_moved, is_moved, MovesKept, none_asked, one_more, StaysRightKept}
use Rattle.promises.proofs.Tight.{by_refusal, by_none, the_outcome, the_quick}
use Rattle.promises.proofs.Outcome as one
use Rattle.promises.proofs.Outcome.{Entry, counts, none_after}
use Rattle.promises.proofs.Move as move

-- ---- the room of three lists

-- one more list that is lent, and what is tested after it
module _ (room needed : ℕ) (tests : List (Option Refusal)) (Further : Refusal → Type 0)
    (cases : (r : Refusal) → (first_refusal tests ≡ some r) ↔ Further r) where
  also_exactly : (r : Refusal) → (first_refusal (too_short room needed ∷ tests) ≡ some r)
      ↔ AlsoLent room needed Further r
  unfolding first_refusal too_short refuse_if
  also_exactly r = (to (ltb room needed) refl, from r)
    where
      to : (b : Bool) → ltb room needed ≡ b → first_refusal (refuse_if b (ListTooShort needed) ∷ tests) ≡ some r
          → AlsoLent room needed Further r
      to true e h = let z : r ≡ ListTooShort needed = cc in rw z (also_short (ltb-true room needed e))
      to false e h = beyond r (ltb-false room needed e) ((cases r).0 h)

      from : (r : Refusal) → AlsoLent room needed Further r → first_refusal (too_short room needed ∷ tests) ≡ some r
      from r (also_short h) = rw (lt-ltb room needed h)
      from r (beyond q h f) = rw (le-ltb room needed h) ((cases q).1 f)

-- the tests after that of the table
abbrev pub later_rooms : Beside → List (Option Refusal) → List (Option Refusal)
later_rooms lent tests = too_short (length lent.rows) devices ∷ too_short (length lent.held) 1 ∷ tests

pub later_exactly : (lent : Beside) (tests : List (Option Refusal)) (Further : Refusal → Type 0)
    → ((r : Refusal) → (first_refusal tests ≡ some r) ↔ Further r) → (r : Refusal)
    → (first_refusal (later_rooms lent tests) ≡ some r) ↔ AfterTable lent Further r
later_exactly lent tests Further cases =
    also_exactly (length lent.rows) devices (too_short (length lent.held) 1 ∷ tests)
    (AlsoLent (length lent.held) 1 Further) (also_exactly (length lent.held) 1 tests Further cases)

-- tests of three lists in one, and one after another
one_by_one : (f a b c : Option Refusal) (tests : List (Option Refusal))
    → first_refusal (f ∷ first_refusal (a ∷ b ∷ c ∷ []) ∷ tests) ≡ first_refusal (f ∷ a ∷ b ∷ c ∷ tests)
unfolding first_refusal
one_by_one (some r) a b c tests = refl
one_by_one none (some r) b c tests = refl
one_by_one none none (some r) c tests = refl
one_by_one none none none (some r) tests = refl
one_by_one none none none none tests = refl

rooms_one_by_one : (p : List ℕ) (lent : Beside) (tests : List (Option Refusal))
    → first_refusal (fault board p ∷ room_for devices p lent ∷ tests)
    ≡ first_refusal (fault board p ∷ too_short (length lent.sets) (length p) ∷ later_rooms lent tests)
unfolding room_for
rooms_one_by_one p lent tests =
    one_by_one (fault board p) (too_short (length lent.sets) (length p)) (too_short (length lent.rows) devices)
    (too_short (length lent.held) 1) tests

-- ---- building

abbrev pub build_entry : (plan : List ℕ) (lent : Beside)
    → Entry (Result ℕ Refusal) Beside (WellFormed board plan) (Broken board plan) (AfterTable lent NoFurther)
build_entry plan lent = record {
  answers = counts;
  fault = fault board plan;
  rest = later_rooms lent [];
  sound = no_fault_exactly board plan;
  broken = fault_exactly board plan;
  beyond = λ w. later_exactly lent [] NoFurther none_after;
  room = length lent.sets;
  needed = length plan;
  count = length plan;
  new = over_all (beside_of devices plan) lent;
  lent = lent;
}

rooms_passed : (lent : Beside) (tests : List (Option Refusal)) → first_refusal (later_rooms lent tests) ≡ none
    → (devices ≤ length lent.rows) × (1 ≤ length lent.held)
rooms_passed lent tests h =
    let e = none_refuses (later_rooms lent tests) h in
    (long_enough (length lent.rows) devices (e 0), long_enough (length lent.held) 1 (e 1))

rooms_pass : (lent : Beside) → devices ≤ length lent.rows → 1 ≤ length lent.held
    → first_refusal (later_rooms lent []) ≡ none
unfolding first_refusal too_short refuse_if
rooms_pass lent a b = rw (le-ltb (length lent.rows) devices a, le-ltb (length lent.held) 1 b)

module _ (plan : List ℕ) (lent : Beside) where
  pub building_is : building devices plan lent ≡ one.outcome_of (build_entry plan lent)
  unfolding building
  building_is = rw (rooms_one_by_one plan lent [])

  -- a refusal exactly in a listed case; it leaves the lists
  pub build_refused_exactly : (a : Result ℕ Refusal) (left : Beside) → BuildsWith plan lent a left → (r : Refusal)
      → (a ≡ Err r) ↔ NoBuild plan lent r
  build_refused_exactly a left m = one.refused_exactly (build_entry plan lent) a left (rw building_is at m)

  pub build_refused_leaves : (r : Refusal) (left : Beside) → BuildsWith plan lent (Err r) left
      → Refuses (NoBuild plan lent) lent r left
  build_refused_leaves r left m =
      one.refused_leaves (build_entry plan lent) (Err r) left (rw building_is at m) r refl

  -- a success fills the three lists, each with what is the plan's own
  written : (n : ℕ) (left : Beside) → BuildsWith plan lent (Ok n) left
      → left ≡ over_all (beside_of devices plan) lent
  written n left m =
      (one.done_leaves (build_entry plan lent) (Ok n) left (rw building_is at m) n refl).2

  pub built_leaves : (n : ℕ) (left : Beside) → BuildsWith plan lent (Ok n) left
      → IsBuilt plan lent n left
  unfolding over_all beside_of
  built_leaves n left m =
      let d = one.done_leaves (build_entry plan lent) (Ok n) left (rw building_is at m) n refl in
      let r = rooms_passed lent [] d.0.2 in
      record {
        of_table = record {
          sound = d.0.0;
          room = omega (arith, d.0.1, length_table plan);
          counts = d.1 ∙ sym (length_table plan);
          leaves = ap (λ (b : Beside). b.sets) d.2;
        };
        of_rows = record {
          sound = d.0.0;
          room = omega (arith, r.0, length_rows devices plan);
          counts = sym (length_rows devices plan);
          leaves = ap (λ (b : Beside). b.rows) d.2;
        };
        of_held = record {
          sound = d.0.0;
          room = r.1;
          counts = refl;
          leaves = ap (λ (b : Beside). b.held) d.2;
        };
      }

  -- a plan without a fault is built exactly if there is room, and that it is so is promised
  pub built_exactly : (a : Result ℕ Refusal) (left : Beside) → BuildsWith plan lent a left
      → ((n : ℕ) × (a ≡ Ok n)) ↔ (WellFormed board plan × HasRoom plan lent)
  built_exactly a left m =
      let d = one.done_exactly (build_entry plan lent) a left (rw building_is at m) in (
        λ h. let p = d.0 h in let r = rooms_passed lent [] p.2 in (p.0, (p.1, r.0, r.1)),
        λ h. d.1 (h.0, h.1.0, rooms_pass lent h.1.1 h.1.2),
      )

  pub builds_with : (left : Beside) → WellFormed board plan → HasRoom plan lent
      → left ≡ over_all (beside_of devices plan) lent → BuildsWith plan lent (Ok (length plan)) left
  builds_with left w h e =
      rw building_is
      (by_none Err (Ok (length plan)) (over_all (beside_of devices plan) lent) lent
      (one.tests (build_entry plan lent)) left
      ((one.passed_exactly (build_entry plan lent)).1 (w, h.0, rooms_pass lent h.1 h.2)) e)

  -- what is built is the plan's own
  pub built_own : (n : ℕ) (left : Beside) → BuildsWith plan lent (Ok n) left → OwnBeside plan left
  built_own n left m =
      let d = one.done_leaves (build_entry plan lent) (Ok n) left (rw building_is at m) n refl in
      record { sound = d.0.0; own = rw d.2 (own_written devices plan lent) }

-- ---- the quick verdict

abbrev pub quick_entry : (plan rs : List ℕ)
    → Entry (Result ℕ Refusal) (Unit {0}) (WellFormed board plan) (Broken board plan)
    (NoOrderBy devices plan (take devices rs))
quick_entry plan rs = record {
  answers = counts;
  fault = fault board plan;
  rest = two_lasting devices plan ∷ circle_of devices (take devices rs) ∷ [];
  sound = no_fault_exactly board plan;
  broken = fault_exactly board plan;
  beyond = λ w. seen_exactly devices plan (take devices rs)
      (first_refusal (two_lasting devices plan ∷ circle_of devices (take devices rs) ∷ []))
      (view_by devices plan (take devices rs));
  room = length rs;
  needed = devices;
  count = held_number devices plan;
  new = tt;
  lent = tt;
}

module _ (plan rs : List ℕ) where
  pub quick_is : quick devices plan rs ≡ (one.outcome_of (quick_entry plan rs)).answer
  unfolding quick quick_by quick_refusal outcome
  quick_is = go (one.tests (quick_entry plan rs))
    where
      go : (x : Option Refusal)
          → quick_by x (held_number devices plan)
          ≡ (outcome {L = Unit {0}} Err x
          (Ok (held_number devices plan)) tt tt).answer
      go none = refl
      go (some r) = refl

  pub quick_meets : (a : Result ℕ Refusal) → QuickAs plan rs a
      → Meets answer_values (one.outcome_of (quick_entry plan rs)) a tt
  quick_meets a m = record { answers = m.answers ∙ ap answer_values quick_is; leaves = refl }

  -- a refusal exactly in a listed case, 9 by the plan and 10 by the rows as lent
  pub quick_refused_exactly : (a : Result ℕ Refusal) → QuickAs plan rs a → (r : Refusal)
      → (a ≡ Err r) ↔ NoQuick plan rs r
  quick_refused_exactly a m = one.refused_exactly (quick_entry plan rs) a tt (quick_meets a m)

  -- otherwise the number of the devices held to the end, by the plan
  pub quick_held : (n : ℕ) → QuickAs plan rs (Ok n) → n ≡ held_number devices plan
  quick_held n m = (one.done_leaves (quick_entry plan rs) (Ok n) tt (quick_meets _ m) n refl).1

  -- by the plan's own rows it is the verdict's answer
  pub own_rows_agree : take devices rs ≡ rows devices plan → Agrees plan rs
  own_rows_agree own a b lent left long q o =
      the_quick plan rs a q ∙ quick_agrees devices plan rs lent own long
      ∙ sym (the_outcome one_answer b left o).0

-- ---- any move

abbrev pub move_entry : (p : List ℕ) (lent : Beside) (line device : ℕ)
    → Entry (Result ℕ Refusal) LentBeside (WellFormed board p) (Broken board p)
    (AfterTable lent (NotMoved board p lent.sets line device))
move_entry p lent line device =
    let new : Beside = beside_after devices p lent (asked_at line) device in
    record {
      answers = counts;
      fault = fault board p;
      rest = later_rooms lent (move.rest board p lent.sets line device);
      sound = no_fault_exactly board p;
      broken = fault_exactly board p;
      beyond = λ w. later_exactly lent (move.rest board p lent.sets line device)
          (NotMoved board p lent.sets line device) (move.not_moved_exactly board p lent.sets line device);
      room = length lent.sets;
      needed = length p;
      count = changed p lent.sets new.sets;
      new = record { plan = edited p (asked_at line) device; beside = new };
      lent = record { plan = p; beside = lent };
    }

module _ (p : List ℕ) (lent : Beside) (line device : ℕ) where
  pub moving_is : moving_kept devices p lent line device ≡ one.outcome_of (move_entry p lent line device)
  unfolding moving_kept kept_refusal
  moving_is = rw (rooms_one_by_one p lent (move.rest board p lent.sets line device))

  abbrev left : List ℕ → Beside → LentBeside
  left p' b = record { plan = p'; beside = b }

  -- a refusal exactly in a listed case; it changes nothing
  pub move_refused_exactly : (a : Result ℕ Refusal) (p' : List ℕ) (b : Beside) → MovesKeptWith p lent line device a p' b
      → (r : Refusal) → (a ≡ Err r) ↔ NoMoveKept p lent line device r
  move_refused_exactly a p' b m =
      one.refused_exactly (move_entry p lent line device) a (left p' b) (rw moving_is at m)

  pub move_refused_leaves : (r : Refusal) (p' : List ℕ) (b : Beside)
      → MovesKeptWith p lent line device (Err r) p' b
      → Refuses (NoMoveKept p lent line device) (left p lent) r (left p' b)
  move_refused_leaves r p' b m =
      one.refused_leaves (move_entry p lent line device) (Err r) (left p' b) (rw moving_is at m) r refl

  -- whatever rows and held set are lent, given room: answer, plan and table are what a move without them promises
  pub moves_as_before : devices ≤ length lent.rows → 1 ≤ length lent.held → (a : Result ℕ Refusal) (p' : List ℕ)
      (b : Beside) → MovesKeptWith p lent line device a p' b → MovesAs board p lent.sets line device a p' b.sets
  unfolding without_rows less_rows
  moves_as_before h k a p' b m =
      let e = as_before devices p lent line device h k in
      record {
        answers = m.answers ∙ ap (λ (o : Outcome (Result ℕ Refusal) Lent). answer_values o.answer) e;
        leaves = ap less_rows m.leaves ∙ ap (λ (o : Outcome (Result ℕ Refusal) Lent). o.left) e;
      }

  -- no row but those of the devices concerned is written, and nothing past the rows and the held set
  pub moves_write_only : (a : Result ℕ Refusal) (p' : List ℕ) (b : Beside) → MovesKeptWith p lent line device a p' b
      → WritesOnly devices p lent line device b
  moves_write_only a p' b m =
      let e : b ≡ (moving_kept devices p lent line device).left.beside =
      ap (λ (s : LentBeside). s.beside) m.leaves in
      rw e (writes_only devices p lent line device)

  -- what an accepted move writes there is by the edited plan and the table as it has become, whatever was lent
  pub moves_make : (n : ℕ) (p' : List ℕ) (b : Beside)
      → MovesKeptWith p lent line device (Ok n) p' b → MadeBy devices p line device p' b
  moves_make n p' b m =
      let d =
      one.done_leaves (move_entry p lent line device) (Ok n) (left p' b) (rw moving_is at m) n refl in
      rw (ap (λ (s : LentBeside). s.plan) d.2, ap (λ (s : LentBeside). s.beside) d.2)
      (made_after devices p lent line device)

  -- a move is never refused by 9 or 10
  pub no_verdict_bars : (r : Refusal) (p' : List ℕ) (b : Beside)
      → MovesKeptWith p lent line device (Err r) p' b → (number_of r ≢ 9) × (number_of r ≢ 10)
  no_verdict_bars r p' b m = go r (move_refused_leaves r p' b m).listed
    where
      far : (r : Refusal) → NotMoved board p lent.sets line device r → 12 ≤ number_of r
      far r (not_a_take x) = omega arith
      far r (no_such_device x h) = omega arith
      far r (stale_table k x h s) = omega arith

      later : (r : Refusal) → AfterTable lent (NotMoved board p lent.sets line device) r → 11 ≤ number_of r
      later r (also_short h) = omega arith
      later r (beyond q h (also_short k)) = omega arith
      later r (beyond q h (beyond s k f)) = omega (arith, far s f)

      go : (r : Refusal) → NoMoveKept p lent line device r → (number_of r ≢ 9) × (number_of r ≢ 10)
      go r (faulty s b) = let n = morning_number devices p s b in (λ e. omega arith, λ e. omega arith)
      go r (short w h) = (λ e. omega arith, λ e. omega arith)
      go r (further s w h f) = let n = later s f in (λ e. omega arith, λ e. omega arith)

-- ---- how a move with rows is made of one without

-- what the plan or the room refuses is refused whatever is asked
refused_early : (x y : Option Refusal) (tests : List (Option Refusal)) (r : Refusal)
    → first_refusal (x ∷ y ∷ []) ≡ some r → first_refusal (x ∷ y ∷ tests) ≡ some r
unfolding first_refusal
refused_early (some q) y tests r e = e
refused_early none (some q) tests r e = e
refused_early none none tests r e = absurd (none-ne-some r e)

module _ (p : List ℕ) (lent : Beside) (line device : ℕ) where
  abbrev i : ℕ
  i = asked_at line

  abbrev plain_entry : Entry (Result ℕ Refusal) Lent (WellFormed board p) (Broken board p)
      (NotMoved board p lent.sets line device)
  plain_entry = move.entry board p lent.sets line device

  abbrev new : LentBeside
  new = (move_entry p lent line device).new

  abbrev done : Result ℕ Refusal
  done = Ok (move_entry p lent line device).count

  met_by_refusal : (r : Refusal) → kept_refusal devices p lent line device ≡ some r
      → MovesKeptWith p lent line device (Err r) p lent
  unfolding moving_kept
  met_by_refusal r h =
      by_refusal Err done new (record { plan = p; beside = lent })
      (kept_refusal devices p lent line device) r h

  met_by_none : kept_refusal devices p lent line device ≡ none
      → MovesKeptWith p lent line device done new.plan new.beside
  unfolding moving_kept
  met_by_none h =
      by_none Err done new (record { plan = p; beside = lent }) (kept_refusal devices p lent line device)
      new h refl

  -- where building would be refused, so is the move
  pub met_as_building : (r : Refusal) → first_refusal (fault board p ∷ room_for devices p lent ∷ []) ≡ some r
      → MovesKeptWith p lent line device (Err r) p lent
  unfolding kept_refusal
  met_as_building r h =
      met_by_refusal r
      (refused_early (fault board p) (room_for devices p lent) (move.rest board p lent.sets line device) r h)

  module _ (rows_room : devices ≤ length lent.rows) (held_room : 1 ≤ length lent.held) where
    -- a move without rows was refused: nothing more is written
    pub met_refused : (r : Refusal) (p' t' : List ℕ)
        → MovesAs board p lent.sets line device (Err r) p' t'
        → MovesKeptWith p lent line device (Err r) p' (beside t' lent.rows lent.held)
    unfolding moving move_refusal
    met_refused r p' t' m =
        let e = one.refused_leaves plain_entry (Err r) (record { plan = p'; sets = t' }) m r refl in
        rw (ap (λ (l : Lent). l.plan) e.leaves, ap (λ (l : Lent). l.sets) e.leaves)
        (met_by_refusal r
        (same_tests devices p lent line device rows_room held_room ∙ (one.listed_exactly plain_entry r).1 e.listed))

    -- it was accepted: the rows of the devices concerned are written, and two bits of the held set
    pub met_accepted : (n : ℕ) (p' t' : List ℕ) → MovesAs board p lent.sets line device (Ok n) p' t'
        → MovesKeptWith p lent line device (Ok n) p'
        (beside t' (over (kept_rows devices p' t' (concerned p i device) lent.rows) lent.rows)
        (over (kept_held p' (device_at p i) device (get_or lent.held 0 0) ∷ []) lent.held))
    unfolding moving move_refusal
    met_accepted n p' t' m =
        let d = one.done_leaves plain_entry (Ok n) (record { plan = p'; sets = t' }) m n refl in
        rw (ap (λ (l : Lent). l.plan) d.2, ap (λ (l : Lent). l.sets) d.2, d.1)
        (met_by_none
        (same_tests devices p lent line device rows_room held_room ∙ (one.passed_exactly plain_entry).1 d.0))

-- ---- from a plan without a fault and its own table, rows and held set

own_has_room : (p : List ℕ) (lent : Beside) → Own devices p lent → HasRoom p lent
own_has_room p lent own =
    (own_long p lent.sets own.own_table, rows_room_lem devices p lent own, held_room_lem devices p lent own)

-- a move that is right without rows, and counts
moved_afresh : (p t : List ℕ) (line device : ℕ) (a : Result ℕ Refusal) (p' t' : List ℕ) (n : ℕ) → a ≡ Ok n
    → Moved board p t line device a p' t' → Afresh board p t line device n p' t'
moved_afresh p t line device a p' t' n e (plainly.not_moved r x) =
    let z : ◌≡◌ {A = ℕ} 0 1 = cc in absurd (omega arith)
moved_afresh p t line device a p' t' n e (plainly.is_moved k q u f) = let z : k ≡ n = cc in rw z at f

module _ (p : List ℕ) (lent : Beside) (line device : ℕ) (mine : OwnBeside p lent) where
  -- a move is refused by 12 or 13 and changes nothing, or leaves what `build` would
  pub moves_right : (a : Result ℕ Refusal) (p' : List ℕ) (b : Beside) → MovesKeptWith p lent line device a p' b
      → MovedKept p lent line device a p' b
  unfolding without_rows less_rows
  moves_right a p' b m = go (kept_step devices p lent line device mine.sound (lit≤ tt) mine.own)
    where
      o : Outcome (Result ℕ Refusal) LentBeside
      o = moving_kept devices p lent line device

      same : (a ≡ o.answer) × (record { plan = p'; beside = b } ≡ o.left)
      same = the_outcome one_answer a (record { plan = p'; beside = b }) m

      plan_is : p' ≡ o.left.plan
      plan_is = ap (λ (s : LentBeside). s.plan) same.1

      lists_are : b ≡ o.left.beside
      lists_are = ap (λ (s : LentBeside). s.beside) same.1

      room : HasRoom p lent
      room = own_has_room p lent mine.own

      plainly : MovesAs board p lent.sets line device a p' b.sets
      plainly = moves_as_before p lent line device room.1 room.2 a p' b m

      go : StepKept devices p lent line device o → MovedKept p lent line device a p' b
      go (refused u) =
          rw (same.0 ∙ u.as_before.answer, plan_is ∙ u.as_before.plan, lists_are ∙ u.stays)
          (not_moved u.as_before.refusal u.as_before.reason)
      go (accepted c) =
          let n : ℕ = differing o.left.beside.sets lent.sets in
          let e : a ≡ Ok n = same.0 ∙ c.as_before.count in
          let f =
          moved_afresh p lent.sets line device a p' b.sets n e
          (move.moves_right board (lit≤ tt) p lent.sets line device
          (record { sound = mine.sound; own = mine.own.own_table }) a p' b.sets plainly) in
          let long : length p' ≡ length p = ap length plan_is ∙ c.as_before.long in
          let new : b ≡ over_all (beside_of devices p') lent = lists_are ∙ c.afresh ∙ rw plan_is in
          rw e
          (is_moved n p' b (record {
            as_before = f;
            builds = builds_with p' lent b f.sound (omega (arith, long, room.0), room.1, room.2) new;
            only = moves_write_only p lent line device a p' b m;
            agrees = own_rows_agree p' b.rows (rw new (own_written devices p' lent).own_rows);
          }))

  -- a take moved to the device that it has is never refused: 0, and nothing changes
  pub stays_put : is_take_of p line ≡ true → device_at p (asked_at line) ≡ device → (a : Result ℕ Refusal) (p' : List ℕ)
      (b : Beside) → MovesKeptWith p lent line device a p' b → (a ≡ Ok 0) × (p' ≡ p) × (b ≡ lent)
  stays_put taken present a p' b m =
      let room = own_has_room p lent mine.own in
      let own : OwnTable board p lent.sets = record { sound = mine.sound; own = mine.own.own_table } in
      let r =
      move.stays_put board p lent.sets line device own taken present a p' b.sets
      (moves_as_before p lent line device room.1 room.2 a p' b m) in
      (r.0, r.1, go a p' b r.1 (moves_right a p' b m))
    where
      go : (a : Result ℕ Refusal) (p' : List ℕ) (b : Beside) → p' ≡ p → MovedKept p lent line device a p' b → b ≡ lent
      go a p' b e (not_moved r x) = refl
      go a p' b e (is_moved n q c f) =
          written q lent (length q) c f.builds ∙ rw e (own_stays devices p lent mine.own)

-- ---- any list of moves

moves_are : (s v : LentBeside) (asks : List Ask) → MovesKept s asks v → v ≡ moved_kept_by devices s asks
unfolding moved_kept_by moved_kept
moves_are s v asks (none_asked u) = refl
moves_are s v asks (one_more s' u w a rest answer m ms) =
    moves_are u w rest ms
    ∙ ap (λ (x : LentBeside). moved_kept_by devices x rest) (the_outcome one_answer answer u m).1

-- The theorem: from a plan without a fault and what is its own beside it, after any list of moves, refused ones among
-- them, the plan has no fault, the three lists have what `build` would leave, `quick` agrees with the verdict, and the
-- next move is right.
pub moves_stay_right : (s v : LentBeside) (asks : List Ask) → OwnBeside s.plan s.beside → MovesKept s asks v
    → StaysRightKept s v
moves_stay_right s v asks own ms = record {
  lines = k.long;
  own = mine;
  builds = builds_with v.plan s.beside v.beside mine.sound
      (omega (arith, k.long, room.0), room.1, room.2) k.afresh;
  agrees = own_rows_agree v.plan v.beside.rows mine.own.own_rows;
  next = λ a. moves_right v.plan v.beside a.line a.device mine;
}
  where
    room : HasRoom s.plan s.beside
    room = own_has_room s.plan s.beside own.own

    k : StillOwn devices s v
    k =
        rw (moves_are s v asks ms)
        (moves_keep_own devices (lit≤ tt) s asks ((no_fault_exactly board s.plan).1 own.sound) own.own)

    mine : OwnBeside v.plan v.beside
    mine = record {
      sound = (no_fault_exactly board v.plan).0 k.no_fault;
      own = rw k.afresh (own_written devices v.plan s.beside);
    }

-- and from building on
pub built_moves_stay_right : (plan : List ℕ) (lent b : Beside) (n : ℕ) → BuildsWith plan lent (Ok n) b
    → (v : LentBeside) (asks : List Ask) → MovesKept (record { plan = plan; beside = b }) asks v
    → StaysRightKept (record { plan = plan; beside = b }) v
built_moves_stay_right plan lent b n m v asks =
    moves_stay_right (record { plan = plan; beside = b }) v asks (built_own plan lent n b m)

-- Whatever rows and held set are lent, given room: plan and table go through the moves as without them.
pub moves_plainly : (s v : LentBeside) (asks : List Ask) → devices ≤ length s.beside.rows
    → 1 ≤ length s.beside.held → MovesKept s asks v → Moves board (less_rows s) asks (less_rows v)
unfolding less_rows
moves_plainly s v asks a b (none_asked u) = plainly.none_asked (less_rows u)
moves_plainly s v asks a b (one_more s' u w x rest answer m ms) =
    let only = moves_write_only s'.plan s'.beside x.line x.device answer u.plan u.beside m in
    plainly.one_more (less_rows s') (less_rows u) (less_rows w) x rest answer
    (moves_as_before s'.plan s'.beside x.line x.device a b answer u.plan u.beside m)
    (moves_plainly u w rest (omega (arith, only.long_rows)) (omega (arith, only.long_held)) ms)
