-- The loop over the entries (02, requests 1 and 2): what holds before each, at the start, after a legal step, and where
-- it ends. Once k entries are passed, k lines are done, of which the list of next lines and the set tell; and the whole
-- answer is that of the entries left.
use Prim.Native.Nat.{ℕ, suc, ◌+◌, ◌-◌, ◌<◌, ◌≤◌}
use mathlib.Core.Bool.{Bool, true, false, cond, not, ◌&&◌, ◌||◌}
use mathlib.Core.List.{List, [], ◌∷◌, ◌++◌}
use mathlib.Core.Logic.{◌⊎◌, inl, inr}
use mathlib.Core.Option.{none, some}
use mathlib.Core.Path.{◌≡◌, refl, sym, ◌∙◌, ap, ap₂, subst}
use native.Mathlib.Numerals.{add-one}
use native.Mathlib.Omega.{arith}
use lib.Dec.{eqb}
use lib.ListN.{length, get_or, drop, drop_of_length-le}
use lib.Seq.{drop-cons}
use borrow.Author.Tests.{eqb-true, eq-eqb, ne_eqb, not-true}
use Rattle.model.specs.Lists.{positions, all, has}
use Rattle.model.specs.Sets.{empty, member}
use Rattle.model.specs.Line.{job, operand, at}
use Rattle.model.specs.Mate.{takes_at, device_at, takes, held_at, held_lines, steps}
use Rattle.model.specs.WellFormed.{WellFormed, fault}
use Rattle.model.specs.Legal.{held, MayFollow}
use Rattle.model.specs.Judged.{stray_after, stray}
use Rattle.model.specs.Board.{devices, board_at}
use Rattle.theory.specs.Outer.{frees_at, again_at, plain_at}
use Rattle.theory.proofs.Tests.{clash, falsely, test, tests_agree, and_split, and_both, and_left, and_right}
use Rattle.theory.proofs.Tests.{and_second}
use Rattle.theory.proofs.Lists.{has_position, position_has, all_at, each_all, left, left_none, left_zero}
use Rattle.theory.proofs.Lists.{among}
use Rattle.theory.proofs.WellFormed.{no_fault_exactly}
use Rattle.theory.proofs.Grips.{held_has}
use Rattle.theory.proofs.LineByLine.{more_old}
use Rattle.theory.proofs.Claims.{takes_parts}
use Rattle.theory.proofs.Outer.{plain_operand, plain_take, plain_give}
use Rattle.theory.proofs.Progress.{device_below}
use Rattle.theory.proofs.Steps.{HeldOnce, held_once_first, held_once_on, handles, held_step}
use Rattle.theory.proofs.Judged.{may_follow_exactly, step_passes, entry_refused, one_less, steps_left}
use Rattle.sets.specs.Only.{only_of}
use Rattle.sets.proofs.Members.{member_differ, member_only_if}
use Rattle.plan.specs.Jobs.{first_lines}
use Rattle.plan.specs.declared.Notes.{Notes}
use Rattle.legal.specs.declared.State.{State}
use Rattle.legal.specs.Begun.{Standing, Ready}
use Rattle.legal.specs.Steps.{is_next, passed, set_after, StepsAs}
use Rattle.legal.proofs.Entries.{Names, next_counted, passed_counted}
use Rattle.legal.proofs.Standing.{ready, ready_stands, later_undone, stands_on}

-- with k entries passed, whose lines are done, and the held lines before them
pub record Following (p first es next : List ℕ) (set k : ℕ) : Type 0 where
  pub midday : Bool
  pub sound : fault (board_at midday) p ≡ none
  pub firsts : first ≡ first_lines p
  pub done : List ℕ
  pub within : k ≤ length es
  pub standing : Standing p done next
  pub begun : (i : ℕ) → held_at p i ≡ true → has i done ≡ true
  pub once : HeldOnce p done
  pub holds : (d : ℕ) → d < devices → member set d ≡ held p done d
  pub rest : left (among done) (length p) + k ≡ length (steps p)
  pub answer : stray p es ≡ stray_after p done k (drop k es)

pub formed : {p : List ℕ} {notes : Notes} {state : State} (r : Ready p notes state) → WellFormed (board_at r.midday) p
formed {p} r = (no_fault_exactly (board_at r.midday) p).0 r.tabled.sound

pub follows_first : {p : List ℕ} {notes : Notes} {state : State} (es : List ℕ) → Ready p notes state
    → Following p notes.first es state.next state.held 0
unfolding stray
follows_first {p} es r = record {
  midday = r.midday;
  sound = r.tabled.sound;
  firsts = r.tabled.firsts;
  done = held_lines p;
  within = omega arith;
  standing = r.begins.standing;
  begun = held_has p;
  once = held_once_first p (formed r).rules;
  holds = r.begins.holds;
  rest = omega (arith, steps_left p);
  answer = refl;
}

module _ {p first es next : List ℕ} {set k : ℕ} (f : Following p first es next set k) where
  abbrev w : WellFormed (board_at f.midday) p
  w = (no_fault_exactly (board_at f.midday) p).0 f.sound

  abbrev done : List ℕ
  done = f.done

  -- the device of an outermost take is in the set exactly if it is held
  take_held : (i d : ℕ) → takes p i d ≡ true → member set d ≡ held p done d
  take_held i d t = f.holds d (device_below (board_at f.midday) p w i d t)

  -- the code's test of line i is the rule's
  may_follow_lem : (i : ℕ) → i < length p → is_next next set (plain_at p i) (suc i) ≡ true → MayFollow p done i
  may_follow_lem i line e =
      let a = and_split (eqb (get_or next (job (at p i)) 0) (suc i)) (not barred) (rw next_counted at e) in
      let r = ready w f.standing line (eqb-true (get_or next (job (at p i)) 0) (suc i) a.0) in record {
        line = line;
        once = r.0;
        after = r.1;
        free = λ d t. free d t (not-true barred a.1);
      }
    where
      barred : Bool
      barred = takes_at p i && member set (device_at p i)

      free : (d : ℕ) → takes p i d ≡ true → barred ≡ false → held p done d ≡ false
      free d t n =
          let s = takes_parts p i d t in
          sym (take_held i d t) ∙ ap (member set) (sym s.1)
          ∙ and_second (takes_at p i) (member set (device_at p i)) s.0 n

  follow_next : (i : ℕ) → MayFollow p done i → is_next next set (plain_at p i) (suc i) ≡ true
  unfolding takes
  follow_next i m =
      rw (
        next_counted,
        eq-eqb (get_or next (job (at p i)) 0) (suc i) (ready_stands w f.standing m.line m.once m.after),
        free (test (takes_at p i)),
      )
    where
      own : ℕ
      own = device_at p i

      free : (takes_at p i ≡ true) ⊎ (takes_at p i ≡ false) → (takes_at p i && member set own) ≡ false
      free (inr n) = and_left (takes_at p i) (member set own) n
      free (inl t) =
          let own-take = and_both (takes_at p i) (eqb own own) t (eq-eqb own own refl) in
          and_right (takes_at p i) (member set own) (take_held i own own-take ∙ m.free own own-take)

  -- ---- no more entries

  whole : all (λ i. has i done) (positions p) ≡ eqb k (length (steps p))
  whole = tests_agree (all (λ i. has i done) (positions p)) (eqb k (length (steps p))) to from
    where
      to : all (λ i. has i done) (positions p) ≡ true → eqb k (length (steps p)) ≡ true
      to e =
          eq-eqb k (length (steps p))
          (omega (
            arith,
            f.rest,
            left_zero (among done) (length p) (λ i h. all_at (λ i. has i done) (positions p) i e (position_has p i h)),
          ))

      from : eqb k (length (steps p)) ≡ true → all (λ i. has i done) (positions p) ≡ true
      from e =
          let z = eqb-true k (length (steps p)) e in
          each_all (λ i. has i done) (positions p)
          (λ i h. left_none (among done) (length p) (omega (arith, f.rest)) i (has_position p i h))

  pub all_passed : length es ≤ k → StepsAs p es k
  unfolding stray_after
  all_passed h = record {
    few = omega (arith, f.rest);
    strays = f.answer
        ∙ rw (drop_of_length-le es {i = k} h, whole, eq-eqb k (length es) (omega (arith, f.within)))
        (go (eqb k (length (steps p))));
  }
    where
      go : (b : Bool) → cond b none (some (suc k)) ≡ cond (b && true) none (some (suc k))
      go true = refl
      go false = refl

  module _ (more : k < length es) where
    abbrev entry : ℕ
    entry = get_or es k 0

    abbrev later : List ℕ
    later = drop (suc k) es

    -- ---- the next entry is no legal step

    stops_here : ((i : ℕ) → entry ≡ suc i → MayFollow p done i → ⊥) → StepsAs p es k
    stops_here n = record {
      few = omega (arith, f.rest);
      strays = f.answer ∙ ap (stray_after p done k) (drop-cons es k 0 more)
          ∙ entry_refused p done k entry later (λ i q t. n i q ((may_follow_exactly p done i).0 t))
          ∙ rw (ne_eqb k (length es) (λ q. omega arith)) (go (eqb k (length (steps p))));
    }
      where
        go : (b : Bool) → some (suc k) ≡ cond (b && false) none (some (suc k))
        go true = refl
        go false = refl

    -- it is no line's number
    pub no_number : (1 ≤ entry → entry ≤ length p → ⊥) → StepsAs p es k
    no_number h = stops_here (λ i q m. h (omega arith) (omega (arith, m.line)))

    module _ {l : ℕ} (n : Names p entry l) where
      abbrev x : ℕ
      x = entry - 1

      -- the code's test is that of line x
      tested : is_next next set l entry ≡ is_next next set (plain_at p x) (suc x)
      tested = ap₂ (is_next next set) n.counts n.number

      -- its line may not follow
      pub no_step : is_next next set l entry ≡ false → StepsAs p es k
      no_step h =
          stops_here
          (λ i q m. clash (is_next next set l entry)
          (tested ∙ follow_next x (subst (λ (j : ℕ). MayFollow p done j) (omega arith) m)) h)

      -- ---- it is one

      module _ (yes : is_next next set l entry ≡ true) where
        may : MayFollow p done x
        may = may_follow_lem x n.line (sym tested ∙ yes)

        -- no held line, since those are done
        step : held_at p x ≡ false
        step = falsely (held_at p x) (λ h. clash (has x done) (f.begun x h) may.once)

        stood : get_or next (job (at p x)) 0 ≡ suc x
        stood = ready_stands w f.standing may.line may.once may.after

        turned : (d : ℕ) → d < devices → member (set_after (plain_at p x) set) d ≡ held p (done ++ (x ∷ [])) d
        unfolding handles
        turned d h =
            rw (plain_take p x, plain_give p x, plain_operand (again_at p x) (at p x))
            (member_differ set (cond (takes_at p x || frees_at p x) (only_of devices (operand (at p x))) empty) d
            ∙ rw (member_only_if devices (takes_at p x || frees_at p x) (operand (at p x)) d h, f.holds d h)
            (sym (held_step p w.rules done x may step f.once (later_undone w f.standing may.line stood) d)))

        -- the list of next lines, as the code has it
        listed_on : passed next (first_lines p) (at p x) (suc x) ≡ passed next first l entry
        listed_on =
            rw (n.counts, f.firsts, passed_counted p x next (first_lines p) entry)
            (ap (passed next (first_lines p) (at p x)) (sym n.number))

        pub follows_on_lem : {next' : List ℕ} {set' : ℕ} → next' ≡ passed next first l entry → set' ≡ set_after l set
            → Following p first es next' set' (k + 1)
        follows_on_lem a b = rw (a, b) (record {
          midday = f.midday;
          sound = f.sound;
          firsts = f.firsts;
          done = done ++ (x ∷ []);
          within = omega arith;
          standing = subst (λ (s : List ℕ). Standing p (done ++ (x ∷ [])) s) listed_on
              (stands_on w f.standing may.line stood);
          begun = λ i h. more_old i x done (f.begun i h);
          once = held_once_on p w.rules done x may step f.once;
          holds = λ d h. ap (λ (s : ℕ). member (set_after s set) d) n.counts ∙ turned d h;
          rest = omega (arith, f.rest, one_less p done x may);
          answer = f.answer
              ∙ ap (stray_after p done k) (drop-cons es k 0 more ∙ ap {B = List ℕ} (λ e. e ∷ later) n.number)
              ∙ step_passes p done k x later ((may_follow_exactly p done x).1 may)
              ∙ ap (λ (j : ℕ). stray_after p (done ++ (x ∷ [])) j (drop j es)) (sym (add-one k));
        })
