-- The held lines are done before the first step (02, request 5): the pass over the lines does each in its turn. Held
-- lines stand first in their jobs, and no line starts these, so each may follow those before it; and none is given back
-- among them, so that the devices held are theirs. In the morning there is none, and no step is done.
use Prim.Native.Nat.{ℕ, zero, suc, ◌+◌, ◌-◌, ◌<◌, ◌≤◌}
use mathlib.Core.Bool.{Bool, true, false, ◌||◌}
use mathlib.Core.List.{List, [], ◌∷◌, ◌++◌, append-nil}
use mathlib.Core.Logic.{◌⊎◌, inl, inr}
use mathlib.Core.Option.{none}
use mathlib.Core.Path.{◌≡◌, sym, ◌∙◌, ap, ap₂, subst}
use native.Mathlib.Numerals.{add-one}
use native.Mathlib.Omega.{arith}
use lib.Dec.{eqb}
use lib.ListN.{length, get_or}
use borrow.Author.Tests.{eq-eqb}
use Rattle.model.specs.Lists.{up_from, has, those, positions}
use Rattle.model.specs.Sets.{empty, union, member}
use Rattle.model.specs.Line.{job, is_held, is_give, opens, device_of, holds, starts, at}
use Rattle.model.specs.WellFormed.{WellFormed, fault}
use Rattle.model.specs.Mate.{held_at, held_lines, steps, device_at, grips}
use Rattle.model.specs.Legal.{given_back, held, MayFollow}
use Rattle.model.specs.Board.{devices, board, board_at}
use Rattle.theory.proofs.Tests.{clash, falsely, tests_agree, or_split, or_left, or_right, and_both}
use Rattle.theory.proofs.Lists.{has_those, those_has, has_up_from, up_from_has, left, among, left_every}
use Rattle.theory.proofs.Line.{held_opens, give_no_held, device_rest}
use Rattle.theory.proofs.Sets.{member_union, member_empty}
use Rattle.theory.proofs.WellFormed.{no_fault_exactly, no_held_in_morning}
use Rattle.theory.proofs.Successors.{Why, same_job, starter, why}
use Rattle.theory.proofs.Grips.{takes_no_held, holds_grips, grips_parts, before_held}
use Rattle.theory.proofs.Mate.{pair}
use Rattle.theory.proofs.Turns.{given_parts}
use Rattle.theory.proofs.LineByLine.{more_old, more_new, more_only}
use Rattle.theory.proofs.Steps.{Holds, held_found, held_at_lem}
use Rattle.theory.proofs.Judged.{one_less, steps_left}
use Rattle.theory.proofs.Morning.{no_held_lines, all_steps}
use Rattle.line.specs.Device.{device_bits}
use Rattle.sets.specs.Only.{only_of}
use Rattle.sets.proofs.Members.{member_only_of}
use Rattle.plan.specs.Jobs.{first_lines}
use Rattle.plan.specs.declared.Notes.{Notes}
use Rattle.legal.specs.declared.State.{State}
use Rattle.legal.specs.Begun.{Standing, Running, Tabled, BeginsAs}
use Rattle.legal.specs.Steps.{passed}
use Rattle.legal.proofs.Standing.{stands_running, ready_stands, stands_on}

-- ---- the held lines among the first i lines

abbrev pub held_among : List ℕ → ℕ → List ℕ
held_among p i = those (held_at p) (up_from 0 i)

those_last : (f : ℕ → Bool) (a n : ℕ) → those f (up_from a (suc n)) ≡ those f (up_from a n) ++ those f ((a + n) ∷ [])
unfolding those up_from
those_last f a zero = let z : a + 0 ≡ a = omega arith in rw z
those_last f a (suc n) =
    let z : a + suc n ≡ suc a + n = omega arith in rw z (go (f a) (those_last f (suc a) n))
  where
    go : (b : Bool)
        → those f (up_from (suc a) (suc n)) ≡ those f (up_from (suc a) n) ++ those f ((suc a + n) ∷ [])
        → ◌≡◌ {A = List ℕ} (elim b [
          | true ↦ a ∷ those f (up_from (suc a) (suc n))
          | false ↦ those f (up_from (suc a) (suc n))
        ])
        (elim b [ true ↦ a ∷ those f (up_from (suc a) n) | false ↦ those f (up_from (suc a) n) ]
        ++ those f ((suc a + n) ∷ []))
    go true ih = ap {B = List ℕ} (λ xs. a ∷ xs) ih
    go false ih = ih

module _ (p : List ℕ) (i : ℕ) where
  last_held : held_at p i ≡ true → held_among p (i + 1) ≡ held_among p i ++ (i ∷ [])
  unfolding those
  last_held h =
      let z : 0 + i ≡ i = omega arith in
      ap (λ (n : ℕ). held_among p n) (add-one i) ∙ those_last (held_at p) 0 i ∙ rw (z, h, those, z)

  last_step : held_at p i ≡ false → held_among p (i + 1) ≡ held_among p i
  unfolding those
  last_step h =
      let z : 0 + i ≡ i = omega arith in
      ap (λ (n : ℕ). held_among p n) (add-one i) ∙ those_last (held_at p) 0 i
      ∙ rw (z, h, those) (append-nil (held_among p i))

  among_held : (k : ℕ) → has k (held_among p i) ≡ true → (k < i) × (held_at p k ≡ true)
  among_held k h = let r = has_those (held_at p) (up_from 0 i) k h in (omega (arith, (has_up_from 0 i k r.0).1), r.1)

  held_among_lem : (k : ℕ) → k < i → held_at p k ≡ true → has k (held_among p i) ≡ true
  held_among_lem k l h = those_has (held_at p) (up_from 0 i) k (up_from_has 0 i k (omega arith) (omega arith)) h

-- ---- what is held after held lines alone

module _ (p done : List ℕ) (all_held : (k : ℕ) → has k done ≡ true → held_at p k ≡ true) where
  -- no give is among them
  not_given : (k : ℕ) → given_back p done k ≡ false
  unfolding held_at
  not_given k = falsely (given_back p done k) no
    where
      no : given_back p done k ≡ true → ⊥
      no g =
          let r = given_parts p done k g in
          clash (held_at p r.0) (all_held r.0 r.2)
          (give_no_held (at p r.0) (pair p k r.0 r.1).gives)

grips_device : (p : List ℕ) (x d : ℕ) → held_at p x ≡ true → eqb (device_at p x) d ≡ true → grips p x d ≡ true
unfolding holds held_at device_at
grips_device p x d h q = holds_grips p x d (and_both (is_held (at p x)) (eqb (device_of (at p x)) d) h q)

held_more : (p done : List ℕ) (x d : ℕ) → ((k : ℕ) → has k done ≡ true → held_at p k ≡ true) → held_at p x ≡ true
    → held p (done ++ (x ∷ [])) d ≡ (held p done d || eqb (device_at p x) d)
held_more p done x d all_held h = tests_agree (held p more d) (held p done d || eqb (device_at p x) d) to from
  where
    more : List ℕ
    more = done ++ (x ∷ [])

    more_held : (k : ℕ) → has k more ≡ true → held_at p k ≡ true
    more_held k m = go (more_only k x done m)
      where
        go : (has k done ≡ true) ⊎ (k ≡ x) → held_at p k ≡ true
        go (inl e) = all_held k e
        go (inr q) = rw q h

    to : held p more d ≡ true → (held p done d || eqb (device_at p x) d) ≡ true
    to e = let r = held_found p more d e in go r.0 r.1 (more_only r.0 x done r.1.is_done)
      where
        go : (k : ℕ) → Holds p more k d → (has k done ≡ true) ⊎ (k ≡ x)
            → (held p done d || eqb (device_at p x) d) ≡ true
        go k g (inl m) =
            or_left (held p done d) (eqb (device_at p x) d)
            (held_at_lem p done k d (record { is_done = m; took = g.took; kept = not_given p done all_held k }))
        go k g (inr q) =
            or_right (held p done d) (eqb (device_at p x) d)
            (eq-eqb (device_at p x) d (grips_parts p x d (rw q at g.took)).1)

    from : (held p done d || eqb (device_at p x) d) ≡ true → held p more d ≡ true
    from e = go (or_split (held p done d) (eqb (device_at p x) d) e)
      where
        go : (held p done d ≡ true) ⊎ (eqb (device_at p x) d ≡ true) → held p more d ≡ true
        go (inl g) =
            let r = held_found p done d g in
            held_at_lem p more r.0 d
            (record {
              is_done = more_old r.0 x done r.1.is_done;
              took = r.1.took;
              kept = not_given p more more_held r.0;
            })
        go (inr q) =
            held_at_lem p more x d
            (record { is_done = more_new x done; took = grips_device p x d h q; kept = not_given p more more_held x })

-- ---- the pass over the lines

-- with i lines looked at
pub record Doing (p next : List ℕ) (count set i : ℕ) : Type 0 where
  pub standing : Standing p (held_among p i) next
  pub counted : count ≡ left (among (held_among p i)) (length p)
  pub holding : (d : ℕ) → d < devices → member set d ≡ held p (held_among p i) d
  pub within : i ≤ length p

pub does_first : (p next : List ℕ) → Standing p [] next → Doing p next (length p) empty 0
unfolding held those up_from
does_first p next s = record {
  standing = s;
  counted = sym (left_every (length p));
  holding = λ d h. member_empty d;
  within = omega arith;
}

module _ {p next : List ℕ} {count set i : ℕ} (w : WellFormed (board_at true) p) (g : Doing p next count set i)
    (more : i < length p) where
  -- a step is passed over
  pub step_over : is_held (at p i) ≡ false → Doing p next count set (i + 1)
  unfolding held_at
  step_over h =
      let z = last_step p i h in record {
        standing = rw z g.standing;
        counted = rw z g.counted;
        holding = λ d l. rw z (g.holding d l);
        within = omega arith;
      }

  -- a held line is done
  module _ (h : is_held (at p i) ≡ true) where
    its : held_at p i ≡ true
    unfolding held_at
    its = h

    may : MayFollow p (held_among p i) i
    may = record {
      line = more;
      once = falsely (has i (held_among p i)) (λ e. let r = among_held p i i e in omega (arith, r.0));
      after = λ k l b. held_among_lem p i k (earlier k (why p k i b)) (before_held p w.rules k i b its);
      free = λ d t. clash (held_at p i) its (takes_no_held p i d t);
    }
      where
        earlier : (k : ℕ) → Why p k i → k < i
        earlier k (same_job lt q) = lt
        earlier k (starter a) = clash (starts (at p k) (job (at p i))) a (w.rules.held_runs i k h)

    stood : get_or next (job (at p i)) 0 ≡ suc i
    stood = ready_stands w g.standing more may.once may.after

    one : left (among (held_among p i)) (length p) ≡ suc (left (among (held_among p (i + 1))) (length p))
    one = rw (last_held p i its) (one_less p (held_among p i) i may)

    -- so there is a step less
    pub some_left : 1 ≤ count
    some_left = omega (arith, g.counted, one)

    device_is : device_bits (at p i) ≡ device_at p i
    unfolding device_at
    device_is =
        device_rest (board_at true) (omega arith) (at p i) (w.lines i more)
        (or_left (opens (at p i)) (is_give (at p i)) (held_opens (at p i) h))

    pub held_on : {first next' : List ℕ} {count' set' : ℕ} → first ≡ first_lines p
        → next' ≡ passed next first (at p i) (i + 1) → set' ≡ union set (only_of devices (device_bits (at p i)))
        → count' ≡ count - 1 → Doing p next' count' set' (i + 1)
    held_on {first} {next'} {count'} {set'} f a b c = record {
      standing = rw (a, f, last_held p i its, add-one i) (stands_on w g.standing more stood);
      counted = omega (arith, c, g.counted, one);
      holding = λ d l. (
          rw (b, last_held p i its)
          (member_union set (only_of devices (device_bits (at p i))) d
          ∙ ap₂ (λ (x y : Bool). x || y) (g.holding d l)
          (member_only_of devices (device_bits (at p i)) d l ∙ ap (λ (e : ℕ). eqb e d) device_is)
          ∙ sym (held_more p (held_among p i) i d (λ k e. (among_held p i k e).1) its)));
      within = omega arith;
    }

-- where it ends
pub all_done : {p next : List ℕ} {count set i : ℕ} → Doing p next count set i → length p ≤ i
    → BeginsAs p (record { next = next; held = set }) × (count ≡ length (steps p))
unfolding held_lines positions
all_done {p} {next} {count} {set} {i} g l =
    let z : held_among p i ≡ held_lines p = whole in (
      record {
        standing = subst (λ (d : List ℕ). Standing p d next) z g.standing;
        holds = λ d h. g.holding d h ∙ ap (λ (xs : List ℕ). held p xs d) z;
      },
      g.counted ∙ ap (λ (d : List ℕ). left (among d) (length p)) z ∙ steps_left p,
    )
  where
    whole : held_among p i ≡ held_lines p
    whole = let z : i ≡ length p = omega (arith, l, g.within) in ap (λ (n : ℕ). held_among p n) z

-- ---- in the morning

pub runs_first : {midday : Bool} {p next : List ℕ} {notes : Notes} → Tabled midday p notes
    → Running notes.first notes.starter next → Standing p [] next
runs_first {midday} {p} t r =
    stands_running ((no_fault_exactly (board_at midday) p).0 t.sound) t.firsts t.starts r

pub morning_begins : {p : List ℕ} {state : State} → fault board p ≡ none → Standing p [] state.next
    → state.held ≡ empty → BeginsAs p state × (length p ≡ length (steps p))
unfolding held
morning_begins {p} e s free = (
  record { standing = rw nothing s; holds = λ d h. rw (nothing, free) (member_empty d) },
  sym (all_steps p unheld),
)
  where
    unheld : (i : ℕ) → is_held (at p i) ≡ false
    unheld i = no_held_in_morning devices p ((no_fault_exactly board p).0 e) i

    nothing : held_lines p ≡ []
    nothing = no_held_lines p unheld
