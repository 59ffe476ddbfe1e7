-- The walk that notes, from line to line: beside the state of the walk there are its notes of the devices held, the
-- flags of the lines so far (02, request 2), and what each job holds after them.
use Rattle.std.proofs.Common.{◌≡◌, ℕ, zero, suc, ◌^◌, ◌<◌, Bool, true, false, cond, not, ◌&&◌, ◌||◌, eqb, ◌⊎◌}
use Rattle.std.proofs.Common.{List, [], ◌∷◌, length, get_or, set, sym, refl, ap, ◌∙◌, inl, inr, arith, eq-eqb}
use Rattle.std.proofs.Common.{eqb-true}
use mathlib.Core.List.{tail}
use mathlib.Core.Option.{none}
use borrow.Author.Tests.{eqb-false}
use Rattle.model.specs.Board.{devices, board_at}
use Rattle.model.specs.Lists.{has}
use Rattle.model.specs.Line.{Settings, job, opens, is_held, is_take, is_give, device_of, holds, at, max_lines}
use Rattle.model.specs.Sets.{empty}
use Rattle.model.specs.WellFormed.{before, held_by, held_there, line_fault}
use Rattle.model.specs.Mate.{device_at, holds_already}
use Rattle.sets.specs.Both.{differ}
use Rattle.sets.proofs.Members.{differ_below}
use Rattle.line.specs.Device.{device_bits}
use Rattle.theory.specs.WellFormed.{InOrder}
use Rattle.theory.proofs.Held.{held_foreign, held_opened, held_give, held_other}
use Rattle.theory.proofs.Line.{line_parts, take_is, device_rest, held_opens, held_no_take, opens_no_give}
use Rattle.theory.proofs.Lists.{has_tail, has_cases, has_none}
use Rattle.theory.proofs.Tests.{clash, test, falsely, and_both, or_left}
use Rattle.theory.proofs.Sets.{empty_below}
use Rattle.theory.specs.Outer.{again_at, holds_beneath}
use Rattle.plan.specs.Standing.{After}
use Rattle.plan.specs.Walk.{on, step_of, held_in}
use Rattle.plan.specs.declared.Standing.{Standing}
use Rattle.plan.specs.Noting.{handled_by, change_after, Noted, NotesAs, NotesOf}
use Rattle.plan.specs.Again.{none_again}
use Rattle.plan.specs.Tables.{none_yet}
use Rattle.plan.proofs.Stacks.{length_held}
use Rattle.plan.proofs.Steps.{in_place}
use Rattle.plan.proofs.Stands.{in_order, there_is}
use Rattle.plan.proofs.Walks.{At, Start, at_clear, at_next}
use Rattle.plan.proofs.Flags.{Flagged, none_flagged, one_flagged, all_flagged}
use Rattle.plan.proofs.Holdings.{Held, nothing_held, one_held, all_held}
use Rattle.plan.proofs.Noting.{again_in, none_noted, noted_or_none, says, change_of_below, Went, went}

pub record NotesAt (p : List ℕ) (u : Standing) (stack added again left : List ℕ) : Type 0 where
  pub noted : Noted (held_in u.depth stack) u.held added
  pub below : u.held < 2 ^ devices
  pub flagged : Flagged p u.lines again
  pub kept : Held p u.lines left

pub notes_start : (p : List ℕ) (u : Standing) (stack added again left : List ℕ) → Start u
    → length added ≡ suc max_lines → again ≡ none_again → left ≡ none_yet → NotesAt p u stack added again left
unfolding held_in
notes_start p u stack added again left z l a h = record {
  noted = rw (z.depth, z.held) (none_noted added l);
  below = rw z.held (empty_below devices);
  flagged = rw (z.lines, a) (none_flagged p);
  kept = rw (z.lines, h) (nothing_held p);
}

-- what is noted of the whole plan
pub notes_end : (p : List ℕ) (u : Standing) (stack added again left : List ℕ) → u.lines ≡ length p
    → NotesAt p u stack added again left → NotesOf p again left
notes_end p u stack added again left e w = record {
  flags = all_flagged p again (rw e at w.flagged);
  held = all_held p left (rw e at w.kept);
}

and_yes : (b : Bool) → (b && true) ≡ b
and_yes true = refl
and_yes false = refl

-- two tests with the same answer, of devices that are one where it counts
both_alike : (a a' b : Bool) (d e : ℕ) (ds : List ℕ) → a ≡ a' → ((a || b) ≡ true → d ≡ e)
    → ((a && has d ds) || (b && has d (tail ds))) ≡ ((a' && has e ds) || (b && has e (tail ds)))
both_alike a a' b d e ds q f = rw (← q) (go a b f)
  where
    go : (a b : Bool) → ((a || b) ≡ true → d ≡ e)
        → ((a && has d ds) || (b && has d (tail ds))) ≡ ((a && has e ds) || (b && has e (tail ds)))
    go true b f = rw (f refl)
    go false true f = rw (f refl)
    go false false f = refl

-- what a job holds was taken or held by a line of it
has_rest : (d : ℕ) (ds : List ℕ) → has d (tail ds) ≡ true → has d ds ≡ true
has_rest d [] h = h
has_rest d (x ∷ xs) h = has_tail d x xs h

held_from_lem : (p : List ℕ) (j d i : ℕ) → has d (held_by j (before p i)) ≡ true
    → (k : ℕ) × (k < i) × (job (at p k) ≡ j) × (device_of (at p k) ≡ d)
unfolding before held_by
held_from_lem p j d zero h = has_none d h
held_from_lem p j d (suc i) h =
    go (held_from_lem p j d i) (test (eqb (job (at p i)) j)) (test (opens (at p i))) (test (is_give (at p i)))
  where
    l : ℕ
    l = at p i

    Found : ℕ → Type 0
    Found i = (k : ℕ) × (k < i) × (job (at p k) ≡ j) × (device_of (at p k) ≡ d)

    Before : Type 0
    Before = has d (held_by j (before p i)) ≡ true → Found i

    earlier : Before → has d (held_by j (before p i)) ≡ true → Found (suc i)
    earlier ih m = let r = ih m in (r.0, omega (arith, r.1), r.2, r.3)

    here_or : Before → job l ≡ j → (d ≡ device_of l) ⊎ (has d (held_by j (before p i)) ≡ true) → Found (suc i)
    here_or ih e (inl q) = (i, omega arith, e, sym q)
    here_or ih e (inr m) = earlier ih m

    go : Before → (eqb (job l) j ≡ true) ⊎ (eqb (job l) j ≡ false) → (opens l ≡ true) ⊎ (opens l ≡ false)
        → (is_give l ≡ true) ⊎ (is_give l ≡ false) → Found (suc i)
    go ih (inr n) t g = earlier ih (rw (held_foreign j l (before p i) (eqb-false (job l) j n)) at h)
    go ih (inl e) (inl t) g =
        let q = eqb-true (job l) j e in
        here_or ih q (has_cases d (device_of l) (held_by j (before p i)) (rw (held_opened j l (before p i) q t) at h))
    go ih (inl e) (inr t) (inl g) =
        earlier ih
        (has_rest d (held_by j (before p i)) (rw (held_give j l (before p i) (eqb-true (job l) j e) t g) at h))
    go ih (inl e) (inr t) (inr g) = earlier ih (rw (held_other j l (before p i) t g) at h)

-- a held line in order is of a device that its job does not hold there: what stands before it in its job is held, and
-- no device is held twice
new_device : (S : Settings) (p : List ℕ) (i : ℕ) → InOrder S p i → is_held (at p i) ≡ true
    → has (device_of (at p i)) (held_there p i) ≡ false
unfolding holds
new_device S p i o h =
    falsely (has (device_of l) (held_there p i)) (λ m. let r = held_from_lem p (job l) (device_of l) i m in
    go r.0 r.1 r.2 r.3 (test (is_held (at p r.0))))
  where
    l : ℕ
    l = at p i

    go : (k : ℕ) → k < i → job (at p k) ≡ job l → device_of (at p k) ≡ device_of l
        → (is_held (at p k) ≡ true) ⊎ (is_held (at p k) ≡ false) → ⊥
    go k b q e (inr u) = o.held_early h k b (inl (q, u))
    go k b q e (inl t) =
        clash (is_held (at p k) && eqb (device_of (at p k)) (device_of l))
        (and_both (is_held (at p k)) (eqb (device_of (at p k)) (device_of l)) t
        (eq-eqb (device_of (at p k)) (device_of l) e))
        (o.held_once h k b)

module _ (midday : Bool) (p : List ℕ) (i : ℕ) (clear : line_fault (board_at midday) (before p i) (at p i) ≡ none) where
  abbrev l : ℕ
  l = at p i

  order : InOrder (board_at midday) p i
  order = in_order (board_at midday) p i clear

  same_device : (opens l || is_give l) ≡ true → device_bits l ≡ device_of l
  same_device h = device_rest (board_at midday) (omega arith) l order.line h

  of_held_lem : is_held l ≡ true → again_in l (held_there p i) ≡ again_at p i
  unfolding again_in again_at
  of_held_lem h =
      let o = held_opens l h in
      rw (
        held_no_take l h,
        o,
        opens_no_give l o,
        same_device (or_left (opens l) (is_give l) o),
        new_device (board_at midday) p i order h,
      )

  -- the flag that the notes tell of a line without a fault
  again_is : again_in l (held_there p i) ≡ again_at p i
  unfolding again_in again_at holds_already holds_beneath device_at
  again_is = go (test (is_held l))
    where
      go : (is_held l ≡ true) ⊎ (is_held l ≡ false) → again_in l (held_there p i) ≡ again_at p i
      go (inl h) = of_held_lem h
      go (inr u) =
          both_alike (opens l) (is_take l) (is_give l) (device_bits l) (device_of l) (held_there p i)
          (sym (take_is l ∙ rw u (and_yes (opens l)))) same_device

module _ (midday : Bool) (p : List ℕ) (u : Standing) (stack first starter added again left : List ℕ)
    (s : At (board_at midday) p u stack first starter) (w : NotesAt p u stack added again left)
    (inside : u.lines < length p) (d : ℕ) (stack' first' starter' : List ℕ)
    (led : on (held_in d stack') first' starter'
    ≡ step_of (board_at midday) (at p u.lines) u.lines u.job u.named u.early (held_in u.depth stack) first starter)
    (held' : ℕ) (u' : Standing) (after : After (at p u.lines) d held' u u')
    (added' again' left' : List ℕ)
    (g : NotesAs u.lines (at p u.lines) u.job u.depth u.held added again left held' added' again' left') where
  abbrev n : ℕ
  n = at p u.lines

  abbrev same : Bool
  same = eqb (job n) u.job

  abbrev there : List ℕ
  there = cond same (held_in u.depth stack) []

  abbrev c : ℕ
  c = change_after n u.job u.depth u.held added

  abbrev held : ℕ
  held = cond same u.held empty

  goes : Went (board_at midday) n u.lines u.job (held_in u.depth stack) (held_in d stack')
  goes = went (board_at midday) n u.lines u.job u.named u.early (held_in u.depth stack) first starter
      (held_in d stack') first' starter' led

  long : (b : Bool) → length (cond b (held_in u.depth stack) []) ≡ cond b u.depth 0
  long true = length_held u.depth stack
  long false = refl

  no_deeper : (b : Bool) → u.lines < max_lines → cond b u.depth 0 < max_lines
  no_deeper true h = omega (arith, u.deep)
  no_deeper false h = omega arith

  small : differ held c < 2 ^ devices
  small = differ_below devices held c (go same) (change_of_below n held (get_or added (cond same u.depth 0) 0))
    where
      go : (b : Bool) → cond b u.held empty < 2 ^ devices
      go true = w.below
      go false = empty_below devices

  pub notes_next : NotesAt p u' stack' added' again' left'
  notes_next =
      let then = at_next midday p u stack first starter s inside d stack' first' starter' led held' u' after in
      let q = in_place (board_at midday) n u.lines u.job goes.placed in
      let k = long same in
      let y = rw k at (says midday n there held added q.1
      (noted_or_none (held_in u.depth stack) u.held added w.noted same) (rw k (no_deeper same q.0)) goes.last) in
      let is = y.0 ∙ ap (again_in n) (sym (there_is (board_at midday) (omega arith) p u.lines u.job u.named u.early
      (held_in u.depth stack) first starter s.stands goes.placed))
      ∙ again_is midday p u.lines
      (at_clear midday p u stack first starter s inside d stack' first' starter' led) in
      let z : Noted (held_in d stack') (differ held c) (set added (suc (cond same u.depth 0)) c) = rw goes.next y.1 in
      record {
        noted = rw (after.deep, after.holds, g.holds, g.adds) z;
        below = rw (after.holds, g.holds) small;
        flagged = rw (after.passed, g.flags)
            (one_flagged p u.lines again (not (eqb (handled_by n) c)) q.0 is w.flagged);
        kept = rw (after.passed, g.keeps) (one_held p u.lines left held' (line_parts (board_at midday) n q.1).1
            (rw g.holds (record {
              below = small;
              same = λ k h. z.same k h
                  ∙ ap (has k) (sym (rw (after.passed, after.of_job, after.deep) at then.stands.held_is_lem));
            }))
            w.kept);
      }
