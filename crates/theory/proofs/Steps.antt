-- What one step of an order changes (01, "Legal orders"): which devices are held after it. At most one line holds a
-- device: no two held lines name one, and a take may follow only where its device is not held. So an outermost take
-- makes its device held, an outermost give makes it free, and every other device stays as it was.
use Prim.Native.Nat.{ℕ, ◌<◌, ◌≤◌}
use mathlib.Core.Bool.{Bool, true, false, cond, not, ◌&&◌, ◌||◌}
use mathlib.Core.List.{List, [], ◌∷◌, ◌++◌}
use mathlib.Core.Logic.{◌⊎◌, inl, inr}
use mathlib.Core.Option.{some, some-injective}
use mathlib.Core.Path.{◌≡◌, refl, sym, ◌∙◌, ap}
use native.Mathlib.Omega.{arith}
use lib.Dec.{eqb}
use lib.ListN.{length}
use borrow.Author.Tests.{eqb-true, eq-eqb, not-true}
use Rattle.model.specs.Lists.{has}
use Rattle.model.specs.Line.{job, is_give, operand, holds, at}
use Rattle.model.specs.Mate.{takes_at, device_at, takes, held_at, held_lines, grips, mate}
use Rattle.model.specs.WellFormed.{Rules}
use Rattle.model.specs.Legal.{given_back, held, MayFollow}
use Rattle.theory.specs.Outer.{frees_at}
use Rattle.theory.proofs.Tests.{clash, falsely, tests_agree, or_left, or_right, and_split, and_both, le_or_lt}
use Rattle.theory.proofs.Lists.{any_found, any_at}
use Rattle.theory.proofs.Line.{opens_no_give, own_device}
use Rattle.theory.proofs.Successors.{earlier_precedes}
use Rattle.theory.proofs.Claims.{takes_parts}
use Rattle.theory.proofs.Grips.{takes_grips, Grips, by_take, by_held, gripping, takes_no_held, grips_opens}
use Rattle.theory.proofs.Grips.{grips_parts}
use Rattle.theory.proofs.Grips.{grips_takes, has_held}
use Rattle.theory.proofs.Mate.{pair, mate_names_device}
use Rattle.theory.proofs.Outer.{outer_together, frees_gives, freed_take}
use Rattle.theory.proofs.Turns.{given_parts, given_back_lem, still_given}
use Rattle.theory.proofs.LineByLine.{more_old, more_new, more_only}

-- line k took or held device d, and it was not given back
pub record Holds (p done : List ℕ) (k d : ℕ) : Type 0 where
  pub is_done : has k done ≡ true
  pub took : grips p k d ≡ true
  pub kept : given_back p done k ≡ false

pub held_found : (p done : List ℕ) (d : ℕ) → held p done d ≡ true → (k : ℕ) × Holds p done k d
unfolding held
held_found p done d h =
    let r = any_found (λ k. grips p k d && not (given_back p done k)) done h in
    let s = and_split (grips p r.0 d) (not (given_back p done r.0)) r.2 in
    (r.0, record { is_done = r.1; took = s.0; kept = not-true (given_back p done r.0) s.1 })

pub held_at_lem : (p done : List ℕ) (k d : ℕ) → Holds p done k d → held p done d ≡ true
unfolding held
held_at_lem p done k d h =
    any_at (λ k. grips p k d && not (given_back p done k)) done k h.is_done
    (and_both (grips p k d) (not (given_back p done k)) h.took (rw h.kept))

-- at most one line holds a device
abbrev pub HeldOnce : List ℕ → List ℕ → Type 0
HeldOnce p done = (k t d : ℕ) → Holds p done k d → Holds p done t d → k ≡ t

-- at first each device is held by one held line, if by any
pub held_once_first : (p : List ℕ) → Rules p → HeldOnce p (held_lines p)
held_once_first p rules k t d h g = go (le_or_lt k t) (le_or_lt t k)
  where
    names : (i : ℕ) → Holds p (held_lines p) i d → holds (at p i) d ≡ true
    names i a = by (gripping p i d a.took)
      where
        by : Grips p i d → holds (at p i) d ≡ true
        by (by_take u) = clash (held_at p i) (has_held p i a.is_done).1 (takes_no_held p i d u)
        by (by_held u e) = e

    go : (k ≤ t) ⊎ (t < k) → (t ≤ k) ⊎ (k < t) → k ≡ t
    go (inl a) (inl b) = omega (arith, a, b)
    go (inl a) (inr b) = clash (holds (at p k) d) (names k h) (rules.held_once t k d b (names t g))
    go (inr a) b = clash (holds (at p t) d) (names t g) (rules.held_once k t d a (names k h))

-- the line at x is an outermost take or give of device d
unfoldable pub handles : List ℕ → ℕ → ℕ → Bool
handles p x d = (takes_at p x || frees_at p x) && eqb (operand (at p x)) d

module _ (p : List ℕ) (rules : Rules p) (done : List ℕ) (x : ℕ) (may : MayFollow p done x)
    (step : held_at p x ≡ false) where
  abbrev next : List ℕ
  next = done ++ (x ∷ [])

  -- what was given back in the step is the take that line x gives back
  not_yet : (k : ℕ) → given_back p next k ≡ true → given_back p done k ≡ false → mate p k ≡ some x
  not_yet k h f = let r = given_parts p next k h in go r.0 r.1 (more_only r.0 x done r.2)
    where
      go : (m : ℕ) → mate p k ≡ some m → (has m done ≡ true) ⊎ (m ≡ x) → mate p k ≡ some x
      go m e (inl g) = clash (given_back p done k) (given_back_lem p done k m e g) f
      go m e (inr q) = rw q at e

  kept_before : (k : ℕ) → given_back p next k ≡ false → given_back p done k ≡ false
  kept_before k h =
      falsely (given_back p done k)
      (λ g. clash (given_back p next k) (still_given p done next k (λ m e. more_old m x done e) g) h)

  -- who holds a device after the step held it before, or is line x
  holds_before : (k d : ℕ) → Holds p next k d → Holds p done k d ⊎ (k ≡ x)
  holds_before k d h = go (more_only k x done h.is_done)
    where
      go : (has k done ≡ true) ⊎ (k ≡ x) → Holds p done k d ⊎ (k ≡ x)
      go (inl e) = inl (record { is_done = e; took = h.took; kept = kept_before k h.kept })
      go (inr q) = inr q

  -- a step is no held line, so that what it holds it takes
  taken_step : (d : ℕ) → grips p x d ≡ true → takes p x d ≡ true
  taken_step d g = grips_takes p x d step g

  pub held_once_on : HeldOnce p done → HeldOnce p next
  held_once_on one k t d h g = go (holds_before k d h) (holds_before t d g)
    where
      free : (i : ℕ) → Holds p done i d → takes p x d ≡ true → k ≡ t
      free i b u = clash (held p done d) (held_at_lem p done i d b) (may.free d u)

      go : Holds p done k d ⊎ (k ≡ x) → Holds p done t d ⊎ (t ≡ x) → k ≡ t
      go (inl a) (inl b) = one k t d a b
      go (inr a) (inr b) = a ∙ sym b
      go (inl a) (inr b) = free k a (taken_step d (rw b at g.took))
      go (inr a) (inl b) = free t b (taken_step d (rw a at h.took))

  own : device_at p x ≡ operand (at p x)
  unfolding device_at held_at
  own = own_device (at p x) step

  handles_take : (d : ℕ) → takes p x d ≡ true → handles p x d ≡ true
  unfolding handles
  handles_take d t =
      let s = takes_parts p x d t in
      and_both (takes_at p x || frees_at p x) (eqb (operand (at p x)) d) (or_left (takes_at p x) (frees_at p x) s.0)
      (eq-eqb (operand (at p x)) d (sym own ∙ s.1))

  -- what line x gives back is of its device
  handles_give : (k d : ℕ) → grips p k d ≡ true → mate p k ≡ some x → handles p x d ≡ true
  unfolding handles grips
  handles_give k d t e =
      let s = and_split (takes_at p k || held_at p k) (eqb (device_at p k) d) t in
      let u = grips_parts p k d t in
      and_both (takes_at p x || frees_at p x) (eqb (operand (at p x)) d)
      (or_right (takes_at p x) (frees_at p x) (outer_together p rules k x u.0 e ∙ s.0))
      (eq-eqb (operand (at p x)) d (sym own ∙ (mate_names_device p rules k x u.0 e ∙ u.1)))

  -- a device that line x does not handle is held as it was
  held_same : (d : ℕ) → handles p x d ≡ false → held p next d ≡ held p done d
  held_same d n = tests_agree (held p next d) (held p done d) to from
    where
      to : held p next d ≡ true → held p done d ≡ true
      to h = let r = held_found p next d h in go r.0 r.1 (holds_before r.0 d r.1)
        where
          go : (k : ℕ) → Holds p next k d → Holds p done k d ⊎ (k ≡ x) → held p done d ≡ true
          go k g (inl b) = held_at_lem p done k d b
          go k g (inr q) = clash (handles p x d) (handles_take d (taken_step d (rw q at g.took))) n

      from : held p done d ≡ true → held p next d ≡ true
      from h =
          let r = held_found p done d h in
          let k = r.0 in
          let g = r.1 in
          held_at_lem p next k d
          (record {
            is_done = more_old k x done g.is_done;
            took = g.took;
            kept = falsely (given_back p next k)
                (λ b. clash (handles p x d) (handles_give k d g.took (not_yet k b g.kept)) n);
          })

  -- a take makes its device held, where its give is not done
  held_taken : ((i : ℕ) → i < length p → x < i → job (at p x) ≡ job (at p i) → has i done ≡ false) → (d : ℕ)
      → takes p x d ≡ true → held p next d ≡ true
  held_taken later d t =
      held_at_lem p next x d (record {
        is_done = more_new x done;
        took = takes_grips p x d t;
        kept = falsely
            (given_back p next x) no;
      })
    where
      no : given_back p next x ≡ true → ⊥
      no g =
          let r = given_parts p next x g in
          let q = pair p x r.0 r.1 in
          let same = sym (q.same_job r.0 (omega (arith, q.below)) (omega arith)) in
          go r.0 q.in_plan q.below same (more_only r.0 x done r.2)
        where
          go : (m : ℕ) → m < length p → x < m → job (at p x) ≡ job (at p m) → (has m done ≡ true) ⊎ (m ≡ x) → ⊥
          go m l lt e (inl h) = clash (has m done) h (later m l lt e)
          go m l lt e (inr h) = omega arith

  -- what an outermost give gives back held its device
  held_given : frees_at p x ≡ true → (t : ℕ) × Holds p done t (operand (at p x)) × (mate p t ≡ some x)
  unfolding grips
  held_given g =
      let r = freed_take p rules x g in
      let t = r.0 in
      let q = pair p t x r.3 in
      let before = earlier_precedes p t x q.below (sym (q.same_job x (omega (arith, q.below)) (omega arith))) in (
        t,
        record {
          is_done = may.after t (omega (arith, q.below, may.line)) before;
          took = and_both (takes_at p t || held_at p t) (eqb (device_at p t) (operand (at p x))) r.1
              (eq-eqb (device_at p t) (operand (at p x)) (sym (mate_names_device p rules t x r.2 r.3) ∙ own));
          kept = falsely (given_back p done t) (still t r.3);
        },
        r.3,
      )
    where
      still : (t : ℕ) → mate p t ≡ some x → given_back p done t ≡ true → ⊥
      still t e b =
          let s = given_parts p done t b in
          let z = some-injective s.0 x (sym s.1 ∙ e) in
          clash (has x done) (rw z at s.2) may.once

  -- an outermost give makes its device free
  held_freed : HeldOnce p done → frees_at p x ≡ true → held p next (operand (at p x)) ≡ false
  held_freed one g = falsely (held p next (operand (at p x))) no
    where
      no : held p next (operand (at p x)) ≡ true → ⊥
      no h =
          let r = held_found p next (operand (at p x)) h in
          go r.0 r.1 (holds_before r.0 (operand (at p x)) r.1)
        where
          go : (k : ℕ) → Holds p next k (operand (at p x)) → Holds p done k (operand (at p x)) ⊎ (k ≡ x) → ⊥
          go k b (inr q) =
              clash (is_give (at p x)) (frees_gives p x g)
              (opens_no_give (at p x) (grips_opens p x (operand (at p x)) (rw q at b.took)))
          go k b (inl a) =
              let t = held_given g in
              let z = one k t.0 (operand (at p x)) a t.1 in
              clash (given_back p next k) (given_back_lem p next k x (rw z t.2) (more_new x done)) b.kept

  -- The devices held after the step: what line x takes or gives as an outermost one is turned.
  pub held_step : HeldOnce p done
      → ((i : ℕ) → i < length p → x < i → job (at p x) ≡ job (at p i) → has i done ≡ false) → (d : ℕ)
      → held p next d ≡ cond (handles p x d) (not (held p done d)) (held p done d)
  unfolding handles takes
  held_step one later d = go (takes_at p x) (frees_at p x) (eqb (operand (at p x)) d) refl refl refl
    where
      go : (a b c : Bool) → takes_at p x ≡ a → frees_at p x ≡ b → eqb (operand (at p x)) d ≡ c
          → held p next d ≡ cond ((a || b) && c) (not (held p done d)) (held p done d)
      go true b true e f q =
          let t = and_both (takes_at p x) (eqb (device_at p x) d) e (rw own q) in
          held_taken later d t ∙ sym (ap not (may.free d t))
      go false true true e f q =
          let z = eqb-true (operand (at p x)) d q in
          let g = held_given f in
          rw (← z) (held_freed one f ∙ sym (ap not (held_at_lem p done g.0 (operand (at p x)) g.1)))
      go true b false e f q = held_same d (rw (e, q))
      go false true false e f q = held_same d (rw (e, f, q))
      go false false c e f q = held_same d (rw (e, f))
