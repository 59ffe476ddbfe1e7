-- Taken again (02, request 2). A take of a device that its job holds lies within an outermost take of that device by
-- the same job, or within its held line (02, request 5): that one comes before it, and if it is given back, the inner
-- one is given back sooner. So while the steps of an order follow each other, a device is held, which asks for
-- outermost takes and held lines alone, exactly while some take of it, of whatever depth, or its held line is not given
-- back: it is free when the outermost give is done.
use Prim.Native.Nat.{ℕ, suc, ◌<◌, ◌≤◌}
use mathlib.Core.Bool.{Bool, true, false, not, ◌&&◌, ◌||◌}
use mathlib.Core.List.{List, [], ◌∷◌, ◌++◌, map, append-nil, append_assoc}
use mathlib.Core.Logic.{◌⊎◌, inl, inr}
use mathlib.Core.Option.{some}
use mathlib.Core.Path.{◌≡◌, refl, sym, ◌∙◌, subst}
use native.Mathlib.Omega.{arith}
use lib.Dec.{eqb}
use lib.ListN.{length, drop, get_elem?}
use borrow.Author.Tests.{eqb-true, eq-eqb, not-true}
use Rattle.model.specs.Lists.{any, has}
use Rattle.model.specs.Line.{job, opens, is_take, is_held, at}
use Rattle.model.specs.WellFormed.{Rules}
use Rattle.model.specs.Mate.{device_at, holds_already, takes_at, held_at, held_lines, grips, mate}
use Rattle.model.specs.Legal.{precedes, given_back, held, Follow}
use Rattle.theory.proofs.Tests.{clash, test, or_right, and_split, and_both, tests_agree}
use Rattle.theory.proofs.Lists.{has_cases, has_none, has_left, has_append, any_found, any_at}
use Rattle.theory.proofs.Line.{opens_either}
use Rattle.theory.proofs.Claims.{makes_take}
use Rattle.theory.proofs.Grips.{takes_grips, grips_parts, grips_line, has_held, held_has, before_held}
use Rattle.theory.proofs.Successors.{earlier_precedes}
use Rattle.theory.proofs.Mate.{mate_below, pair, open_takes, Open, open_is, held_open, open_mates}
use Rattle.theory.proofs.Outer.{opens_line}
use Rattle.theory.proofs.Turns.{given_parts, given_back_lem}

-- ---- the outermost take around a take

-- of the places of a list that the test finds, the last
pub deepest : (f : ℕ → ℕ) (xs : List ℕ) (d : ℕ) → has d (map f xs) ≡ true
    → (n : ℕ) × (t : ℕ) × (get_elem? xs n ≡ some t) × (f t ≡ d) × (has d (map f (drop (suc n) xs)) ≡ false)
deepest f [] d h = has_none d h
deepest f (x ∷ xs) d h = go (test (has d (map f xs))) (has_cases d (f x) (map f xs) h) (deepest f xs d)
  where
    go : (has d (map f xs) ≡ true) ⊎ (has d (map f xs) ≡ false) → (d ≡ f x) ⊎ (has d (map f xs) ≡ true)
        → (has d (map f xs) ≡ true → (n : ℕ) × (t : ℕ) × (get_elem? xs n ≡ some t) × (f t ≡ d)
        × (has d (map f (drop (suc n) xs)) ≡ false))
        → (n : ℕ) × (t : ℕ) × (get_elem? (x ∷ xs) n ≡ some t) × (f t ≡ d)
        × (has d (map f (drop (suc n) (x ∷ xs))) ≡ false)
    go (inl m) c ih = let r = ih m in (suc r.0, r.1, r.2, r.3, r.4)
    go (inr m) (inl e) ih = (0, x, refl, sym e, m)
    go (inr m) (inr e) ih = clash (has d (map f xs)) e m

-- line i is an outermost take of the device of line k, by its job, around it, or a held line of that device
pub record Around (p : List ℕ) (k i : ℕ) : Type 0 where
  pub gripping : grips p i (device_at p k) ≡ true
  pub above : i < k
  pub same_job : job (at p i) ≡ job (at p k)
  pub outlasts : (m : ℕ) → mate p i ≡ some m → (n : ℕ) × (mate p k ≡ some n) × (n < m)

-- what opens grips its device, if its job does not hold that yet
pub opens_grips : (p : List ℕ) (i d : ℕ) → opens (at p i) ≡ true → holds_already p i ≡ false → device_at p i ≡ d
    → grips p i d ≡ true
unfolding grips held_at
opens_grips p i d t new e = go (opens_either (at p i) t)
  where
    go : (is_take (at p i) ≡ true) ⊎ (is_held (at p i) ≡ true)
        → ((takes_at p i || is_held (at p i)) && eqb (device_at p i) d) ≡ true
    go (inl k) = takes_grips p i d (makes_take p i d k new e)
    go (inr h) =
        and_both (takes_at p i || is_held (at p i)) (eqb (device_at p i) d)
        (or_right (takes_at p i) (is_held (at p i)) h) (eq-eqb (device_at p i) d e)

module _ (p : List ℕ) (rules : Rules p) where
  -- The theorem: around a take of a device that its job holds there is an outermost one, or a held line.
  pub around : (k : ℕ) → opens (at p k) ≡ true → holds_already p k ≡ true → (i : ℕ) × Around p k i
  unfolding holds_already
  around k t h = (i, record { gripping = gripping'; above = o.above; same_job = o.of_job; outlasts = outlasts' })
    where
      j : ℕ
      j = job (at p k)

      r : (n : ℕ) × (t : ℕ) × (get_elem? (open_takes p j k) n ≡ some t) × (device_at p t ≡ device_at p k)
          × (has (device_at p k) (map (device_at p) (drop (suc n) (open_takes p j k))) ≡ false)
      r = deepest (device_at p) (open_takes p j k) (device_at p k) (rw (held_open p j k) at h)

      i : ℕ
      i = r.1

      o : Open p j k r.0 i
      o = open_is p j k r.0 i r.2

      new : holds_already p i ≡ false
      new = rw (o.of_job, held_open p j i, o.below, r.3) r.4

      gripping' : grips p i (device_at p k) ≡ true
      gripping' = opens_grips p i (device_at p k) o.opening new r.3

      outlasts' : (m : ℕ) → mate p i ≡ some m → (n : ℕ) × (mate p k ≡ some n) × (n < m)
      outlasts' m e =
          let found = open_mates p rules k j r.0 i (opens_line p k t) refl r.2 in
          let after : k ≤ m = mate_below j r.0 k (drop k p) m (sym found ∙ e) in
          let s = (pair p i m e).mates k o.above after t in (s.0, s.1, s.2)

-- ---- held, by takes of whatever depth and held lines

-- line k is a take of d, of whatever depth, or a held line of it, and was not given back
unfoldable pub unreturned : List ℕ → List ℕ → ℕ → ℕ → Bool
unreturned p done d k = (opens (at p k) && eqb (device_at p k) d) && not (given_back p done k)

-- what has to come before a line done is done
abbrev Closed : List ℕ → List ℕ → Type 0
Closed p done = (k i : ℕ) → k < length p → has i done ≡ true → precedes p k i ≡ true → has k done ≡ true

module _ (p : List ℕ) (rules : Rules p) (done : List ℕ) (closed : Closed p done) (d : ℕ) where
  -- the take around one that is not given back is not given back
  around_kept : (k i : ℕ) → has k done ≡ true → given_back p done k ≡ false → Around p k i → given_back p done i ≡ false
  around_kept k i m g a = go (test (given_back p done i))
    where
      given : (x : ℕ) × (mate p i ≡ some x) × (has x done ≡ true) → given_back p done k ≡ true
      given r =
          let n = a.outlasts r.0 r.1 in
          let out = pair p i r.0 r.1 in
          let inn = pair p k n.0 n.1 in
          given_back_lem p done k n.0 n.1
          (closed n.0 r.0 inn.in_plan r.2
          (earlier_precedes p n.0 r.0 n.2
          (inn.same_job n.0 (omega (arith, inn.below)) (omega arith) ∙ sym a.same_job
          ∙ sym (out.same_job r.0 (omega (arith, out.below)) (omega arith)))))

      go : (given_back p done i ≡ true) ⊎ (given_back p done i ≡ false) → given_back p done i ≡ false
      go (inl e) = clash (given_back p done k) (given (given_parts p done i e)) g
      go (inr e) = e

  holds : (i : ℕ) → has i done ≡ true → grips p i d ≡ true → given_back p done i ≡ false → held p done d ≡ true
  unfolding held
  holds i m t g =
      any_at (λ k. grips p k d && not (given_back p done k)) done i m
      (and_both (grips p i d) (not (given_back p done i)) t (rw g))

  holds_around : (k i : ℕ) → device_at p k ≡ d → has k done ≡ true → given_back p done k ≡ false → Around p k i
      → held p done d ≡ true
  holds_around k i e m g a =
      let t = rw e at a.gripping in
      holds i (closed i k (grips_line p i d t) m (earlier_precedes p i k a.above a.same_job)) t
      (around_kept k i m g a)

  held_by_any : any (unreturned p done d) done ≡ true → held p done d ≡ true
  unfolding unreturned
  held_by_any h = let r = any_found (unreturned p done d) done h in go r.0 r.1 r.2
    where
      go : (k : ℕ) → has k done ≡ true → unreturned p done d k ≡ true → held p done d ≡ true
      go k m q =
          let s = and_split (opens (at p k) && eqb (device_at p k) d) (not (given_back p done k)) q in
          let u = and_split (opens (at p k)) (eqb (device_at p k) d) s.0 in
          depth u.0 (eqb-true (device_at p k) d u.1) (not-true (given_back p done k) s.1)
          (test (holds_already p k))
        where
          depth : opens (at p k) ≡ true → device_at p k ≡ d → given_back p done k ≡ false
              → (holds_already p k ≡ true) ⊎ (holds_already p k ≡ false)
              → held p done d ≡ true
          depth t e g (inr out) = holds k m (opens_grips p k d t out e) g
          depth t e g (inl inn) = let a = around p rules k t inn in holds_around k a.0 e m g a.1

  any_by_held : held p done d ≡ true → any (unreturned p done d) done ≡ true
  unfolding held unreturned
  any_by_held h =
      let r = any_found (λ k. grips p k d && not (given_back p done k)) done h in
      let k = r.0 in
      let s = and_split (grips p k d) (not (given_back p done k)) r.2 in
      let t = grips_parts p k d s.0 in
      any_at (unreturned p done d) done k r.1
      (and_both (opens (at p k) && eqb (device_at p k) d) (not (given_back p done k))
      (and_both (opens (at p k)) (eqb (device_at p k) d) t.0 (eq-eqb (device_at p k) d t.1)) s.1)

-- the steps of an order close what is done
follow_closed : (p done o : List ℕ) → Closed p done → Follow p done o → Closed p (done ++ o)
follow_closed p done [] closed f = subst (Closed p) (sym (append-nil done)) closed
follow_closed p done (x ∷ o) closed f =
    subst (Closed p) (append_assoc done (x ∷ []) o) (follow_closed p (done ++ (x ∷ [])) o next f.1)
  where
    next : Closed p (done ++ (x ∷ []))
    next k i h m b = has_left k done (x ∷ []) (go (has_append i done (x ∷ []) m))
      where
        one : (i ≡ x) ⊎ (has i [] ≡ true) → has k done ≡ true
        one (inl e) = f.0.after k h (rw e at b)
        one (inr e) = has_none i e

        go : (has i done ≡ true) ⊎ (has i (x ∷ []) ≡ true) → has k done ≡ true
        go (inl a) = closed k i h a b
        go (inr a) = one (has_cases i x [] a)

-- from the state in which the held lines are done
held_closed : (p : List ℕ) → Rules p → Closed p (held_lines p)
held_closed p rules k i h m b = held_has p k (before_held p rules k i b (has_held p i m).1)

-- The theorem: a device is held exactly while a take of it, of whatever depth, or its held line is done and not given
-- back.
pub held_exactly : (p : List ℕ) → Rules p → (o : List ℕ) → Follow p (held_lines p) o → (d : ℕ)
    → held p (held_lines p ++ o) d ≡ any (unreturned p (held_lines p ++ o) d) (held_lines p ++ o)
held_exactly p rules o f d =
    let done : List ℕ = held_lines p ++ o in
    let closed = follow_closed p (held_lines p) o (held_closed p rules) f in
    tests_agree (held p done d) (any (unreturned p done d) done) (any_by_held p rules done closed d)
    (held_by_any p rules done closed d)
