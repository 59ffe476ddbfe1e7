-- One turn of the handed-out order, in a plan that obeys the rules: its lines may follow what is done, and what holds
-- between turns holds again. Between turns the held lines are done, whatever has to come before a line done is done,
-- and the device of a take or a held line done was given back or is wanted by no undone line.
use Prim.Native.Nat.{ℕ, zero, suc, ◌+◌, ◌-◌, ◌<◌, ◌≤◌}
use mathlib.Core.Bool.{Bool, true, false, cond, not, ◌&&◌}
use mathlib.Core.List.{List, [], ◌∷◌, ◌++◌}
use mathlib.Core.Logic.{◌⊎◌, inl, inr, ◌≢◌}
use mathlib.Core.Option.{Option, none, some, get_or}
use mathlib.Core.Path.{◌≡◌, refl, sym, ◌∙◌, ap}
use native.Mathlib.Omega.{arith}
use lib.Dec.{eqb}
use lib.ListN.{length}
use borrow.Author.Tests.{eqb-true, eqb-false}
use Rattle.model.specs.Lists.{up_from, has}
use Rattle.model.specs.Line.{job, opens, at}
use Rattle.model.specs.Mate.{takes_at, held_at, takes, grips, mate}
use Rattle.model.specs.WellFormed.{Rules}
use Rattle.model.specs.Legal.{precedes, done_at, given_back, held, MayFollow, Follow}
use Rattle.model.specs.Handed.{last_of}
use Rattle.theory.proofs.Tests.{clash, test, and_left, and_right, le_or_lt}
use Rattle.theory.proofs.Lists.{has_none, has_head, has_cases, has_left, has_right, has_append, has_up_from}
use Rattle.theory.proofs.Lists.{up_from_has, none_any}
use Rattle.theory.proofs.Successors.{Why, same_job, starter, why, earlier_precedes, start_precedes}
use Rattle.theory.proofs.Mate.{pair, given_between}
use Rattle.theory.proofs.Grips.{grips_opens}

-- ---- given back

pub given_parts : (p done : List ℕ) (k : ℕ) → given_back p done k ≡ true
    → (m : ℕ) × (mate p k ≡ some m) × (has m done ≡ true)
unfolding given_back done_at
given_parts p done k h = go (mate p k) refl h
  where
    go : (o : Option ℕ) → mate p k ≡ o → done_at done o ≡ true → (m : ℕ) × (mate p k ≡ some m) × (has m done ≡ true)
    go none e h = clash false h refl
    go (some m) e h = (m, e, h)

pub given_back_lem : (p done : List ℕ) (k m : ℕ) → mate p k ≡ some m → has m done ≡ true → given_back p done k ≡ true
unfolding given_back done_at
given_back_lem p done k m e h = ap (done_at done) e ∙ h

-- what is given back stays given back
pub still_given : (p done now : List ℕ) (k : ℕ) → ((m : ℕ) → has m done ≡ true → has m now ≡ true)
    → given_back p done k ≡ true
    → given_back p now k ≡ true
still_given p done now k f h = let r = given_parts p done k h in given_back_lem p now k r.0 r.1 (f r.0 r.2)

-- ---- between turns

-- whatever has to come before a line done is done
abbrev pub Closed : List ℕ → List ℕ → Type 0
Closed p done = (k i : ℕ) → k < length p → has i done ≡ true → precedes p k i ≡ true → has k done ≡ true

pub record Between (p done : List ℕ) : Type 0 where
  pub begun : (k : ℕ) → held_at p k ≡ true → has k done ≡ true
  pub closed : Closed p done
  pub given : (k d : ℕ) → has k done ≡ true → grips p k d ≡ true
      → (given_back p done k ≡ true) ⊎ ((x : ℕ) → x < length p → has x done ≡ false → takes p x d ≡ false)

-- the lines from i to m go in one turn
pub record Going (p : List ℕ) (i m : ℕ) : Type 0 where
  pub le : i ≤ m
  pub in_plan : m < length p
  pub same_job : (k : ℕ) → i ≤ k → k ≤ m → job (at p k) ≡ job (at p i)
  pub mates : (k : ℕ) → i < k → k ≤ m → opens (at p k) ≡ true → (n : ℕ) × (mate p k ≡ some n) × (n ≤ m) × (k < n)

pub going : (p : List ℕ) (i : ℕ) → i < length p → Going p i (last_of p i)
unfolding last_of
going p i h = go (takes_at p i) (mate p i) refl
  where
    alone : Going p i i
    alone = record {
      le = omega arith;
      in_plan = h;
      same_job = λ k a b. (let q : k ≡ i = omega arith in rw q);
      mates = λ k a b t. absurd (omega arith);
    }

    go : (b : Bool) (o : Option ℕ) → mate p i ≡ o → Going p i (cond b (get_or o i) i)
    go false o e = alone
    go true none e = alone
    go true (some m) e = let r = pair p i m e in record {
      le = omega (arith, r.below);
      in_plan = r.in_plan;
      same_job = r.same_job;
      mates = λ k a b t. (let s = r.mates k a b t in (s.0, s.1, omega (arith, s.2), s.3));
    }

-- a run of lines, of a turn or a segment
module _ (p : List ℕ) (rules : Rules p) (done : List ℕ) (closed : Closed p done) (i m : ℕ) (un : has i done ≡ false)
    (ready : (k : ℕ) → k < length p → has k done ≡ false → precedes p k i ≡ false) (g : Going p i m) where
  -- what has to come before a line of the turn is in the turn, or done
  earlier : (x k : ℕ) → i ≤ x → x ≤ m → k < length p → precedes p k x ≡ true
      → ((i ≤ k) × (k < x)) ⊎ (has k done ≡ true)
  earlier x k ix xm kn h = go (why p k x h)
    where
      must : precedes p k i ≡ true → has k done ≡ true
      must b = split (test (has k done))
        where
          split : (has k done ≡ true) ⊎ (has k done ≡ false) → has k done ≡ true
          split (inl e) = e
          split (inr e) = clash (precedes p k i) b (ready k kn e)

      place : k < x → job (at p k) ≡ job (at p x) → (i ≤ k) ⊎ (k < i) → ((i ≤ k) × (k < x)) ⊎ (has k done ≡ true)
      place lt q (inl le) = inl (le, lt)
      place lt q (inr gt) = inr (must (earlier_precedes p k i gt (q ∙ g.same_job x ix xm)))

      go : Why p k x → ((i ≤ k) × (k < x)) ⊎ (has k done ≡ true)
      go (same_job lt q) = place lt q (le_or_lt i k)
      go (starter a) = inr (must (start_precedes p k i (rw (g.same_job x ix xm) at a)))

  -- no line of the turn is done
  pub undone_yet : (x : ℕ) → i ≤ x → x ≤ m → has x done ≡ false
  undone_yet x ix xm = go (test (has x done)) (test (eqb i x))
    where
      go : (has x done ≡ true) ⊎ (has x done ≡ false) → (eqb i x ≡ true) ⊎ (eqb i x ≡ false) → has x done ≡ false
      go (inr e) c = e
      go (inl e) (inl f) = clash (has x done) e (rw (eqb-true i x f) at un)
      go (inl e) (inr f) =
          let ne = eqb-false i x f in
          clash (has i done)
          (closed i x (omega (arith, g.in_plan)) e
          (earlier_precedes p i x (omega arith) (sym (g.same_job x ix xm)))) un

  -- now are done: what was, and the lines of the turn before x
  record Now (now : List ℕ) (x : ℕ) : Type 0 where
    old : (k : ℕ) → has k done ≡ true → has k now ≡ true
    new : (k : ℕ) → i ≤ k → k < x → has k now ≡ true
    only : (k : ℕ) → has k now ≡ true → (has k done ≡ true) ⊎ ((i ≤ k) × (k < x))

  -- what the lines of the run take was given back
  abbrev pub Clear : Type 0
  Clear = (x k d : ℕ) → i ≤ x → x ≤ m → takes p x d ≡ true → has k done ≡ true → grips p k d ≡ true
      → given_back p done k ≡ true

  may_follow_lem : Clear → (now : List ℕ) (x : ℕ) → Now now x → i ≤ x → x ≤ m → MayFollow p now x
  unfolding held
  may_follow_lem clear now x n ix xm =
      record { line = omega (arith, g.in_plan); once = once' (test (has x now)); after = after'; free = free' }
    where
      once' : (has x now ≡ true) ⊎ (has x now ≡ false) → has x now ≡ false
      once' (inr e) = e
      once' (inl e) = no (n.only x e)
        where
          no : (has x done ≡ true) ⊎ ((i ≤ x) × (x < x)) → has x now ≡ false
          no (inl q) = clash (has x done) q (undone_yet x ix xm)
          no (inr q) = absurd (omega (arith, q.1))

      after' : (k : ℕ) → k < length p → precedes p k x ≡ true → has k now ≡ true
      after' k kn b = go (earlier x k ix xm kn b)
        where
          go : ((i ≤ k) × (k < x)) ⊎ (has k done ≡ true) → has k now ≡ true
          go (inl e) = n.new k e.0 e.1
          go (inr e) = n.old k e

      given' : (d k : ℕ) → takes p x d ≡ true → has k now ≡ true → grips p k d ≡ true → given_back p now k ≡ true
      given' d k t h u = go (n.only k h)
        where
          go : (has k done ≡ true) ⊎ ((i ≤ k) × (k < x)) → given_back p now k ≡ true
          go (inl e) = still_given p done now k n.old (clear x k d ix xm t e u)
          go (inr e) =
              let same = g.same_job k e.0 (omega (arith, e.1)) ∙ sym (g.same_job x ix xm) in
              let r = given_between p rules k x d u t same e.1 in
              given_back_lem p now k r.0 r.1
              (n.new r.0 (omega (arith, e.0, (pair p k r.0 r.1).below)) r.2)

      free' : (d : ℕ) → takes p x d ≡ true → held p now d ≡ false
      free' d t = none_any (λ k. grips p k d && not (given_back p now k)) now (λ k h. one k h (test (grips p k d)))
        where
          one : (k : ℕ) → has k now ≡ true → (grips p k d ≡ true) ⊎ (grips p k d ≡ false)
              → (grips p k d && not (given_back p now k)) ≡ false
          one k h (inr u) = and_left (grips p k d) (not (given_back p now k)) u
          one k h (inl u) = and_right (grips p k d) (not (given_back p now k)) (rw (given' d k t h u))

  follow : Clear → (n x : ℕ) (now : List ℕ) → Now now x → i ≤ x → x + n ≡ suc m → Follow p now (up_from x n)
  unfolding up_from
  follow clear zero x now h ix e = tt
  follow clear (suc n) x now h ix e = (
    may_follow_lem clear now x h ix (omega arith),
    follow clear n (suc x) (now ++ (x ∷ [])) next (omega arith)
        (omega arith),
  )
    where
      next : Now (now ++ (x ∷ [])) (suc x)
      next = record {
        old = λ k a. has_left k now (x ∷ []) (h.old k a);
        new = λ k a b. split k a b (test (eqb k x));
        only = λ k a. from k (has_append k now (x ∷ []) a);
      }
        where
          split : (k : ℕ) → i ≤ k → k < suc x → (eqb k x ≡ true) ⊎ (eqb k x ≡ false) → has k (now ++ (x ∷ [])) ≡ true
          split k a b (inl q) = rw (eqb-true k x q) (has_right x now (x ∷ []) (has_head x []))
          split k a b (inr q) = let z = eqb-false k x q in has_left k now (x ∷ []) (h.new k a (omega arith))

          wide : (k : ℕ) → (has k done ≡ true) ⊎ ((i ≤ k) × (k < x)) → (has k done ≡ true) ⊎ ((i ≤ k) × (k < suc x))
          wide k (inl a) = inl a
          wide k (inr a) = inr (a.0, omega (arith, a.1))

          this : (k : ℕ) → (k ≡ x) ⊎ (has k [] ≡ true) → (has k done ≡ true) ⊎ ((i ≤ k) × (k < suc x))
          this k (inl a) = inr (omega arith, omega arith)
          this k (inr a) = has_none k a

          from : (k : ℕ) → (has k now ≡ true) ⊎ (has k (x ∷ []) ≡ true) → (has k done ≡ true) ⊎ ((i ≤ k) × (k < suc x))
          from k (inl a) = wide k (h.only k a)
          from k (inr a) = this k (has_cases k x [] a)

  -- the lines of the run may follow
  pub run_follows : Clear → Follow p done (up_from i (suc m - i))
  run_follows clear =
      follow clear (suc m - i) i done (record {
        old = λ k a. a;
        new = λ k a b. absurd (omega arith);
        only = λ k a.
            inl a;
      })
      (omega arith) (omega (arith, g.le))

  abbrev after : List ℕ
  after = done ++ up_from i (suc m - i)

  pub after_old : (k : ℕ) → has k done ≡ true → has k after ≡ true
  after_old k h = has_left k done (up_from i (suc m - i)) h

  pub after_new : (k : ℕ) → i ≤ k → k ≤ m → has k after ≡ true
  after_new k a b = has_right k done (up_from i (suc m - i)) (up_from_has i (suc m - i) k a (omega arith))

  pub after_only : (k : ℕ) → has k after ≡ true → (has k done ≡ true) ⊎ ((i ≤ k) × (k ≤ m))
  after_only k h = go (has_append k done (up_from i (suc m - i)) h)
    where
      go : (has k done ≡ true) ⊎ (has k (up_from i (suc m - i)) ≡ true) → (has k done ≡ true) ⊎ ((i ≤ k) × (k ≤ m))
      go (inl a) = inl a
      go (inr a) = let r = has_up_from i (suc m - i) k a in inr (r.0, omega (arith, r.1))

  pub not_yet : (k : ℕ) → has k after ≡ false → has k done ≡ false
  not_yet k h = go (test (has k done))
    where
      go : (has k done ≡ true) ⊎ (has k done ≡ false) → has k done ≡ false
      go (inl e) = clash (has k after) (after_old k e) h
      go (inr e) = e

  -- and after them what has to come before a line done is done
  pub after_closed : Closed p after
  after_closed k x kn h b = go (after_only x h)
    where
      inner : (i ≤ x) × (x ≤ m) → ((i ≤ k) × (k < x)) ⊎ (has k done ≡ true) → has k after ≡ true
      inner r (inl a) = after_new k a.0 (omega (arith, a.1, r.1))
      inner r (inr a) = after_old k a

      go : (has x done ≡ true) ⊎ ((i ≤ x) × (x ≤ m)) → has k after ≡ true
      go (inl a) = after_old k (closed k x kn a b)
      go (inr a) = inner a (earlier x k a.0 a.1 kn b)

-- a turn: between turns, of the devices that undone lines want none is held
module _ (p : List ℕ) (rules : Rules p) (done : List ℕ) (inv : Between p done) (i m : ℕ) (un : has i done ≡ false)
    (ready : (k : ℕ) → k < length p → has k done ≡ false → precedes p k i ≡ false) (g : Going p i m) where
  -- its lines may follow
  pub turn_follows : Follow p done (up_from i (suc m - i))
  turn_follows = run_follows p rules done inv.closed i m un ready g
      (λ x k d ix xm t h u. clear x d ix xm t (inv.given k d h u))
    where
      clear : {A : Type 0} (x d : ℕ) → i ≤ x → x ≤ m → takes p x d ≡ true
          → A ⊎ ((y : ℕ) → y < length p → has y done ≡ false → takes p y d ≡ false) → A
      clear x d ix xm t (inl e) = e
      clear x d ix xm t (inr e) =
          clash (takes p x d) t
          (e x (omega (arith, g.in_plan)) (undone_yet p rules done inv.closed i m un ready g x ix xm))

  abbrev next : List ℕ
  next = done ++ up_from i (suc m - i)

  old_done : (k : ℕ) → has k done ≡ true → has k next ≡ true
  old_done = after_old p rules done inv.closed i m un ready g

  new_done : (k : ℕ) → i ≤ k → k ≤ m → has k next ≡ true
  new_done = after_new p rules done inv.closed i m un ready g

  still_undone : (k : ℕ) → has k next ≡ false → has k done ≡ false
  still_undone = not_yet p rules done inv.closed i m un ready g

  -- and what holds between turns holds again, if the take at i is given back in the turn or no other line wants its
  -- device
  pub turn_between : ((d : ℕ) → grips p i d ≡ true
      → (mate p i ≡ some m) ⊎ ((x : ℕ) → x < length p → has x done ≡ false → x ≢ i → takes p x d ≡ false))
      → Between p next
  turn_between last =
      record {
        begun = λ k h. old_done k (inv.begun k h);
        closed = after_closed p rules done inv.closed i m un
            ready g;
        given = given';
      }
    where
      given' : (k d : ℕ) → has k next ≡ true → grips p k d ≡ true
          → (given_back p next k ≡ true) ⊎ ((x : ℕ) → x < length p → has x next ≡ false → takes p x d ≡ false)
      given' k d h t = go (after_only p rules done inv.closed i m un ready g k h) (test (eqb k i))
        where
          old : (given_back p done k ≡ true) ⊎ ((x : ℕ) → x < length p → has x done ≡ false → takes p x d ≡ false)
              → (given_back p next k ≡ true) ⊎ ((x : ℕ) → x < length p → has x next ≡ false → takes p x d ≡ false)
          old (inl a) = inl (still_given p done next k old_done a)
          old (inr a) = inr (λ x xn e. a x xn (still_undone x e))

          chosen : k ≡ i → (mate p i ≡ some m)
              ⊎ ((x : ℕ) → x < length p → has x done ≡ false → x ≢ i → takes p x d ≡ false)
              → (given_back p next k ≡ true) ⊎ ((x : ℕ) → x < length p → has x next ≡ false → takes p x d ≡ false)
          chosen q (inl a) = inl (given_back_lem p next k m (rw q a) (new_done m g.le (omega arith)))
          chosen q (inr a) =
              inr (λ x xn e. a x xn (still_undone x e)
              (λ z. clash (has x next) (rw z (new_done i (omega arith) g.le)) e))

          go : (has k done ≡ true) ⊎ ((i ≤ k) × (k ≤ m)) → (eqb k i ≡ true) ⊎ (eqb k i ≡ false)
              → (given_back p next k ≡ true) ⊎ ((x : ℕ) → x < length p → has x next ≡ false → takes p x d ≡ false)
          go (inl a) b = old (inv.given k d a t)
          go (inr a) (inl e) = let q = eqb-true k i e in chosen q (last d (rw q at t))
          go (inr a) (inr e) =
              let z = eqb-false k i e in
              let r = g.mates k (omega (arith, a.0)) a.1 (grips_opens p k d t) in
              inl (given_back_lem p next k r.0 r.1 (new_done r.0 (omega (arith, a.0, r.3)) r.2))
