-- Which segment comes next. The definition takes the first closing line whose segment takes nothing that is held now.
-- That is the rule as people are told it: always the segment of the lowest job whose segment can be done, up to the
-- next closing line of that job; and it can be done if no outermost take in it is of a device that a held line of
-- another job still keeps. In one statement: `chosen_exactly`; for the case that no segment can be done,
-- `none_chosen_exactly`; and of all segments, one after the other, `segments_by_rule`.
use Prim.Native.Nat.{ℕ, zero, suc, ◌-◌, ◌<◌, ◌≤◌}
use mathlib.Core.Bool.{Bool, true, false, not, ◌&&◌}
use mathlib.Core.List.{List, [], ◌++◌}
use mathlib.Core.Logic.{◌⊎◌, inl, inr, ◌≢◌, ◌↔◌}
use mathlib.Core.Option.{Option, none, some, get_or, some-injective}
use mathlib.Core.Path.{◌≡◌, refl, sym, ◌∙◌, ap, subst}
use native.Mathlib.Omega.{arith}
use lib.ListN.{length}
use borrow.Author.Tests.{eqb-true, eq-eqb, eqb-false, not-true, not-false}
use lib.Dec.{eqb}
use Rattle.model.specs.Lists.{up_from, positions, any, has, first_of}
use Rattle.model.specs.Line.{job, is_held, device_of, holds, at}
use Rattle.model.specs.Mate.{takes_at, held_at, device_at, takes, held_lines, grips, mate}
use Rattle.model.specs.WellFormed.{Rules}
use Rattle.model.specs.Legal.{given_back, held}
use Rattle.model.specs.Handed.{undone, closes_held, next_of, segment, unhindered, closing, segments_after, segments}
use Rattle.theory.specs.Chosen.{Awaited, NextGive, InSegment, Barred, NextSegment, ByRule, stops, goes}
use Rattle.theory.proofs.Tests.{clash, no_some, test, falsely, and_split, and_both, and_second, le_or_lt}
use Rattle.theory.proofs.Lists.{has_up_from, up_from_has, any_found, any_at, first_answer, Answer, first_lowest}
use Rattle.theory.proofs.Lists.{first_those, none_exactly, left, left_none, left_all, among}
use Rattle.theory.proofs.Successors.{earlier_precedes, jobs_grow}
use Rattle.theory.proofs.Mate.{pair, given_between}
use Rattle.theory.proofs.Grips.{holds_grips, takes_no_held, Grips, by_take, by_held, gripping}
use Rattle.theory.proofs.Claims.{takes_line}
use Rattle.theory.proofs.Turns.{given_back_lem}
use Rattle.theory.proofs.Progress.{has_undone, undone_has, device_is}
use Rattle.theory.proofs.Segments.{Opened, at_first, Next, next, closed_held, held_closes, segment_has}
use Rattle.theory.proofs.Segments.{segment_opened, segment_less}

-- the first undone line that passes is the lowest
first_undone : (f : ℕ → Bool) (p done : List ℕ) (m : ℕ) → first_of f (undone p done) ≡ some m
    → (k : ℕ) → k < m → has k done ≡ false → f k ≡ false
unfolding undone positions
first_undone f p done m e k lt u =
    and_second (not (has k done)) (f k) (rw u)
    (first_lowest (λ i. not (has i done) && f i) 0 (length p) m
    (sym (first_those f (λ i. not (has i done)) (up_from 0 (length p))) ∙ e) k (omega arith) lt)

module _ (p : List ℕ) (rules : Rules p) (done : List ℕ) (inv : Opened p done) (m : ℕ)
    (chosen : closing p done ≡ some m) where
  can : ℕ → Bool
  can n = closes_held p n && unhindered p done (segment p (undone p done) n)

  answer : (has m (undone p done) ≡ true) × (can m ≡ true)
  unfolding closing can
  answer = go (first_of can (undone p done)) chosen (first_answer can (undone p done))
    where
      go : (o : Option ℕ) → o ≡ some m → Answer can (undone p done) o → (has m (undone p done) ≡ true) × (can m ≡ true)
      go none e a = no_some e
      go (some x) e a =
          let z : x ≡ m = some-injective x m e in (rw z at a.0, rw z at a.1)

  m_undone : (m < length p) × (has m done ≡ false)
  m_undone = has_undone p done m answer.0

  m_closes : closes_held p m ≡ true
  unfolding can
  m_closes = (and_split (closes_held p m) (unhindered p done (segment p (undone p done) m)) answer.1).0

  -- a closing line before it is hindered
  before_hindered : (n : ℕ) → n < m → has n done ≡ false → closes_held p n ≡ true
      → unhindered p done (segment p (undone p done) n) ≡ false
  unfolding closing can
  before_hindered n lt u c =
      and_second (closes_held p n) (unhindered p done (segment p (undone p done) n)) c
      (first_undone can p done m chosen n lt u)

  -- no lower job has a segment that can be done
  pub lower_hindered : (n : ℕ) → n < length p → has n done ≡ false → closes_held p n ≡ true
      → job (at p n) < job (at p m)
      → unhindered p done (segment p (undone p done) n) ≡ false
  lower_hindered n nn u c lt = go (le_or_lt m n)
    where
      go : (m ≤ n) ⊎ (n < m) → unhindered p done (segment p (undone p done) n) ≡ false
      go (inl le) = absurd (omega (arith, jobs_grow p rules m n le nn))
      go (inr l) = before_hindered n l u c

  -- it is the next closing line of its job: the segment up to an earlier one would be a part of its own
  pub next_of_job : (n : ℕ) → n < length p → has n done ≡ false → closes_held p n ≡ true → job (at p n) ≡ job (at p m)
      → m ≤ n
  unfolding can unhindered segment
  next_of_job n nn u c q = go (le_or_lt m n)
    where
      from : ℕ → ℕ
      from x = get_or (next_of p (undone p done) (job (at p x))) x

      hinders : ℕ → Bool
      hinders k = takes_at p k && held p done (device_at p k)

      a : Next p done n (from n)
      a = next p done n nn u

      b : Next p done m (from m)
      b = next p done m m_undone.0 m_undone.1

      same : from n ≡ from m
      same =
          omega (
            arith,
            a.lowest (from m) b.line b.waiting (b.of_job ∙ sym q),
            b.lowest (from n) a.line a.waiting (a.of_job ∙ q),
          )

      part : n < m → any hinders (up_from (from n) (suc n - from n)) ≡ true
          → any hinders (up_from (from m) (suc m - from m)) ≡ true
      part lt e =
          let r = any_found hinders (up_from (from n) (suc n - from n)) e in
          let h = has_up_from (from n) (suc n - from n) r.0 r.1 in
          let le = a.lowest n nn u refl in
          any_at hinders (up_from (from m) (suc m - from m)) r.0
          (up_from_has (from m) (suc m - from m) r.0 (omega (arith, same, h.0))
          (omega (arith, same, h.0, h.1, le))) r.2

      go : (m ≤ n) ⊎ (n < m) → m ≤ n
      go (inl le) = le
      go (inr lt) =
          clash (any hinders (up_from (from m) (suc m - from m)))
          (part lt (not-false (any hinders (up_from (from n) (suc n - from n))) (before_hindered n lt u c)))
          (not-true (any hinders (up_from (from m) (suc m - from m)))
          (and_split (closes_held p m) (unhindered p done (segment p (undone p done) m)) answer.1).1)

-- What hinders the next segment of a job is a held line of another job.
pub hindered_by_another : (p : List ℕ) → Rules p → (done : List ℕ) → Opened p done → (m : ℕ) → has m done ≡ false
    → closes_held p m ≡ true
    → ((n : ℕ) → n < length p → has n done ≡ false → closes_held p n ≡ true → job (at p n) ≡ job (at p m) → m ≤ n)
    → (x h d : ℕ) → has x (segment p (undone p done) m) ≡ true → has x done ≡ false → takes p x d ≡ true
    → held_at p h ≡ true → grips p h d ≡ true → given_back p done h ≡ false → job (at p h) ≢ job (at p m)
hindered_by_another p rules done inv m un c first x h d a u t k g n q = go (le_or_lt x h)
  where
    s : (x ≤ m) × (job (at p x) ≡ job (at p m))
    s = segment_has p rules done inv m un c x a

    same : job (at p h) ≡ job (at p x)
    same = q ∙ sym s.1

    up : x ≤ h → (eqb x h ≡ true) ⊎ (eqb x h ≡ false) → has x done ≡ true
    up le (inl e) = rw (eqb-true x h e) (inv.begun h k)
    up le (inr e) =
        let ne = eqb-false x h e in
        inv.closed x h (takes_line p x d t) (inv.begun h k)
        (earlier_precedes p x h (omega (arith, ne)) (sym same))

    go : (x ≤ h) ⊎ (h < x) → ⊥
    go (inl le) = clash (has x done) (up le (test (eqb x h))) u
    go (inr lt) =
        let r = given_between p rules h x d g t same lt in
        let y = pair p h r.0 r.1 in
        omega (
          arith,
          r.2,
          s.0,
          first r.0 y.in_plan (not_done r.0 r.1 (test (has r.0 done))) (held_closes p h r.0 k r.1)
              (y.same_job r.0 (omega (arith, y.below)) (omega arith) ∙ q),
        )
      where
        not_done : (b : ℕ) → mate p h ≡ some b → (has b done ≡ true) ⊎ (has b done ≡ false) → has b done ≡ false
        not_done b e (inl v) = clash (given_back p done h) (given_back_lem p done h b e v) n
        not_done b e (inr v) = v

-- As long as only held lines are open, a device is held exactly if a held line of it was not given back: what a search
-- for the next segment has to keep is a set of devices that falls.
pub held_now : (p done : List ℕ) → Opened p done → (d : ℕ)
    → (held p done d ≡ true) ↔ ((h : ℕ) × (holds (at p h) d ≡ true) × (given_back p done h ≡ false))
unfolding held holds held_at
held_now p done inv d = (to, from)
  where
    to : held p done d ≡ true → (h : ℕ) × (holds (at p h) d ≡ true) × (given_back p done h ≡ false)
    to e =
        let r = any_found (λ k. grips p k d && not (given_back p done k)) done e in
        let s = and_split (grips p r.0 d) (not (given_back p done r.0)) r.2 in
        let n = not-true (given_back p done r.0) s.1 in
        (r.0, go r.0 n (gripping p r.0 d s.0) (inv.given r.0 d r.1 s.0), n)
      where
        go : (k : ℕ) → given_back p done k ≡ false → Grips p k d → (given_back p done k ≡ true) ⊎ (held_at p k ≡ true)
            → holds (at p k) d ≡ true
        go k n (by_held a b) c = b
        go k n (by_take t) (inl e) = clash (given_back p done k) e n
        go k n (by_take t) (inr e) = clash (held_at p k) e (takes_no_held p k d t)

    from : (h : ℕ) × (holds (at p h) d ≡ true) × (given_back p done h ≡ false) → held p done d ≡ true
    from r =
        any_at (λ k. grips p k d && not (given_back p done k)) done r.0
        (inv.begun r.0 (and_split (is_held (at p r.0)) (eqb (device_of (at p r.0)) d) r.1).0)
        (and_both (grips p r.0 d) (not (given_back p done r.0)) (holds_grips p r.0 d r.1) (rw r.2))

-- ---- the rule in one statement

module _ (p : List ℕ) (rules : Rules p) (done : List ℕ) (inv : Opened p done) where
  awaited_line : (m : ℕ) → Awaited p done m → m < length p
  awaited_line m a = (pair p a.h m a.mated).in_plan

  awaited_closes : (m : ℕ) → Awaited p done m → closes_held p m ≡ true
  awaited_closes m a = held_closes p a.h m a.is_held a.mated

  closes_awaited : (m : ℕ) → has m done ≡ false → closes_held p m ≡ true → Awaited p done m
  closes_awaited m u c =
      let r = closed_held p m c in record { waiting = u; h = r.0; is_held = r.1; mated = r.2 }

  -- the lines of a segment are what its job has still to do up to the give
  pub segment_exactly : (m : ℕ) → Awaited p done m → (x : ℕ)
      → (has x (segment p (undone p done) m) ≡ true) ↔ InSegment p done m x
  unfolding segment
  segment_exactly m a x = (to, back)
    where
      from : ℕ
      from = get_or (next_of p (undone p done) (job (at p m))) m

      start : Next p done m from
      start = next p done m (awaited_line m a) a.waiting

      to : has x (segment p (undone p done) m) ≡ true → InSegment p done m x
      to e = record { waiting = falsely (has x done) no; of_job = r.1; up_to = r.0 }
        where
          r : (x ≤ m) × (job (at p x) ≡ job (at p m))
          r = segment_has p rules done inv m a.waiting (awaited_closes m a) x e

          begun : has x done ≡ true → (eqb from x ≡ true) ⊎ (eqb from x ≡ false) → has from done ≡ true
          begun d (inl z) = subst (λ (k : ℕ). has k done ≡ true) (sym (eqb-true from x z)) d
          begun d (inr z) =
              let ne = eqb-false from x z in
              let le = (has_up_from from (suc m - from) x e).0 in
              inv.closed from x start.line d
              (earlier_precedes p from x (omega (arith, ne, le)) (start.of_job ∙ sym r.1))

          no : has x done ≡ true → ⊥
          no d = clash (has from done) (begun d (test (eqb from x))) start.waiting

      back : InSegment p done m x → has x (segment p (undone p done) m) ≡ true
      back i =
          let le = i.up_to in
          up_from_has from (suc m - from) x
          (start.lowest x (omega (arith, le, awaited_line m a)) i.waiting i.of_job) (omega (arith, le))

  hinders : ℕ → Bool
  hinders k = takes_at p k && held p done (device_at p k)

  -- a hindered segment is barred by another job, if it is the next of its own
  hindered_barred : (m : ℕ) → NextGive p done m → unhindered p done (segment p (undone p done) m) ≡ false
      → Barred p done m
  unfolding unhindered hinders takes holds held_at
  hindered_barred m g u = record {
    x = x;
    h = k.0;
    d = device_at p x;
    in_segment = i;
    taken = t;
    holding = k.1;
    another = hindered_by_another p rules done inv m g.awaited.waiting (awaited_closes m g.awaited)
        (λ n nn w c q. g.next n (closes_awaited n w c) q) x k.0 (device_at p x) f.1 i.waiting t
        (and_split (is_held (at p k.0)) (eqb (device_of (at p k.0)) (device_at p x)) k.1).0
        (holds_grips p k.0 (device_at p x) k.1) k.2;
    kept = k.2;
  }
    where
      f : (x : ℕ) × (has x (segment p (undone p done) m) ≡ true) × (hinders x ≡ true)
      f =
          any_found hinders (segment p (undone p done) m)
          (not-false (any hinders (segment p (undone p done) m)) u)

      x : ℕ
      x = f.0

      s : (takes_at p x ≡ true) × (held p done (device_at p x) ≡ true)
      s = and_split (takes_at p x) (held p done (device_at p x)) f.2

      t : takes p x (device_at p x) ≡ true
      t =
          and_both (takes_at p x) (eqb (device_at p x) (device_at p x)) s.0
          (eq-eqb (device_at p x) (device_at p x) refl)

      k : (h : ℕ) × (holds (at p h) (device_at p x) ≡ true) × (given_back p done h ≡ false)
      k = (held_now p done inv (device_at p x)).0 s.1

      i : InSegment p done m x
      i = (segment_exactly m g.awaited x).0 f.1

  barred_hindered : (m : ℕ) → Awaited p done m → Barred p done m
      → unhindered p done (segment p (undone p done) m) ≡ false
  unfolding unhindered hinders takes
  barred_hindered m a b =
      rw (any_at hinders (segment p (undone p done) m) b.x ((segment_exactly m a b.x).1 b.in_segment)
      (and_both (takes_at p b.x) (held p done (device_at p b.x))
      (and_split (takes_at p b.x) (eqb (device_at p b.x) b.d) b.taken).0
      (rw (device_is p b.x b.d b.taken)
      ((held_now p done inv b.d).1 (b.h, b.holding, b.kept)))))

  -- a segment that is not barred can be done
  unbarred : (m : ℕ) → NextGive p done m → (Barred p done m → ⊥)
      → unhindered p done (segment p (undone p done) m) ≡ true
  unbarred m g f = go (test (unhindered p done (segment p (undone p done) m)))
    where
      go : (unhindered p done (segment p (undone p done) m) ≡ true)
          ⊎ (unhindered p done (segment p (undone p done) m) ≡ false)
          → unhindered p done (segment p (undone p done) m) ≡ true
      go (inl e) = e
      go (inr e) = absurd (f (hindered_barred m g e))

  -- what is chosen is by the rule
  chosen_next : (m : ℕ) → closing p done ≡ some m → NextSegment p done m
  unfolding can
  chosen_next m e = record {
    give = record {
      awaited = mine;
      next = λ n a. next_of_job p rules done inv m e n (awaited_line n a) a.waiting (awaited_closes n a);
    };
    free = λ b.
        clash (unhindered p done (segment p (undone p done) m))
        (and_split (closes_held p m) (unhindered p done (segment p (undone p done) m))
        (answer p rules done inv m e).1).1
        (barred_hindered m mine b);
    lowest = λ n g lt.
        hindered_barred n g
        (lower_hindered p rules done inv m e n (awaited_line n g.awaited) g.awaited.waiting
        (awaited_closes n g.awaited) lt);
  }
    where
      mine : Awaited p done m
      mine = closes_awaited m (m_undone p rules done inv m e).1 (m_closes p rules done inv m e)

  -- the rule names one line
  one_next : (m n : ℕ) → NextSegment p done m → NextSegment p done n → n ≡ m
  one_next m n a b = go (le_or_lt (job (at p m)) (job (at p n))) (le_or_lt (job (at p n)) (job (at p m)))
    where
      go : (job (at p m) ≤ job (at p n)) ⊎ (job (at p n) < job (at p m))
          → (job (at p n) ≤ job (at p m)) ⊎ (job (at p m) < job (at p n)) → n ≡ m
      go (inr lt) y = absurd (b.free (a.lowest n b.give lt))
      go (inl le) (inr lt) = absurd (a.free (b.lowest m a.give lt))
      go (inl le) (inl ge) =
          let q : job (at p n) ≡ job (at p m) = omega arith in
          omega (arith, a.give.next n b.give.awaited q, b.give.next m a.give.awaited (sym q))

  -- The theorem: the line chosen is the one of the rule.
  pub chosen_exactly : (m : ℕ) → (closing p done ≡ some m) ↔ NextSegment p done m
  unfolding closing can
  chosen_exactly m = (chosen_next m, λ r. back r (first_of f (undone p done)) refl (first_answer f (undone p done)))
    where
      f : ℕ → Bool
      f n = closes_held p n && unhindered p done (segment p (undone p done) n)

      back : NextSegment p done m → (o : Option ℕ) → closing p done ≡ o → Answer f (undone p done) o → o ≡ some m
      back r none e a =
          let w = r.give.awaited in
          clash (f m)
          (and_both (closes_held p m) (unhindered p done (segment p (undone p done) m)) (awaited_closes m w)
          (unbarred m r.give r.free))
          (a m (undone_has p done m (awaited_line m w) w.waiting))
      back r (some n) e a = ap {B = Option ℕ} some (one_next m n r (chosen_next n e))

  -- None is chosen exactly if the segment of every job that has one is barred, or no job has one.
  pub none_chosen_exactly : (closing p done ≡ none) ↔ ((m : ℕ) → NextGive p done m → Barred p done m)
  unfolding closing
  none_chosen_exactly = (to, λ r. back r (closing p done) refl)
    where
      f : ℕ → Bool
      f n = closes_held p n && unhindered p done (segment p (undone p done) n)

      to : closing p done ≡ none → (m : ℕ) → NextGive p done m → Barred p done m
      to e m g =
          let w = g.awaited in
          hindered_barred m g
          (and_second (closes_held p m) (unhindered p done (segment p (undone p done) m)) (awaited_closes m w)
          ((none_exactly f (undone p done)).0 e m (undone_has p done m (awaited_line m w) w.waiting)))

      back : ((m : ℕ) → NextGive p done m → Barred p done m) → (o : Option ℕ) → closing p done ≡ o → o ≡ none
      back r none e = refl
      back r (some m) e = let s = chosen_next m e in absurd (s.free (r m s.give))

-- ---- all segments

module _ (p : List ℕ) (rules : Rules p) where
  by_rule : (n : ℕ) (done : List ℕ) → Opened p done → left (among done) (length p) ≤ n
      → ByRule p done (segments_after n p done)
  unfolding segments_after segment
  by_rule zero done inv le =
      stops done λ m g.
      (let w = g.awaited in
      clash (has m done) (left_none (among done) (length p) le m (awaited_line p rules done inv m w)) w.waiting)
  by_rule (suc n) done inv le = go (closing p done) refl (by_rule n)
    where
      go : (o : Option ℕ) → closing p done ≡ o
          → ((done : List ℕ) → Opened p done → left (among done) (length p) ≤ n
          → ByRule p done (segments_after n p done))
          → ByRule p done (elim o [
            | none ↦ []
            | some m ↦ segment p (undone p done) m
                ++ segments_after n p (done ++ segment p (undone p done) m)
          ])
      go none e ih = stops done ((none_chosen_exactly p rules done inv).0 e)
      go (some m) e ih =
          let r = (chosen_exactly p rules done inv m).0 e in
          let w = r.give.awaited in
          let c = awaited_closes p rules done inv m w in
          let i : ℕ = get_or (next_of p (undone p done) (job (at p m))) m in
          let later : List ℕ = done ++ segment p (undone p done) m in
          goes done (segments_after n p later) m i (suc m - i) r (segment_exactly p rules done inv m w)
          (ih later (segment_opened p rules done inv m w.waiting c)
          (omega (arith, le, segment_less p rules done inv m w.waiting c)))

  -- The theorem: the segments of the order are handed out by the rule, from the state in which the held lines are done.
  pub segments_by_rule : ByRule p (held_lines p) (segments p)
  unfolding segments
  segments_by_rule =
      by_rule (length p) (held_lines p) (at_first p rules) (left_all (among (held_lines p)) (length p))
