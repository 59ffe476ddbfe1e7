-- The segments (02, request 5). As long as only held lines are open, the lines of a segment that can be done may
-- follow, and after them again only held lines are open. Where no segment can be done and the give of a held line is
-- still to come, no order is legal: of these gives take the one that comes first in the order; what its segment needs
-- is kept by another held line, whose give has then come before. Where all of these gives are done, and nobody takes
-- what a held line keeps to the end, the state is one between turns.
use Prim.Native.Nat.{ℕ, zero, suc, ◌-◌, ◌<◌, ◌≤◌}
use mathlib.Core.Bool.{Bool, true, false, not, ◌&&◌}
use mathlib.Core.List.{List, [], ◌++◌, append-nil, append_assoc}
use mathlib.Core.Logic.{◌⊎◌, inl, inr}
use mathlib.Core.Option.{Option, none, some, get_or}
use mathlib.Core.Path.{◌≡◌, refl, sym, ◌∙◌, ap, subst}
use native.Mathlib.Omega.{arith}
use lib.Dec.{eqb}
use lib.ListN.{length}
use borrow.Author.Tests.{eqb-true, eq-eqb, eqb-false, not-true, not-false}
use Rattle.model.specs.Lists.{up_from, positions, any, has, those, first_of, least_by}
use Rattle.model.specs.Line.{job, starts, opens, at}
use Rattle.model.specs.Mate.{takes_at, held_at, device_at, takes, grips, held_lines, mate, keeps}
use Rattle.model.specs.WellFormed.{Rules}
use Rattle.model.specs.Legal.{precedes, given_back, held, Follow, Legal}
use Rattle.model.specs.Handed.{is_at, undone, closes_held, next_of, segment, unhindered, closing, segments_after}
use Rattle.model.specs.Handed.{segments}
use Rattle.model.specs.Verdict.{takes_kept, stays_open}
use Rattle.theory.specs.Verdict.{TakesKept}
use Rattle.theory.proofs.Tests.{clash, test, and_split, and_both, and_second, le_or_lt}
use Rattle.theory.proofs.Lists.{has_none, has_left, has_up_from, up_from_has, position_has}
use Rattle.theory.proofs.Lists.{has_those, those_has, any_found, any_at, any_none, none_any}
use Rattle.theory.proofs.Lists.{Answer, first_answer, first_those, first_lowest, Least, least_answer, left}
use Rattle.theory.proofs.Lists.{left_lt, left_none}
use Rattle.theory.proofs.Lists.{left_all, among}
use Rattle.theory.proofs.Line.{give_no_held}
use Rattle.theory.proofs.Successors.{Why, same_job, starter, why, earlier_precedes}
use Rattle.theory.proofs.Mate.{Pair, pair}
use Rattle.theory.proofs.Grips.{grips_opens, takes_no_held, has_held, held_has, before_held}
use Rattle.theory.proofs.Claims.{takes_line}
use Rattle.theory.proofs.Places.{place, When, at_time, earlier, stands_before, mateless_keeps}
use Rattle.theory.proofs.Turns.{Closed, Between, Going, run_follows, after_old, after_new, after_only}
use Rattle.theory.proofs.Turns.{after_closed}
use Rattle.theory.proofs.Turns.{given_parts, given_back_lem, still_given}
use Rattle.theory.proofs.Progress.{has_undone, undone_has, device_is}
use Rattle.theory.proofs.Handed.{follow_append}

-- ---- only held lines are open

pub record Opened (p done : List ℕ) : Type 0 where
  pub begun : (k : ℕ) → held_at p k ≡ true → has k done ≡ true
  pub closed : Closed p done
  pub given : (k d : ℕ) → has k done ≡ true → grips p k d ≡ true → (given_back p done k ≡ true) ⊎ (held_at p k ≡ true)

-- so it is at the beginning
pub at_first : (p : List ℕ) → Rules p → Opened p (held_lines p)
at_first p rules = record {
  begun = λ k h. held_has p k h;
  closed = λ k i kn h b. held_has p k (before_held p rules k i b (has_held p i h).1);
  given = λ k d h g. inr (has_held p k h).1;
}

-- the held line that a line closes
pub closed_held : (p : List ℕ) (m : ℕ) → closes_held p m ≡ true → (h : ℕ) × (held_at p h ≡ true) × (mate p h ≡ some m)
unfolding closes_held is_at
closed_held p m c =
    let r = any_found (λ h. is_at (mate p h) m) (held_lines p) c in
    (r.0, (has_held p r.0 r.1).1, go (mate p r.0) r.2)
  where
    go : (o : Option ℕ) → is_at o m ≡ true → o ≡ some m
    go none e = clash false e refl
    go (some x) e = ap {B = Option ℕ} some (eqb-true x m e)

pub held_closes : (p : List ℕ) (h m : ℕ) → held_at p h ≡ true → mate p h ≡ some m → closes_held p m ≡ true
unfolding closes_held is_at
held_closes p h m a e =
    any_at (λ h. is_at (mate p h) m) (held_lines p) h (held_has p h a) (rw e (eq-eqb m m refl))

-- the first undone line of a job that has one
pub record Next (p done : List ℕ) (m i : ℕ) : Type 0 where
  pub line : i < length p
  pub waiting : has i done ≡ false
  pub of_job : job (at p i) ≡ job (at p m)
  pub lowest : (k : ℕ) → k < length p → has k done ≡ false → job (at p k) ≡ job (at p m) → i ≤ k

pub next : (p done : List ℕ) (m : ℕ) → m < length p → has m done ≡ false
    → Next p done m (get_or (next_of p (undone p done) (job (at p m))) m)
unfolding next_of undone positions
next p done m h e =
    rw (first_those of_job waits (up_from 0 (length p)))
    (go (first_of f (up_from 0 (length p))) refl (first_answer f (up_from 0 (length p))))
  where
    waits : ℕ → Bool
    waits k = not (has k done)

    of_job : ℕ → Bool
    of_job k = eqb (job (at p k)) (job (at p m))

    f : ℕ → Bool
    f k = waits k && of_job k

    passes : (k : ℕ) → has k done ≡ false → job (at p k) ≡ job (at p m) → f k ≡ true
    passes k u q = and_both (waits k) (of_job k) (rw u) (eq-eqb (job (at p k)) (job (at p m)) q)

    go : (o : Option ℕ) → first_of f (up_from 0 (length p)) ≡ o → Answer f (up_from 0 (length p)) o
        → Next p done m (get_or o m)
    go none q a = clash (f m) (passes m e refl) (a m (up_from_has 0 (length p) m (omega arith) (omega arith)))
    go (some i) q a =
        let s = and_split (waits i) (of_job i) a.1 in record {
          line = omega (arith, (has_up_from 0 (length p) i a.0).1);
          waiting = not-true (has i done) s.0;
          of_job = eqb-true (job (at p i)) (job (at p m)) s.1;
          lowest = λ k kn un b. low k (passes k un b) (le_or_lt i k);
        }
      where
        low : (k : ℕ) → f k ≡ true → (i ≤ k) ⊎ (k < i) → i ≤ k
        low k t (inl le) = le
        low k t (inr lt) = clash (f k) t (first_lowest f 0 (length p) i q k (omega arith) lt)

-- ---- one segment

module _ (p : List ℕ) (rules : Rules p) (done : List ℕ) (inv : Opened p done) (m : ℕ) (un : has m done ≡ false)
    (c : closes_held p m ≡ true) where
  h : ℕ
  h = (closed_held p m c).0

  pr : Pair p h m
  unfolding h
  pr = pair p h m (closed_held p m c).2

  h_held : held_at p h ≡ true
  unfolding h
  h_held = (closed_held p m c).1

  -- where it begins
  abbrev from : ℕ
  from = get_or (next_of p (undone p done) (job (at p m))) m

  start : Next p done m from
  start = next p done m pr.in_plan un

  same_job_lem : job (at p from) ≡ job (at p h)
  same_job_lem = start.of_job ∙ pr.same_job m (omega (arith, pr.below)) (omega arith)

  -- it begins after the held line
  inside : h < from
  inside = go (le_or_lt from h)
    where
      split : (eqb from h ≡ true) ⊎ (eqb from h ≡ false) → from ≤ h → has from done ≡ true
      split (inl e) le = subst (λ (x : ℕ). has x done ≡ true) (sym (eqb-true from h e)) (inv.begun h h_held)
      split (inr e) le =
          let ne = eqb-false from h e in
          inv.closed from h start.line (inv.begun h h_held)
          (earlier_precedes p from h (omega (arith, ne)) same_job_lem)

      go : (from ≤ h) ⊎ (h < from) → h < from
      go (inr lt) = lt
      go (inl le) = clash (has from done) (split (test (eqb from h)) le) start.waiting

  mated : (k : ℕ) → from ≤ k → k ≤ m → opens (at p k) ≡ true → (n : ℕ) × (mate p k ≡ some n) × (n < m) × (k < n)
  mated k a b t = pr.mates k (omega (arith, inside)) b t

  pub runs : Going p from m
  runs = record {
    le = start.lowest m pr.in_plan un refl;
    in_plan = pr.in_plan;
    same_job = λ k a b. pr.same_job k (omega (arith, inside)) b ∙ sym same_job_lem;
    mates = λ k a b t. (let r = mated k (omega arith) b t in (r.0, r.1, omega (arith, r.2), r.3));
  }

  ready : (k : ℕ) → k < length p → has k done ≡ false → precedes p k from ≡ false
  unfolding held_at
  ready k kn u = go (test (precedes p k from))
    where
      no : Why p k from → precedes p k from ≡ false
      no (same_job lt e) = absurd (omega (arith, start.lowest k kn u (e ∙ start.of_job), lt))
      no (starter a) =
          clash (starts (at p k) (job (at p h))) (subst (λ (x : ℕ). starts (at p k) x ≡ true) same_job_lem a)
          (rules.held_runs h k h_held)

      go : (precedes p k from ≡ true) ⊎ (precedes p k from ≡ false) → precedes p k from ≡ false
      go (inl e) = no (why p k from e)
      go (inr e) = e

  abbrev lines : List ℕ
  lines = segment p (undone p done) m

  abbrev pub later : List ℕ
  later = done ++ lines

  -- its lines may follow, if it can be done
  pub segment_follows : unhindered p done lines ≡ true → Follow p done lines
  unfolding segment unhindered takes held
  segment_follows u = run_follows p rules done inv.closed from m start.waiting ready runs clear
    where
      hinders : ℕ → Bool
      hinders k = takes_at p k && held p done (device_at p k)

      still : (x k d : ℕ) → from ≤ x → x ≤ m → takes p x d ≡ true → has k done ≡ true → grips p k d ≡ true
          → given_back p done k ≡ false → given_back p done k ≡ true
      still x k d ix xm t hk g n =
          clash (any hinders (up_from from (suc m - from)))
          (any_at hinders (up_from from (suc m - from)) x (up_from_has from (suc m - from) x ix (omega arith))
          (and_both (takes_at p x) (held p done (device_at p x))
          (and_split (takes_at p x) (eqb (device_at p x) d) t).0
          (rw (device_is p x d t)
          (any_at (λ k. grips p k d && not (given_back p done k)) done k hk
          (and_both (grips p k d) (not (given_back p done k)) g (rw n))))))
          (not-true (any hinders (up_from from (suc m - from))) u)

      clear : (x k d : ℕ) → from ≤ x → x ≤ m → takes p x d ≡ true → has k done ≡ true → grips p k d ≡ true
          → given_back p done k ≡ true
      clear x k d ix xm t hk g = go (test (given_back p done k))
        where
          go : (given_back p done k ≡ true) ⊎ (given_back p done k ≡ false) → given_back p done k ≡ true
          go (inl e) = e
          go (inr e) = still x k d ix xm t hk g e

  -- and only held lines are open after it
  pub segment_opened : Opened p later
  unfolding segment
  segment_opened = record {
    begun = λ k a. old k (inv.begun k a);
    closed = after_closed p rules done inv.closed from m start.waiting ready runs;
    given = given';
  }
    where
      old : (k : ℕ) → has k done ≡ true → has k (done ++ up_from from (suc m - from)) ≡ true
      old = after_old p rules done inv.closed from m start.waiting ready runs

      given' : (k d : ℕ) → has k (done ++ up_from from (suc m - from)) ≡ true → grips p k d ≡ true
          → (given_back p (done ++ up_from from (suc m - from)) k ≡ true) ⊎ (held_at p k ≡ true)
      given' k d a g =
          go (after_only p rules done inv.closed from m start.waiting ready runs k a)
        where
          before : (given_back p done k ≡ true) ⊎ (held_at p k ≡ true)
              → (given_back p (done ++ up_from from (suc m - from)) k ≡ true) ⊎ (held_at p k ≡ true)
          before (inl e) = inl (still_given p done (done ++ up_from from (suc m - from)) k old e)
          before (inr e) = inr e

          go : (has k done ≡ true) ⊎ ((from ≤ k) × (k ≤ m))
              → (given_back p (done ++ up_from from (suc m - from)) k ≡ true) ⊎ (held_at p k ≡ true)
          go (inl e) = before (inv.given k d e g)
          go (inr e) =
              let r = mated k e.0 e.1 (grips_opens p k d g) in
              inl (given_back_lem p (done ++ up_from from (suc m - from)) k r.0 r.1
              (after_new p rules done inv.closed from m start.waiting ready runs r.0
              (omega (arith, e.0, r.3))
              (omega (arith, r.2))))

  -- it does a line
  pub segment_less : left (among later) (length p) < left (among done) (length p)
  unfolding segment
  segment_less =
      left_lt (among done) (among (done ++ up_from from (suc m - from)))
      (λ k a. has_left k done (up_from from (suc m - from)) a)
      m un (after_new p rules done inv.closed from m start.waiting ready runs m runs.le (omega arith))
      (length p)
      pr.in_plan

  -- the lines of a segment are of one job and end with m
  pub segment_has : (x : ℕ) → has x lines ≡ true → (x ≤ m) × (job (at p x) ≡ job (at p m))
  unfolding segment
  segment_has x a =
      let r = has_up_from from (suc m - from) x a in
      let b : x ≤ m = omega (arith, r.1, runs.le) in
      (b, runs.same_job x r.0 b ∙ start.of_job)

-- ---- one segment after the other

-- no segment can be done
abbrev pub Stuck : List ℕ → List ℕ → Type 0
Stuck p done = (m : ℕ) → m < length p → has m done ≡ false → closes_held p m ≡ true
    → unhindered p done (segment p (undone p done) m) ≡ false

-- the segments follow what is done, only held lines are open after them, and no further one can be done
pub record Closes (p done s : List ℕ) : Type 0 where
  pub steps : Follow p done s
  pub opened : Opened p (done ++ s)
  pub stuck : Stuck p (done ++ s)

module _ (p : List ℕ) (rules : Rules p) where
  none_more : (done : List ℕ) → Opened p done → Stuck p done → Closes p done []
  none_more done inv f = record {
    steps = tt;
    opened = subst (Opened p) (sym (append-nil done)) inv;
    stuck = subst (Stuck p) (sym (append-nil done)) f;
  }

  one_more : (done s t : List ℕ) → Follow p done s → Closes p (done ++ s) t → Closes p done (s ++ t)
  one_more done s t f r = record {
    steps = follow_append p done s t f r.steps;
    opened = subst (Opened p) (append_assoc done s t) r.opened;
    stuck = subst (Stuck p) (append_assoc done s t) r.stuck;
  }

  closes_all : (n : ℕ) (done : List ℕ) → Opened p done → left (among done) (length p) ≤ n
      → Closes p done (segments_after n p done)
  unfolding segments_after closing
  closes_all zero done inv le =
      none_more done inv (λ m mn un c. clash (has m done) (left_none (among done) (length p) le m mn) un)
  closes_all (suc n) done inv le =
      go (first_of can (undone p done)) (first_answer can (undone p done)) (closes_all n)
    where
      can : ℕ → Bool
      can m = closes_held p m && unhindered p done (segment p (undone p done) m)

      go : (o : Option ℕ) → Answer can (undone p done) o
          → ((done : List ℕ) → Opened p done → left (among done) (length p) ≤ n
          → Closes p done (segments_after n p done))
          → Closes p done (elim o [
            | none ↦ []
            | some m ↦ segment p (undone p done) m
                ++ segments_after n p (done ++ segment p (undone p done) m)
          ])
      go none a ih =
          none_more done inv (λ m mn un c.
          and_second (closes_held p m) (unhindered p done (segment p (undone p done) m)) c
          (a m (undone_has p done m mn un)))
      go (some m) a ih =
          let s = and_split (closes_held p m) (unhindered p done (segment p (undone p done) m)) a.1 in
          let u = (has_undone p done m a.0).1 in
          one_more done (segment p (undone p done) m) (segments_after n p (done ++ segment p (undone p done) m))
          (segment_follows p rules done inv m u s.0 s.1)
          (ih (done ++ segment p (undone p done) m) (segment_opened p rules done inv m u s.0)
          (omega (arith, segment_less p rules done inv m u s.0)))

  -- the segments of the order
  pub segments_close : Closes p (held_lines p) (segments p)
  unfolding segments
  segments_close =
      closes_all (length p) (held_lines p) (at_first p rules) (left_all (among (held_lines p)) (length p))

-- ---- stuck means that there is no legal order

module _ (p : List ℕ) (rules : Rules p) (o : List ℕ) (legal : Legal p o) (done : List ℕ) (inv : Opened p done)
    (stuck : Stuck p done) where
  -- a line that closes is a step
  closing_step : (m : ℕ) → closes_held p m ≡ true → (m < length p) × (held_at p m ≡ false)
  unfolding held_at
  closing_step m c =
      let r = closed_held p m c in
      let q = pair p r.0 m r.2 in (q.in_plan, give_no_held (at p m) q.gives)

  -- another such give comes before each
  sooner : (m : ℕ) → has m done ≡ false → closes_held p m ≡ true
      → (n : ℕ) × (has n done ≡ false) × (closes_held p n ≡ true) × (place o n < place o m)
  unfolding unhindered held takes
  sooner m un c =
      let s = closing_step m c in
      let f = any_found hinders (segment p (undone p done) m)
      (not-false (any hinders (segment p (undone p done) m)) (stuck m s.0 un c)) in
      let x = f.0 in
      let a = and_split (takes_at p x) (held p done (device_at p x)) f.2 in
      let b = segment_has p rules done inv m un c x f.1 in
      let k = any_found (λ k. grips p k (device_at p x) && not (given_back p done k)) done a.1 in
      let e = and_split (grips p k.0 (device_at p x)) (not (given_back p done k.0)) k.2 in
      go x b.0 b.1 (and_both (takes_at p x) (eqb (device_at p x) (device_at p x)) a.0
      (eq-eqb (device_at p x) (device_at p x) refl))
      k.0 e.0 (not-true (given_back p done k.0) e.1) (inv.given k.0 (device_at p x) k.1 e.0)
    where
      hinders : ℕ → Bool
      hinders k = takes_at p k && held p done (device_at p k)

      -- the take of the segment comes at its give or before
      up_to : (x d : ℕ) → x ≤ m → job (at p x) ≡ job (at p m) → takes p x d ≡ true → place o x ≤ place o m
      up_to x d le q t = split (test (eqb x m))
        where
          split : (eqb x m ≡ true) ⊎ (eqb x m ≡ false) → place o x ≤ place o m
          split (inl e) = rw (eqb-true x m e) (omega arith)
          split (inr e) =
              let ne = eqb-false x m e in
              let s = closing_step m c in
              omega (
                arith,
                stands_before p o legal x m (takes_line p x d t) s.0 (takes_no_held p x d t) s.1
                    (earlier_precedes p x m (omega (arith, ne)) q),
              )

      go : (x : ℕ) → x ≤ m → job (at p x) ≡ job (at p m) → takes p x (device_at p x) ≡ true
          → (k : ℕ) → grips p k (device_at p x) ≡ true → given_back p done k ≡ false
          → (given_back p done k ≡ true) ⊎ (held_at p k ≡ true)
          → (n : ℕ) × (has n done ≡ false) × (closes_held p n ≡ true) × (place o n < place o m)
      go x le q t k g n (inl e) = clash (given_back p done k) e n
      go x le q t k g n (inr e) = (y, not_done (test (has y done)), held_closes p k y e r.1, before)
        where
          line : x < length p
          line = takes_line p x (device_at p x) t

          step : held_at p x ≡ false
          step = takes_no_held p x (device_at p x) t

          w : When p (held_lines p) o x
          w = at_time p o legal x line step

          back : given_back p w.then k ≡ true
          back =
              not-false (given_back p w.then k)
              (and_second (grips p k (device_at p x)) (not (given_back p w.then k)) g
              (any_none (λ k. grips p k (device_at p x) && not (given_back p w.then k)) w.then
              (w.follows.free (device_at p x) t) k (w.keeps k (held_has p k e))))

          r : (y : ℕ) × (mate p k ≡ some y) × (has y w.then ≡ true)
          r = given_parts p w.then k back

          y : ℕ
          y = r.0

          not_done : (has y done ≡ true) ⊎ (has y done ≡ false) → has y done ≡ false
          not_done (inl h) = clash (given_back p done k) (given_back_lem p done k y r.1 h) n
          not_done (inr h) = h

          before : place o y < place o m
          before =
              omega (
                arith,
                earlier p o legal y x line step (closing_step y (held_closes p k y e r.1)).1 r.2,
                up_to x (device_at p x) le q t,
              )

  -- so there is none
  pub nothing_open : (m : ℕ) → has m done ≡ false → closes_held p m ≡ true → ⊥
  nothing_open m un c = go (least_by (place o) waiting) (least_answer (place o) waiting)
    where
      waiting : List ℕ
      waiting = those (closes_held p) (undone p done)

      listed : (k : ℕ) → has k done ≡ false → closes_held p k ≡ true → has k waiting ≡ true
      listed k u e = those_has (closes_held p) (undone p done) k (undone_has p done k (closing_step k e).0 u) e

      go : (x : Option ℕ) → Least (place o) waiting x → ⊥
      go none e = has_none m (rw e at (listed m un c))
      go (some q) l =
          let s = has_those (closes_held p) (undone p done) q l.0 in
          let r = sooner q (has_undone p done q s.0).1 s.1 in
          omega (arith, r.3, l.1 r.0 (listed r.0 r.1 r.2))

-- ---- the theorems

-- with a legal order, every open stretch is closed
pub legal_closes : (p o : List ℕ) → Rules p → Legal p o → stays_open p ≡ false
unfolding stays_open
legal_closes p o rules legal =
    none_any (closes_held p) (undone p (held_lines p ++ segments p)) (λ m h. go m h (test (closes_held p m)))
  where
    r : Closes p (held_lines p) (segments p)
    r = segments_close p rules

    go : (m : ℕ) → has m (undone p (held_lines p ++ segments p)) ≡ true
        → (closes_held p m ≡ true) ⊎ (closes_held p m ≡ false) → closes_held p m ≡ false
    go m h (inr e) = e
    go m h (inl e) =
        absurd
        (nothing_open p rules o legal (held_lines p ++ segments p) r.opened r.stuck m
        (has_undone p (held_lines p ++ segments p) m h).1 e)

-- the test is of such a take
pub takes_kept_lem : (p : List ℕ) → takes_kept p ≡ true → TakesKept p
unfolding takes_kept takes
takes_kept_lem p e =
    let i = any_found (λ i. takes_at p i && any (λ h. keeps p h (device_at p i)) (held_lines p)) (positions p) e in
    let s = and_split (takes_at p i.0) (any (λ h. keeps p h (device_at p i.0)) (held_lines p)) i.2 in
    let r = any_found (λ h. keeps p h (device_at p i.0)) (held_lines p) s.1 in record {
      h = r.0;
      i = i.0;
      d = device_at p i.0;
      is_held = (has_held p r.0 r.1).1;
      stays = r.2;
      taken = and_both (takes_at p i.0) (eqb (device_at p i.0) (device_at p i.0)) s.0
          (eq-eqb (device_at p i.0) (device_at p i.0) refl);
    }

pub kept_takes : (p : List ℕ) → TakesKept p → takes_kept p ≡ true
unfolding takes_kept takes
kept_takes p t =
    any_at (λ i. takes_at p i && any (λ h. keeps p h (device_at p i)) (held_lines p)) (positions p) t.i
    (position_has p t.i (takes_line p t.i t.d t.taken))
    (and_both (takes_at p t.i) (any (λ h. keeps p h (device_at p t.i)) (held_lines p))
    (and_split (takes_at p t.i) (eqb (device_at p t.i) t.d) t.taken).0
    (rw (device_is p t.i t.d t.taken)
    (any_at (λ h. keeps p h t.d) (held_lines p) t.h (held_has p t.h t.is_held) t.stays)))

-- where both are so, the segments lead to a state between turns
pub segments_between : (p : List ℕ) → Rules p → stays_open p ≡ false → takes_kept p ≡ false
    → Between p (held_lines p ++ segments p)
unfolding stays_open
segments_between p rules no_open no-kept =
    record { begun = inv.begun; closed = inv.closed; given = λ k d h g. given' k d h g (inv.given k d h g) }
  where
    done : List ℕ
    done = held_lines p ++ segments p

    inv : Opened p (held_lines p ++ segments p)
    inv = (segments_close p rules).opened

    untaken : (k d : ℕ) → held_at p k ≡ true → grips p k d ≡ true → mate p k ≡ none
        → (x : ℕ) → x < length p → has x done ≡ false → takes p x d ≡ false
    untaken k d a g e x xn u = go (test (takes p x d))
      where
        go : (takes p x d ≡ true) ⊎ (takes p x d ≡ false) → takes p x d ≡ false
        go (inr t) = t
        go (inl t) =
            clash (takes_kept p)
            (kept_takes p (record {
              h = k;
              i = x;
              d = d;
              is_held = a;
              stays = mateless_keeps p k d g e;
              taken = t;
            })) no-kept

    given' : (k d : ℕ) → has k done ≡ true → grips p k d ≡ true → (given_back p done k ≡ true) ⊎ (held_at p k ≡ true)
        → (given_back p done k ≡ true) ⊎ ((x : ℕ) → x < length p → has x done ≡ false → takes p x d ≡ false)
    given' k d h g (inl e) = inl e
    given' k d h g (inr e) = go (mate p k) refl
      where
        closed' : (m : ℕ) → mate p k ≡ some m → (has m done ≡ true) ⊎ (has m done ≡ false) → given_back p done k ≡ true
        closed' m q (inl b) = given_back_lem p done k m q b
        closed' m q (inr b) =
            clash (closes_held p m) (held_closes p k m e q)
            (any_none (closes_held p) (undone p done) no_open m (undone_has p done m (pair p k m q).in_plan b))

        go : (o : Option ℕ) → mate p k ≡ o
            → (given_back p done k ≡ true) ⊎ ((x : ℕ) → x < length p → has x done ≡ false → takes p x d ≡ false)
        go none q = inr (untaken k d e g q)
        go (some m) q = inl (closed' m q (test (has m done)))
