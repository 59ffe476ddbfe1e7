-- The lines that stand next, from line to line: line 1 at the start; once a line is done, those that stood but it, the
-- next line of its job and the first line of the job that it starts. No two of them have one place, if no device has
-- two lasting takes. If the job goes on, its next line is the lowest that can go on, and all the others are at their
-- places.
use Rattle.std.proofs.Common.{◌≡◌, ℕ, suc, ◌+◌, ◌-◌, ◌<◌, ◌≤◌, Bool, true, false, cond, not, ◌&&◌, List, [], ◌∷◌, ◌++◌}
use Rattle.std.proofs.Common.{◌⊎◌, inl, inr, ◌≢◌, refl, sym, ◌∙◌, ap, arith, eqb, ltb, length, get_or, eqb-true, eq-eqb}
use Rattle.std.proofs.Common.{ltb-true, lt-ltb}
use borrow.Author.Tests.{eqb-false, not-true}
use Rattle.model.specs.Lists.{has}
use Rattle.model.specs.Line.{job, kind, operand, is_start, starts, at, has_lines, max_job}
use Rattle.model.specs.Mate.{device_at, lasting_at}
use Rattle.model.specs.WellFormed.{WellFormed}
use Rattle.model.specs.Legal.{precedes}
use Rattle.model.specs.Board.{devices, board}
use Rattle.theory.proofs.Tests.{clash, test, falsely, and_split, and_both, le_or_lt}
use Rattle.theory.proofs.Line.{start_parts, start_of, start_operand, line_parts}
use Rattle.theory.proofs.WellFormed.{any_line, start_line}
use Rattle.theory.proofs.Successors.{earlier_precedes, start_precedes, Why, same_job, starter, why}
use Rattle.theory.proofs.Successors.{jobs_grow, precedes_reaches}
use Rattle.theory.specs.Verdict.{LastsTwice}
use Rattle.theory.proofs.Places.{lasting_parts, lasting_keeps}
use Rattle.theory.proofs.Claims.{outermost}
use Rattle.rows.proofs.Counted.{lasting_takes_lem, taken_operand}
use Rattle.theory.proofs.Progress.{lasting_own, device_below}
use Rattle.theory.proofs.LineByLine.{Stands, LowestIs, stood, more_old, more_only, more_not, not_more}
use Rattle.plan.specs.Jobs.{first_lines}
use Rattle.plan.proofs.Firsts.{first_listed}
use Rattle.verdict.specs.Waiting.{all_places, place_at, followed, goes_on, lasting_after, started_line}
use Rattle.verdict.proofs.Places.{Comes}

-- ---- the lines that a line lets stand next

pub followed_parts : (p : List ℕ) (x : ℕ) → followed p x ≡ true
    → (suc x < length p) × (job (at p (suc x)) ≡ job (at p x))
unfolding followed
followed_parts p x e =
    let r = and_split (ltb (suc x) (length p)) (eqb (job (at p (suc x))) (job (at p x))) e in
    (ltb-true (suc x) (length p) r.0, eqb-true (job (at p (suc x))) (job (at p x)) r.1)

-- the line at which a job goes on
pub goes_at : (p : List ℕ) (x : ℕ) → goes_on p x ≡ true → (followed p x ≡ true) × (lasting_at p (suc x) ≡ false)
unfolding goes_on
goes_at p x e =
    let r = and_split (followed p x) (not (lasting_at p (suc x))) e in (r.0, not-true (lasting_at p (suc x)) r.1)

-- the lasting take that comes
lasting_at_lem : (p : List ℕ) (x : ℕ) → lasting_after p x < length p
    → (lasting_after p x ≡ suc x) × (followed p x ≡ true) × (lasting_at p (suc x) ≡ true)
unfolding lasting_after
lasting_at_lem p x h = go (followed p x && lasting_at p (suc x)) refl h
  where
    go : (b : Bool) → (followed p x && lasting_at p (suc x)) ≡ b → cond b (suc x) (length p) < length p
        → (cond b (suc x) (length p) ≡ suc x) × (followed p x ≡ true) × (lasting_at p (suc x) ≡ true)
    go true e l = let r = and_split (followed p x) (lasting_at p (suc x)) e in (refl, r.0, r.1)
    go false e l = absurd (omega arith)

-- ---- the first line of a job

-- line x starts the job of line i, which is its first line
pub record Begun (p : List ℕ) (x i : ℕ) : Type 0 where
  pub line : i < length p
  pub start : starts (at p x) (job (at p i)) ≡ true
  pub lowest : (k : ℕ) → k < length p → job (at p k) ≡ job (at p i) → i ≤ k

-- what the list of first lines says of a start
pub record Starts (p : List ℕ) (x : ℕ) : Type 0 where
  pub a_job : operand (at p x) ≤ max_job
  pub listed : get_or (first_lines p) (operand (at p x)) 0 ≡ suc (started_line p x)
  pub begun : Begun p x (started_line p x)

pub the_start : {p : List ℕ} → WellFormed board p → (x : ℕ) → is_start (at p x) ≡ true → Starts p x
unfolding started_line is_start has_lines
the_start {p} w x e =
    let f = first_listed p j k.0 small k.1 (eqb-true (job (at p k.0)) j k.2) in
    let z : started_line p x ≡ f.line = rw (e, f.number) (omega arith) in record {
      a_job = small;
      listed = rw z f.number;
      begun = rw z (record {
        line = f.in_plan;
        start = rw f.of_job s;
        lowest = λ i l q. f.lowest i l (q ∙ f.of_job);
      });
    }
  where
    j : ℕ
    j = operand (at p x)

    s : starts (at p x) j ≡ true
    s = start_of (at p x) e

    k : (k : ℕ) × (k < length p) × (eqb (job (at p k)) j ≡ true)
    k = any_line (λ l. eqb (job l) j) p (w.rules.start_has_lines x j s)

    small : j ≤ max_job
    small = start_operand board (at p x) (w.lines x (start_line p x j s)) (eqb-true (kind (at p x)) 3 e)

started_at : {p : List ℕ} → WellFormed board p → (x : ℕ) → started_line p x < length p → Begun p x (started_line p x)
unfolding started_line
started_at {p} w x h = go (test (is_start (at p x)))
  where
    go : (is_start (at p x) ≡ true) ⊎ (is_start (at p x) ≡ false) → Begun p x (started_line p x)
    go (inl e) = (the_start w x e).begun
    go (inr e) = absurd (omega (arith, rw e at h))

-- ---- places

module _ (p : List ℕ) (i : ℕ) where
  pub place_lasting : lasting_at p i ≡ true → place_at p i ≡ max_job + device_at p i
  unfolding place_at
  place_lasting e = rw (e, taken_operand p i (outermost p i (lasting_takes_lem p i e)).0)

  pub place_job : lasting_at p i ≡ false → place_at p i ≡ job (at p i) - 1
  unfolding place_at
  place_job e = rw e

-- whatever has to come before a line done is done
abbrev pub Closed : List ℕ → List ℕ → Type 0
Closed p done = (k i : ℕ) → k < length p → has i done ≡ true → precedes p k i ≡ true → has k done ≡ true

-- the lines that stand next, but line i where its job goes on
abbrev pub Beside : List ℕ → List ℕ → Bool → ℕ → ℕ → Type 0
Beside p done on i k = Stands p done k × (on ≡ true → k ≢ i)

-- of two lines of one job the lower does not stand
pub not_above : {p done : List ℕ} {i k : ℕ} → Stands p done i → Stands p done k → job (at p i) ≡ job (at p k) → i < k
    → ⊥
not_above {p} {done} {i} {k} s t e l =
    clash (precedes p i k) (earlier_precedes p i k l e) (t.first i s.line s.waiting)

module _ {p : List ℕ} (w : WellFormed board p) where
  pub job_fits : (i : ℕ) → i < length p → (1 ≤ job (at p i)) × (job (at p i) ≤ max_job)
  job_fits i h = let r = line_parts board (at p i) (w.lines i h) in (r.0, r.1)

  pub lasting_below : (i : ℕ) → lasting_at p i ≡ true → device_at p i < devices
  lasting_below i e =
      device_below board p w i (device_at p i) (lasting_parts p i (device_at p i) (lasting_own p i e)).0

  pub place_below : (i : ℕ) → i < length p → place_at p i < all_places
  place_below i h = go (test (lasting_at p i))
    where
      go : (lasting_at p i ≡ true) ⊎ (lasting_at p i ≡ false) → place_at p i < all_places
      go (inl e) = omega (arith, place_lasting p i e, lasting_below i e)
      go (inr e) = omega (arith, place_job p i e, (job_fits i h).1)

  -- no two lines that stand have one place
  pub apart : ((d : ℕ) → LastsTwice p d → ⊥) → {done : List ℕ} (i k : ℕ) → Stands p done i → Stands p done k
      → place_at p i ≡ place_at p k → i ≡ k
  apart no_two i k s t e = go (test (lasting_at p i)) (test (lasting_at p k))
    where
      fits : (1 ≤ job (at p i)) × (job (at p i) ≤ max_job)
      fits = job_fits i s.line

      fits_k : (1 ≤ job (at p k)) × (job (at p k) ≤ max_job)
      fits_k = job_fits k t.line

      two : lasting_at p i ≡ true → lasting_at p k ≡ true → (eqb i k ≡ true) ⊎ (eqb i k ≡ false) → i ≡ k
      two a b (inl q) = eqb-true i k q
      two a b (inr q) =
          let same : device_at p i ≡ device_at p k = omega (arith, e, place_lasting p i a, place_lasting p k b) in
          absurd
          (no_two (device_at p k)
          (record {
            i = i;
            k = k;
            apart = eqb-false i k q;
            i_lasts = lasting_keeps p i (device_at p k) (rw same at (lasting_own p i a));
            k_lasts = lasting_keeps p k (device_at p k) (lasting_own p k b);
          }))

      one : job (at p i) ≡ job (at p k) → (i ≤ k) ⊎ (k < i) → (k ≤ i) ⊎ (i < k) → i ≡ k
      one q (inr l) m = absurd (not_above t s (sym q) l)
      one q (inl l) (inr m) = absurd (not_above s t q m)
      one q (inl l) (inl m) = omega arith

      go : (lasting_at p i ≡ true) ⊎ (lasting_at p i ≡ false) → (lasting_at p k ≡ true) ⊎ (lasting_at p k ≡ false)
          → i ≡ k
      go (inl a) (inl b) = two a b (test (eqb i k))
      go (inl a) (inr b) = absurd (omega (arith, e, place_lasting p i a, place_job p k b, fits_k.1, fits_k.0))
      go (inr a) (inl b) = absurd (omega (arith, e, place_job p i a, place_lasting p k b, fits.1, fits.0))
      go (inr a) (inr b) =
          one (omega (arith, e, place_job p i a, place_job p k b, fits.0, fits_k.0)) (le_or_lt i k) (le_or_lt k i)

  -- ---- at the start

  pub first_stands : 0 < length p → Stands p [] 0
  unfolding has
  first_stands h = record {
    line = h;
    waiting = refl;
    first = λ k l e. falsely (precedes p k 0) (λ b. omega (arith, (precedes_reaches p w.rules k 0 l h b).0));
  }

  pub stands_first : (i : ℕ) → Stands p [] i → i ≡ 0
  unfolding has
  stands_first i s = go (test (eqb i 0)) (test (eqb (job (at p i)) 1))
    where
      nonempty : 0 < length p
      nonempty = omega (arith, s.line)

      go : (eqb i 0 ≡ true) ⊎ (eqb i 0 ≡ false) → (eqb (job (at p i)) 1 ≡ true) ⊎ (eqb (job (at p i)) 1 ≡ false)
          → i ≡ 0
      go (inl q) c = eqb-true i 0 q
      go (inr q) (inl c) =
          let n = eqb-false i 0 q in
          clash (precedes p 0 i)
          (earlier_precedes p 0 i (omega (arith, n)) (w.rules.first nonempty ∙ sym (eqb-true (job (at p i)) 1 c)))
          (s.first 0 nonempty refl)
      go (inr q) (inr c) =
          let r = any_line (λ l. starts l (job (at p i))) p
          (w.started refl i s.line (eqb-false (job (at p i)) 1 c)) in
          clash (precedes p r.0 i) (start_precedes p r.0 i r.2) (s.first r.0 r.1 refl)

  -- ---- a line is done

  module _ {done : List ℕ} (closed : Closed p done) {x : ℕ} (here : Stands p done x) where
    pub closed_on : Closed p (done ++ (x ∷ []))
    closed_on k i l h b = go (more_only i x done h)
      where
        must : precedes p k x ≡ true → (has k done ≡ true) ⊎ (has k done ≡ false) → has k (done ++ (x ∷ [])) ≡ true
        must b (inl e) = more_old k x done e
        must b (inr e) = clash (precedes p k x) b (here.first k l e)

        go : (has i done ≡ true) ⊎ (i ≡ x) → has k (done ++ (x ∷ [])) ≡ true
        go (inl e) = more_old k x done (closed k i l e b)
        go (inr q) = must (rw q at b) (test (has k done))

    -- what line x precedes is not done
    later_undone : (i : ℕ) → precedes p x i ≡ true → i ≢ x → has i (done ++ (x ∷ [])) ≡ false
    later_undone i b n =
        not_more i x done
        (falsely (has i done) (λ e. clash (has x done) (closed x i here.line e b) here.waiting)) n

    -- a line stands now if every line that has to precede it, but line x, had to precede a line that stood
    stands_now : (i : ℕ) → i < length p → precedes p x i ≡ true → i ≢ x
        → ((k : ℕ) → k < length p → has k done ≡ false → k ≢ x → Why p k i → ⊥) → Stands p (done ++ (x ∷ [])) i
    stands_now i l b n free = record {
      line = l;
      waiting = later_undone i b n;
      first = λ k m u. falsely (precedes p k i)
          (λ a. let r = more_not k x done u in free k m r.0 r.1 (why p k i a));
    }

    -- the lines that stood, but line x
    abbrev pub Stayed : ℕ → Type 0
    Stayed i = Stands p done i × (i ≢ x)

    pub stayed_stands : (i : ℕ) → Stayed i → Stands p (done ++ (x ∷ [])) i
    stayed_stands i s = record {
      line = s.0.line;
      waiting = not_more i x done s.0.waiting s.1;
      first = λ k l e. s.0.first k l (more_not k x done e).0;
    }

    next_precedes : followed p x ≡ true → precedes p x (suc x) ≡ true
    next_precedes e = earlier_precedes p x (suc x) (omega arith) (sym (followed_parts p x e).1)

    pub next_stands : followed p x ≡ true → Stands p (done ++ (x ∷ [])) (suc x)
    next_stands e =
        stands_now (suc x) (followed_parts p x e).0 (next_precedes e) (λ q. omega arith)
        (λ k l u n y. clash (precedes p k x) (before k n y) (here.first k l u))
      where
        before : (k : ℕ) → k ≢ x → Why p k (suc x) → precedes p k x ≡ true
        before k n (same_job lt q) = earlier_precedes p k x (omega (arith, n)) (q ∙ (followed_parts p x e).1)
        before k n (starter a) = start_precedes p k x (rw (followed_parts p x e).1 at a)

    started_higher : (i : ℕ) → starts (at p x) (job (at p i)) ≡ true → i ≢ x
    started_higher i a q = omega (arith, w.rules.start_higher x (job (at p i)) a, ap (λ (n : ℕ). job (at p n)) q)

    pub started_stands : started_line p x < length p → Stands p (done ++ (x ∷ [])) (started_line p x)
    started_stands h =
        let b = started_at w x h in
        stands_now i b.line (start_precedes p x i b.start) (started_higher i b.start) (no b)
      where
        i : ℕ
        i = started_line p x

        no : Begun p x i → (k : ℕ) → k < length p → has k done ≡ false → k ≢ x → Why p k i → ⊥
        no b k l u n (same_job lt q) = omega (arith, b.lowest k l q)
        no b k l u n (starter a) = once (le_or_lt k x)
          where
            once : (k ≤ x) ⊎ (x < k) → ⊥
            once (inl c) =
                clash (starts (at p k) (job (at p i))) a
                (w.rules.start_once x k (job (at p i)) (omega (arith, n)) b.start)
            once (inr c) =
                clash (starts (at p x) (job (at p i))) b.start (w.rules.start_once k x (job (at p i)) c a)

    -- The lines that stand now are these.
    data Now (i : ℕ) : Type 0 where
      stayed : Stayed i → Now i
      next : i ≡ suc x → followed p x ≡ true → Now i
      started : Comes p (started_line p x) i → Now i

    who_stands : (i : ℕ) → Stands p (done ++ (x ∷ [])) i → Now i
    unfolding followed
    who_stands i s = go (test (precedes p x i))
      where
        following : x < i → job (at p x) ≡ job (at p i) → (eqb i (suc x) ≡ true) ⊎ (eqb i (suc x) ≡ false) → Now i
        following lt e (inl q) =
            let z = eqb-true i (suc x) q in
            next z (and_both (ltb (suc x) (length p)) (eqb (job (at p (suc x))) (job (at p x)))
            (lt-ltb (suc x) (length p) (omega (arith, s.line)))
            (eq-eqb (job (at p (suc x))) (job (at p x)) (rw z at (sym e))))
        following lt e (inr q) =
            let n = eqb-false i (suc x) q in
            let between : job (at p (suc x)) ≡ job (at p i) = omega (
              arith,
              e,
              jobs_grow p w.rules x (suc x) (omega arith) (omega (arith, s.line, n)),
              jobs_grow p w.rules (suc x) i (omega (arith, n)) s.line,
            ) in
            clash (precedes p (suc x) i) (earlier_precedes p (suc x) i (omega (arith, n)) between)
            (s.first (suc x) (omega (arith, s.line, n))
            (later_undone (suc x) (earlier_precedes p x (suc x) (omega arith) (e ∙ sym between)) (λ y. omega arith)))

        begins : starts (at p x) (job (at p i)) ≡ true → Begun p x (started_line p x) → Now i
        begins a b = at_first (test (eqb i f))
          where
            f : ℕ
            f = started_line p x

            same : job (at p f) ≡ job (at p i)
            same = sym (start_parts (at p x) (job (at p f)) b.start).1 ∙ (start_parts (at p x) (job (at p i)) a).1

            at_first : (eqb i f ≡ true) ⊎ (eqb i f ≡ false) → Now i
            at_first (inl q) = started (eqb-true i f q, b.line)
            at_first (inr q) =
                let n = eqb-false i f q in
                clash (precedes p f i)
                (earlier_precedes p f i (omega (arith, n, b.lowest i s.line (sym same))) same)
                (s.first f b.line (later_undone f (start_precedes p x f b.start) (started_higher f b.start)))

        reason : Why p x i → Now i
        reason (same_job lt e) = following lt e (test (eqb i (suc x)))
        reason (starter a) = begins a (the_start w x (start_parts (at p x) (job (at p i)) a).0).begun

        go : (precedes p x i ≡ true) ⊎ (precedes p x i ≡ false) → Now i
        go (inl b) = reason (why p x i b)
        go (inr b) = stayed (stood p done x i s b, (more_not i x done s.waiting).1)

    -- ---- a job that goes on

    -- stays the lowest that can go on
    pub lower_still : LowestIs p done x → LowestIs p (done ++ (x ∷ [])) (suc x)
    lower_still low i s e = go (test (precedes p x i))
      where
        go : (precedes p x i ≡ true) ⊎ (precedes p x i ≡ false) → suc x ≤ i
        go (inl b) = omega (arith, (precedes_reaches p w.rules x i here.line s.line b).0)
        go (inr b) =
            let n = (more_not i x done s.waiting).1 in omega (arith, n, low i (stood p done x i s b) e)

    -- The lines that stand now, but the one at which the job goes on, are those that stayed or came to their places.
    pub beside_placed : (i : ℕ) → Beside p (done ++ (x ∷ [])) (goes_on p x) (suc x) i
        → (Stayed i ⊎ Comes p (lasting_after p x) i) ⊎ Comes p (started_line p x) i
    unfolding goes_on lasting_after
    beside_placed i b = go (who_stands i b.0)
      where
        comes : i ≡ suc x → followed p x ≡ true → (lasting_at p (suc x) ≡ true) ⊎ (lasting_at p (suc x) ≡ false)
            → Comes p (lasting_after p x) i
        comes q e (inl l) = rw (e, l) (q, (followed_parts p x e).0)
        comes q e (inr l) = absurd (b.1 (rw (e, l)) q)

        go : Now i → (Stayed i ⊎ Comes p (lasting_after p x) i) ⊎ Comes p (started_line p x) i
        go (stayed s) = inl (inl s)
        go (next q e) = inl (inr (comes q e (test (lasting_at p (suc x)))))
        go (started h) = inr h

    pub lasting_stands : lasting_after p x < length p → Stands p (done ++ (x ∷ [])) (lasting_after p x)
    lasting_stands h = let r = lasting_at_lem p x h in rw r.0 (next_stands r.1)

    pub placed_beside : (i : ℕ) → (Stayed i ⊎ Comes p (lasting_after p x) i) ⊎ Comes p (started_line p x) i
        → Beside p (done ++ (x ∷ [])) (goes_on p x) (suc x) i
    placed_beside i (inl (inl s)) = (
      stayed_stands i s,
      λ e q. clash (precedes p x (suc x)) (next_precedes (goes_at p x e).0)
          ((rw q at s.0).first x here.line here.waiting),
    )
    placed_beside i (inl (inr c)) = (
      rw c.0 (lasting_stands c.1),
      λ e q. clash (lasting_at p (suc x)) (lasting_at_lem p x c.1).2 (goes_at p x e).1,
    )
    placed_beside i (inr c) = (
      rw c.0 (started_stands c.1),
      λ e q. omega (
        arith,
        w.rules.start_higher x (job (at p (started_line p x))) (started_at w x c.1).start,
        (followed_parts p x (goes_at p x e).0).1,
        ap (λ (n : ℕ). job (at p n)) (sym q ∙ c.0),
      ),
    )
