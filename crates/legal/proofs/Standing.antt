-- What the list of next lines says (02, request 1): a job stands at a line exactly if the line is undone and all that
-- has to come before it is done. This holds with nothing done, and after a line is done.
use Prim.Native.Nat.{ℕ, suc, ◌-◌, ◌<◌, ◌≤◌}
use mathlib.Core.Bool.{Bool, true, false, cond}
use mathlib.Core.List.{List, [], ◌∷◌, ◌++◌}
use mathlib.Core.Logic.{◌⊎◌, inl, inr, ◌≢◌}
use mathlib.Core.Option.{Option, none, some}
use mathlib.Core.Path.{◌≡◌, refl, sym, ◌∙◌, ap, ap₂}
use native.Mathlib.Omega.{arith}
use lib.Dec.{eqb, ltb}
use lib.ListN.{length, get_or, set, length-set}
use lib.Seq.{get_or-set_same, get_or-set_other}
use borrow.Author.Tests.{eqb-true, eqb-false, ne_eqb, lt-ltb, le-ltb}
use Rattle.model.specs.Lists.{has, positions, first_of}
use Rattle.model.specs.Line.{Settings, job, starts, at, line_number, max_job}
use Rattle.model.specs.WellFormed.{WellFormed}
use Rattle.model.specs.Legal.{precedes}
use Rattle.theory.proofs.Tests.{clash, falsely, test, le_or_lt}
use Rattle.theory.proofs.Line.{line_parts}
use Rattle.theory.proofs.Lists.{Answer, first_answer, position_has}
use Rattle.theory.proofs.Claims.{get_or_up_from}
use Rattle.theory.proofs.WellFormed.{start_line}
use Rattle.theory.proofs.Successors.{earlier_precedes, start_precedes, Why, same_job, starter, why, jobs_grow}
use Rattle.theory.proofs.LineByLine.{more_old, more_new, has_other, not_more, more_only}
use Rattle.plan.specs.Jobs.{first_lines, starters, number_of_found}
use Rattle.plan.proofs.Firsts.{Listed, first_listed}
use Rattle.legal.specs.Begun.{Standing, Running}
use Rattle.legal.specs.Steps.{started_by, passed}
use Rattle.legal.proofs.Entries.{started_small, starts_it, starts_no_other}

-- ---- the list of starters

-- what it says of job j: no line starts it, or one does
data StartListed (p : List ℕ) (j : ℕ) : Type 0 where
  nowhere : get_or (starters p) j 0 ≡ 0 → ((k : ℕ) → starts (at p k) j ≡ false) → StartListed p j
  somewhere : (k : ℕ) → get_or (starters p) j 0 ≡ suc k → starts (at p k) j ≡ true → StartListed p j

started_listed : (p : List ℕ) (j : ℕ) → j ≤ max_job → StartListed p j
unfolding starters number_of_found line_number
started_listed p j h = go (first_of (its j) (positions p)) listed (first_answer (its j) (positions p))
  where
    its : ℕ → ℕ → Bool
    its j i = starts (at p i) j

    listed : get_or (starters p) j 0 ≡ number_of_found (first_of (its j) (positions p))
    listed = get_or_up_from (λ j. number_of_found (first_of (its j) (positions p))) 0 (suc max_job) j (omega arith)
        ∙ ap (λ (i : ℕ). number_of_found (first_of (its i) (positions p))) (omega arith)

    go : (o : Option ℕ) → get_or (starters p) j 0 ≡ number_of_found o → Answer (its j) (positions p) o → StartListed p j
    go none e a =
        nowhere e
        (λ k. falsely (starts (at p k) j)
        (λ t. clash (starts (at p k) j) t (a k (position_has p k (start_line p k j t)))))
    go (some k) e a = somewhere k e a.1

-- where the job of line i stands with nothing done
data Stood (p next : List ℕ) (i : ℕ) : Type 0 where
  runs : ((k : ℕ) → starts (at p k) (job (at p i)) ≡ false)
      → get_or next (job (at p i)) 0 ≡ get_or (first_lines p) (job (at p i)) 0 → Stood p next i
  waits : (k : ℕ) → starts (at p k) (job (at p i)) ≡ true → get_or next (job (at p i)) 0 ≡ 0 → Stood p next i

module _ {S : Settings} {p : List ℕ} (w : WellFormed S p) where
  from_1 : (i : ℕ) → i < length p → 1 ≤ job (at p i)
  from_1 i h = (line_parts S (at p i) (w.lines i h)).0

  job_small : (i : ℕ) → i < length p → job (at p i) ≤ max_job
  job_small i h = (line_parts S (at p i) (w.lines i h)).1

  -- ---- with nothing done

  -- The list says that no line is done, and that a job stands at its first line exactly if no line starts it.
  pub stands_running : {first starter next : List ℕ} → first ≡ first_lines p → starter ≡ starters p
      → Running first starter next → Standing p [] next
  unfolding has
  stands_running {first} {starter} {next} a b r = record {
    long = r.long;
    past = λ i h. sym (le-ltb (suc i) (get_or next (job (at p i)) 0) (low i h (stood i h)));
    started = λ i k h l t. absurd (unstarted i k h l t (stood i h));
    stands = λ i h f. stands' i h (λ k t. clash false (f k t) refl) (stood i h);
  }
    where
      stood : (i : ℕ) → i < length p → Stood p next i
      stood i h = go (started_listed p j (job_small i h))
        where
          j : ℕ
          j = job (at p i)

          its : get_or next j 0 ≡ cond (eqb (get_or (starters p) j 0) 0) (get_or (first_lines p) j 0) 0
          its = r.each j (job_small i h)
              ∙ ap₂ (λ (f s : List ℕ). cond (eqb (get_or s j 0) 0) (get_or f j 0) 0) a b

          go : StartListed p j → Stood p next i
          go (nowhere z n) = runs n (its ∙ rw z)
          go (somewhere k z t) = waits k t (its ∙ rw (z, ne_eqb (suc k) 0 (λ q. omega arith)))

      first_of' : (i : ℕ) → i < length p → Listed p (job (at p i))
      first_of' i h = first_listed p (job (at p i)) i (job_small i h) h refl

      low : (i : ℕ) → i < length p → Stood p next i → get_or next (job (at p i)) 0 ≤ suc i
      low i h (runs n e) = let f = first_of' i h in omega (arith, e, f.number, f.lowest i h refl)
      low i h (waits k t e) = omega (arith, e)

      unstarted : (i k : ℕ) → i < length p → 1 ≤ get_or next (job (at p i)) 0 → starts (at p k) (job (at p i)) ≡ true
          → Stood p next i → ⊥
      unstarted i k h l t (runs n e) = clash (starts (at p k) (job (at p i))) t (n k)
      unstarted i k h l t (waits m u e) = omega (arith, e)

      stands' : (i : ℕ) → i < length p → ((k : ℕ) → starts (at p k) (job (at p i)) ≡ true → ⊥) → Stood p next i
          → (f : ℕ) × (job (at p f) ≡ job (at p i)) × (f < get_or next (job (at p i)) 0)
      stands' i h f (runs n e) = let g = first_of' i h in (g.line, g.of_job, omega (arith, e, g.number))
      stands' i h f (waits k t e) = absurd (f k t)

  module _ {done next : List ℕ} (s : Standing p done next) where
    -- the number of the line at which the job of line i stands
    abbrev stands_at : ℕ → ℕ
    stands_at i = get_or next (job (at p i)) 0

    same_stand : (i k : ℕ) → job (at p i) ≡ job (at p k) → stands_at i ≡ stands_at k
    same_stand i k q = ap (λ (j : ℕ). get_or next j 0) q

    is_done_lem : (i : ℕ) → i < length p → suc i < stands_at i → has i done ≡ true
    is_done_lem i h l = s.past i h ∙ lt-ltb (suc i) (stands_at i) l

    undone : (i : ℕ) → i < length p → stands_at i ≤ suc i → has i done ≡ false
    undone i h l = s.past i h ∙ le-ltb (suc i) (stands_at i) l

    module _ {x : ℕ} (line : x < length p) where
      -- ---- the line at which a job stands

      -- it is undone, and all that has to come before it is done
      pub ready : stands_at x ≡ suc x
          → (has x done ≡ false) × ((k : ℕ) → k < length p → precedes p k x ≡ true → has k done ≡ true)
      ready e = (undone x line (omega arith), λ k h b. before k h (why p k x b))
        where
          before : (k : ℕ) → k < length p → Why p k x → has k done ≡ true
          before k h (same_job lt q) = is_done_lem k h (omega (arith, same_stand k x q))
          before k h (starter a) = s.started x k line (omega arith) a

      -- and a job stands at such a line
      pub ready_stands : has x done ≡ false
          → ((k : ℕ) → k < length p → precedes p k x ≡ true → has k done ≡ true) → stands_at x ≡ suc x
      ready_stands un after = go (le_or_lt (stands_at x) x) (le_or_lt (stands_at x) (suc x))
        where
          f : (f : ℕ) × (job (at p f) ≡ job (at p x)) × (f < stands_at x)
          f = s.stands x line (λ k a. after k (start_line p k (job (at p x)) a) (start_precedes p k x a))

          -- the line at which it stands, were it higher up, would be done
          higher : stands_at x ≤ x → ⊥
          higher l =
              let k = stands_at x - 1 in
              let below : k < x = omega (arith, f.2) in
              let same : job (at p k) ≡ job (at p x) = omega (
                arith,
                f.1,
                jobs_grow p w.rules f.0 k (omega (arith, f.2)) (omega arith),
                jobs_grow p w.rules k x (omega arith) line,
              ) in
              clash (has k done) (after k (omega arith) (earlier_precedes p k x below same))
              (undone k (omega arith) (omega (arith, f.2, same_stand k x same)))

          go : (stands_at x ≤ x) ⊎ (x < stands_at x) → (stands_at x ≤ suc x) ⊎ (suc x < stands_at x)
              → stands_at x ≡ suc x
          go (inl l) m = absurd (higher l)
          go (inr l) (inl m) = omega arith
          go (inr l) (inr m) = clash (has x done) (is_done_lem x line m) un

      -- ---- a line is done

      module _ (here : stands_at x ≡ suc x) where
        -- the later lines of its job are undone
        pub later_undone : (i : ℕ) → i < length p → x < i → job (at p x) ≡ job (at p i) → has i done ≡ false
        later_undone i h lt q = undone i h (omega (arith, same_stand x i q))

        abbrev more : List ℕ
        more = done ++ (x ∷ [])

        abbrev first : List ℕ
        first = first_lines p

        abbrev after : List ℕ
        after = passed next first (at p x) (suc x)

        -- where the job of line i stands now: it begins, goes on, or stands where it stood
        data Now (i : ℕ) : Type 0 where
          begins : starts (at p x) (job (at p i)) ≡ true → get_or after (job (at p i)) 0 ≡ get_or first (job (at p i)) 0
              → Now i
          goes_on : job (at p i) ≡ job (at p x) → get_or after (job (at p i)) 0 ≡ suc (suc x) → Now i
          stays : (job (at p i) ≡ job (at p x) → ⊥) → starts (at p x) (job (at p i)) ≡ false
              → get_or after (job (at p i)) 0 ≡ stands_at i → Now i

        now_stands : (i : ℕ) → i < length p → Now i
        unfolding passed
        now_stands i h = go (test (starts (at p x) j)) (test (eqb j (job (at p x))))
          where
            j : ℕ
            j = job (at p i)

            l : ℕ
            l = at p x

            -- the list with the job's next line, and the number that is stored last
            one : List ℕ
            one = set next (job l) (suc (suc x))

            last : ℕ
            last = get_or first (started_by l) 0

            of_line : job l < length next
            of_line = omega (arith, job_small x line, s.long)

            of_start_lem : started_by l < length one
            of_start_lem =
                omega (arith, started_small S l (w.lines x line), s.long, length-set next (job l) (suc (suc x)))

            other : starts l j ≡ false → (j ≡ started_by l → ⊥)
            other a q = starts_no_other l j a (from_1 i h) q

            go : (starts l j ≡ true) ⊎ (starts l j ≡ false) → (eqb j (job l) ≡ true) ⊎ (eqb j (job l) ≡ false) → Now i
            go (inl a) c =
                begins a
                (rw (starts_it l j a) (get_or-set_same one (started_by l) last 0 of_start_lem))
            go (inr a) (inl c) =
                let z = eqb-true j (job l) c in
                goes_on z
                (get_or-set_other one (started_by l) j last 0 (other a)
                ∙ rw z (get_or-set_same next (job l) (suc (suc x)) 0 of_line))
            go (inr a) (inr c) =
                let n = eqb-false j (job l) c in
                stays n a
                (get_or-set_other one (started_by l) j last 0 (other a)
                ∙ get_or-set_other next (job l) j (suc (suc x)) 0 n)

        -- the first line of the job that begins
        first_of_lem : (i : ℕ) → i < length p → Listed p (job (at p i))
        first_of_lem i h = first_listed p (job (at p i)) i (job_small i h) h refl

        -- a job that line x starts did not stand anywhere
        unbegun : (i : ℕ) → i < length p → starts (at p x) (job (at p i)) ≡ true → has i more ≡ false
        unbegun i h a =
            not_more i x done (undone i h (low (le_or_lt (stands_at i) 0)))
            (λ q. omega (arith, w.rules.start_higher x (job (at p i)) a, ap (λ (k : ℕ). job (at p k)) q))
          where
            low : (stands_at i ≤ 0) ⊎ (0 < stands_at i) → stands_at i ≤ suc i
            low (inl l) = omega arith
            low (inr l) =
                clash (has x done) (s.started i x h (omega arith) a) (undone x line (omega arith))

        past_on : (i : ℕ) → i < length p → Now i → has i more ≡ ltb (suc i) (get_or after (job (at p i)) 0)
        past_on i h (begins a e) =
            let f = first_of_lem i h in
            unbegun i h a
            ∙ sym (le-ltb (suc i) (get_or after (job (at p i)) 0) (omega (arith, e, f.number, f.lowest i h refl)))
        past_on i h (goes_on q e) = rw e (go (test (eqb i x)))
          where
            go : (eqb i x ≡ true) ⊎ (eqb i x ≡ false) → has i more ≡ ltb (suc i) (suc (suc x))
            go (inl z) =
                let y = eqb-true i x z in
                rw y (more_new x done) ∙ sym (lt-ltb (suc i) (suc (suc x)) (omega arith))
            go (inr z) = let n = eqb-false i x z in sym (has_other i x done n) ∙ order n (le_or_lt (suc x) i)
              where
                order : i ≢ x → (suc x ≤ i) ⊎ (i < suc x) → has i done ≡ ltb (suc i) (suc (suc x))
                order n (inl l) =
                    undone i h (omega (arith, same_stand i x q)) ∙ sym (le-ltb (suc i) (suc (suc x)) (omega arith))
                order n (inr l) =
                    is_done_lem i h (omega (arith, same_stand i x q)) ∙ sym (lt-ltb (suc i) (suc (suc x)) (omega arith))
        past_on i h (stays n a e) =
            rw e (sym (has_other i x done (λ q. n (ap (λ (k : ℕ). job (at p k)) q))) ∙ s.past i h)

        -- a job is started once
        one_start : (i k : ℕ) → starts (at p x) (job (at p i)) ≡ true → starts (at p k) (job (at p i)) ≡ true → k ≡ x
        one_start i k a b = go (le_or_lt k x) (le_or_lt x k)
          where
            go : (k ≤ x) ⊎ (x < k) → (x ≤ k) ⊎ (k < x) → k ≡ x
            go (inl l) (inl m) = omega arith
            go (inr l) m = clash (starts (at p x) (job (at p i))) a (w.rules.start_once k x (job (at p i)) l b)
            go (inl l) (inr m) = clash (starts (at p k) (job (at p i))) b (w.rules.start_once x k (job (at p i)) m a)

        started_on : (i k : ℕ) → i < length p → 1 ≤ get_or after (job (at p i)) 0
            → starts (at p k) (job (at p i)) ≡ true
            → Now i → has k more ≡ true
        started_on i k h l b (begins a e) = rw (one_start i k a b) (more_new x done)
        started_on i k h l b (goes_on q e) = more_old k x done (s.started x k line (omega arith) (rw q at b))
        started_on i k h l b (stays n a e) = more_old k x done (s.started i k h (omega arith) b)

        stands_on' : (i : ℕ) → i < length p → ((k : ℕ) → starts (at p k) (job (at p i)) ≡ true → has k more ≡ true)
            → Now i → (f : ℕ) × (job (at p f) ≡ job (at p i)) × (f < get_or after (job (at p i)) 0)
        stands_on' i h g (begins a e) = let f = first_of_lem i h in (f.line, f.of_job, omega (arith, e, f.number))
        stands_on' i h g (goes_on q e) = (x, sym q, omega arith)
        stands_on' i h g (stays n a e) = rw e (s.stands i h (λ k b. go k b (more_only k x done (g k b))))
          where
            go : (k : ℕ) → starts (at p k) (job (at p i)) ≡ true → (has k done ≡ true) ⊎ (k ≡ x) → has k done ≡ true
            go k b (inl d) = d
            go k b (inr q) = clash (starts (at p x) (job (at p i))) (rw q at b) a

        long_on : length after ≡ suc max_job
        unfolding passed
        long_on = simp length-set s.long

        -- The list says the same of the lines done and this one.
        pub stands_on : Standing p more after
        stands_on = record {
          long = long_on;
          past = λ i h. past_on i h (now_stands i h);
          started = λ i k h l b. started_on i k h l b (now_stands i h);
          stands = λ i h g. stands_on' i h g (now_stands i h);
        }
