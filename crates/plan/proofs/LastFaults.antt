-- The tests after the last line find 5 and 6 of `model`: the tables tell which jobs have lines and which start.
use Rattle.std.proofs.Common.{◌≡◌, ℕ, suc, ◌<◌, ◌≤◌, true, false, cond, not, ◌&&◌, eqb, ◌⊎◌, List, [], ◌∷◌, length}
use Rattle.std.proofs.Common.{Result, Ok, get_or, sym, refl, ap, ◌∙◌, inl, inr, arith, ne_eqb, eqb-true}
use mathlib.Core.List.{head_d}
use mathlib.Core.Option.{Option, none, some}
use borrow.Author.Tests.{eqb-false, not-true, not-false}
use Rattle.model.specs.Answers.{refuse_at, first_refusal}
use Rattle.model.specs.Lists.{positions, any}
use Rattle.model.specs.Line.{Settings, job, kind, operand, is_start, starts, is_line, at, line_number, has_lines}
use Rattle.model.specs.Line.{first_line}
use Rattle.model.specs.Line.{max_job}
use Rattle.model.specs.WellFormed.{empty_start, never_started, first_fault, fault}
use Rattle.model.specs.declared.Refusal.{Refusal}
use Rattle.model.specs.declared.Refusal.TheVariants.{BadStart, NeverStarted}
use Rattle.theory.proofs.Tests.{test, falsely, and_split, and_both}
use Rattle.theory.proofs.Line.{start_range, start_parts, start_of}
use Rattle.theory.proofs.Lists.{first_is_lowest}
use Rattle.theory.specs.WellFormed.{starts_empty, unstarted}
use Rattle.plan.specs.Checked.{checked}
use Rattle.plan.specs.Tables.{First, nothing, found, Tables}
use Rattle.plan.specs.Ends.{Empty, Unstarted, EndsAs, empty, never, neither}
use Rattle.plan.proofs.Tables as Tab

-- the job that a start names
named_job : (S : Settings) (n : ℕ) → is_line S n ≡ true → is_start n ≡ true → (2 ≤ operand n) × (operand n ≤ max_job)
unfolding is_start
named_job S n h s = start_range S n h (eqb-true (kind n) 3 s)

module _ (S : Settings) (p first starter : List ℕ) (t : Tables S p (length p) first starter) where
  has_lines_lem : (j : ℕ) → j ≤ max_job → has_lines p j ≡ not (eqb (get_or first j 0) 0)
  unfolding has_lines
  has_lines_lem j h = Tab.any_in (λ l. eqb (job l) j) p (get_or first j 0) (t.firsts j h)

  is_started : (j : ℕ) → j ≤ max_job → any (λ l. starts l j) p ≡ not (eqb (get_or starter j 0) 0)
  is_started j h = Tab.any_in (λ l. starts l j) p (get_or starter j 0) (t.starters j h)

  -- ---- 5

  -- a line that starts a job without lines, by that job
  empty_job : (i : ℕ) → i < length p → starts_empty p i ≡ true
      → Empty first starter (operand (at p i)) × (get_or starter (operand (at p i)) 0 ≤ suc i)
  unfolding starts_empty
  empty_job i h e =
      let o = operand (at p i) in
      let s = and_split (is_start (at p i)) (not (has_lines p o)) e in
      let r = named_job S (at p i) (t.lines i h) s.0 in
      let m = Tab.at_most_lem (λ l. starts l o) p (length p) (get_or starter o 0) i (t.starters o r.1) h
      (start_of (at p i) s.0) in (
        record {
          low = r.0;
          high = r.1;
          lineless = eqb-true (get_or first o 0) 0
              (not-false (eqb (get_or first o 0) 0) (sym (has_lines_lem o r.1) ∙ not-true (has_lines p o) s.1));
          started = m.0;
        },
        m.1,
      )

  -- and such a job, by that line
  empty_start_lem : (k : ℕ) → Empty first starter k
      → (i : ℕ) × (i < length p) × (starts_empty p i ≡ true) × (get_or starter k 0 ≡ suc i)
  unfolding starts_empty
  empty_start_lem k e = go (get_or starter k 0) e.started (t.starters k e.high)
    where
      go : (m : ℕ) → 1 ≤ m → First (λ l. starts l k) p (length p) m
          → (i : ℕ) × (i < length p) × (starts_empty p i ≡ true) × (m ≡ suc i)
      go m h (nothing f) = absurd (omega arith)
      go m h (found i b u low) =
          let q = start_parts (at p i) k u in (
            i,
            b,
            and_both (is_start (at p i)) (not (has_lines p (operand (at p i)))) q.0
                (rw (q.1, has_lines_lem k e.high, e.lineless)),
            refl,
          )

  found_5 : (k : ℕ) → Empty first starter k
      → ((j : ℕ) → Empty first starter j → get_or starter k 0 ≤ get_or starter j 0)
      → empty_start p ≡ some (BadStart (get_or starter k 0))
  unfolding empty_start refuse_at positions starts_empty line_number
  found_5 k e least =
      let r = empty_start_lem k e in
      ap (refuse_at (λ i. BadStart (line_number i)))
      (first_is_lowest (starts_empty p) 0 (length p) r.0 (omega arith) (omega (arith, r.1)) r.2
      (λ i a b. falsely (starts_empty p i) (λ z. let j = empty_job i (omega (arith, r.1)) z in
      omega (arith, least (operand (at p i)) j.0, j.1, r.3))))
      ∙ ap {B = Option Refusal} (λ z. some (BadStart z)) (sym r.3)

  none_5 : ((j : ℕ) → Empty first starter j → ⊥) → empty_start p ≡ none
  unfolding empty_start refuse_at positions starts_empty
  none_5 f =
      ap (refuse_at (λ i. BadStart (line_number i)))
      (Tab.first_none (starts_empty p) 0 (length p) (λ i a b. falsely (starts_empty p i)
      (λ z. let j = empty_job i (omega arith) z in f (operand (at p i)) j.0)))

  -- ---- 6

  same_job_lem : (j : ℕ) → j ≤ max_job → unstarted p j ≡ true → 1 ≤ j → Unstarted first starter j
  unfolding unstarted
  same_job_lem j h u o =
      let a = and_split (has_lines p j && not (eqb j 1)) (not (any (λ l. starts l j) p)) u in
      let b = and_split (has_lines p j) (not (eqb j 1)) a.0 in
      let n = eqb-false j 1 (not-true (eqb j 1) b.1) in
      let f = eqb-false (get_or first j 0) 0 (not-true (eqb (get_or first j 0) 0) (sym (has_lines_lem j h) ∙ b.0)) in
      record {
        low = omega arith;
        high = h;
        lined = omega arith;
        startless = eqb-true (get_or starter j 0) 0
            (not-false (eqb (get_or starter j 0) 0) (sym (is_started j h) ∙ not-true (any (λ l. starts l j) p) a.1));
      }

  job_same : (j : ℕ) → Unstarted first starter j → unstarted p j ≡ true
  unfolding unstarted
  job_same j u =
      rw (
        has_lines_lem j u.high,
        is_started j u.high,
        ne_eqb (get_or first j 0) 0 (λ z. omega (arith, u.lined)),
        ne_eqb j 1 (λ z. omega (arith, u.low)),
        u.startless,
      )

  found_6 : (k : ℕ) → Unstarted first starter k → ((j : ℕ) → j < k → Unstarted first starter j → ⊥)
      → never_started p ≡ some (NeverStarted (get_or first k 0))
  unfolding never_started refuse_at unstarted
  found_6 k u lowest =
      ap (refuse_at (λ j. NeverStarted (line_number (head_d (first_line j p) 0))))
      (first_is_lowest (unstarted p) 1 max_job k (omega (arith, u.low)) (omega (arith, u.high)) (job_same k u)
      (λ j a b. falsely (unstarted p j) (λ z. lowest j b (same_job_lem j (omega (arith, u.high)) z a))))
      ∙ ap {B = Option Refusal} (λ z. some (NeverStarted z))
      (Tab.first_number k p (get_or first k 0) (t.firsts k u.high) u.lined)

  none_6 : ((j : ℕ) → Unstarted first starter j → ⊥) → never_started p ≡ none
  unfolding never_started refuse_at unstarted
  none_6 f =
      ap (refuse_at (λ j. NeverStarted (line_number (head_d (first_line j p) 0))))
      (Tab.first_none (unstarted p) 1 max_job
      (λ j a b. falsely (unstarted p j) (λ z. f j (same_job_lem j (omega arith) z a))))

  -- The theorem: where no line has a fault, the tests after the last line find the plan's.
  pub ends_find : (r : Result (Unit {0}) Refusal) → EndsAs S.midday first starter r → first_fault S [] p ≡ none
      → r ≡ checked (fault S p)
  unfolding fault first_refusal
  ends_find r (empty k e least) f = rw (f, found_5 k e least)
  ends_find r (never m g k u lowest) f = rw (f, none_5 g, m, found_6 k u lowest)
  ends_find r (neither g h) f = rw (f, none_5 g) (go (test S.midday))
    where
      go : (S.midday ≡ true) ⊎ (S.midday ≡ false)
          → Ok tt ≡ checked (first_refusal (cond S.midday none (never_started p) ∷ []))
      go (inl d) = rw d
      go (inr m) = rw (m, none_6 (h m))
