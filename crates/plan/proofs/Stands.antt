-- The walk finds the fault of `model`: its state is that of the lines before, and where a line has no fault the step
-- goes on to the state after it.
use Rattle.std.proofs.Common.{◌≡◌, ℕ, zero, suc, ◌<◌, ◌≤◌, Bool, true, false, cond, not, ◌&&◌, ◌||◌, eqb, ltb, leb, ◌⊎◌}
use Rattle.std.proofs.Common.{List, [], ◌∷◌, length, get_or, set, sym, refl, ap, ◌∙◌, inl, inr, arith, length-set}
use Rattle.std.proofs.Common.{ltb-false, ltb-true, eq-eqb, ne_eqb, eqb-true, le-leb}
use mathlib.Core.List.{tail}
use mathlib.Core.Option.{Option, none, some, none-ne-some}
use lib.ListN.{get_or-replicate}
use borrow.Author.Tests.{lt-leb, not-true}
use Rattle.model.specs.Answers.{refuse_if, first_refusal}
use Rattle.model.specs.Lists.{any}
use Rattle.model.specs.Line.{Settings, job, kind, operand, opens, is_give, is_start, starts, is_line, at, line_number}
use Rattle.model.specs.Line.{is_held, device_of, holds, held_from, max_lines, max_job}
use Rattle.model.specs.Sets.{empty, member, union}
use Rattle.model.specs.WellFormed.{before, held_by, is_last, in_sequence, late, verb_fault, line_fault}
use Rattle.model.specs.declared.Refusal.{Refusal}
use Rattle.model.specs.declared.Refusal.TheVariants.{Malformed, TooManyLines, JobOutOfSequence, BadStart}
use Rattle.model.specs.declared.Refusal.TheVariants.{GiveWithoutTake}
use Rattle.theory.proofs.Held.{held_opened, held_give, held_other, none_held}
use Rattle.theory.proofs.Line.{line_parts, start_operand, start_of, opens_no_give, opens_no_start}
use Rattle.theory.proofs.Line.{give_no_start, give_no_held, held_opens, own_device, device_line, device_rest}
use Rattle.theory.proofs.Sets.{member_empty, member_union}
use Rattle.theory.proofs.Tests.{clash, test, tests_agree, and_split, and_both, and_left, and_right, or_split, or_left}
use Rattle.theory.proofs.Tests.{or_right}
use Rattle.theory.specs.WellFormed.{InOrder}
use Rattle.theory.proofs.WellFormed.{length_before, any_before, before_any, LineView, fine, line_view}
use Rattle.sets.specs.Only.{only_of}
use Rattle.sets.proofs.Members.{member_only_of}
use Rattle.line.specs.Device.{device_bits}
use Rattle.plan.specs.Tables.{First, nothing, none_yet, Tables}
use Rattle.plan.specs.Walk.{placed_by, place_fault, late_by, held_fault, named_after, Next, on, bad, rule_of}
use Rattle.plan.specs.Walk.{unless, step_of}
use Rattle.plan.proofs.Steps.{in_place}
use Rattle.plan.proofs.Tables as Tab

-- the job of the line before line i; 0 before the first
unfoldable pub job_before : List ℕ → ℕ → ℕ
job_before p zero = 0
job_before p (suc i) = job (at p i)

-- the line before line i is a held line
unfoldable pub held_before : List ℕ → ℕ → Bool
held_before p zero = false
held_before p (suc i) = is_held (at p i)

-- The walk's state before line i. `named` has the devices of held lines so far; where the line before is one, so are
-- all of its job.
pub record Stands (S : Settings) (p : List ℕ) (i prev named : ℕ) (early : Bool) (held first starter : List ℕ) : Type 0
  where
    pub tables : Tables S p i first starter
    pub jobs : (k : ℕ) → k < i → job (at p k) ≤ prev
    pub prev_is : prev ≡ job_before p i
    pub names : (d : ℕ) → d < S.devices → member named d ≡ any (λ q. holds q d) (before p i)
    pub early_is : early ≡ held_before p i
    pub all_early : early ≡ true → (k : ℕ) → k < i → job (at p k) ≡ prev → is_held (at p k) ≡ true
    pub held_is_lem : held_by prev (before p i) ≡ held

pub begins : (S : Settings) (p : List ℕ) → Stands S p 0 0 empty false [] none_yet none_yet
unfolding job_before held_before before held_by any
begins S p = record {
  tables = record {
    lines = λ k h. absurd (omega arith);
    first_long = refl;
    starter_long = refl;
    firsts = λ j h. rw (get_or-replicate {A = ℕ} (suc max_job) j 0 0 (omega arith))
        (nothing (λ k b. absurd (omega arith)));
    starters = λ j h. rw (get_or-replicate {A = ℕ} (suc max_job) j 0 0 (omega arith))
        (nothing (λ k b. absurd (omega arith)));
  };
  jobs = λ k h. absurd (omega arith);
  prev_is = refl;
  names = λ d h. member_empty d;
  early_is = refl;
  all_early = λ e k h q. absurd (omega arith);
  held_is_lem = refl;
}

-- what a step says of line i, after held lines of the devices `named`
pub data Stepped (S : Settings) (p : List ℕ) (i named : ℕ) : Next → Type 0 where
  goes : (held first starter : List ℕ) → line_fault S (before p i) (at p i) ≡ none → i < max_lines
      → Stands S p (suc i) (job (at p i)) (named_after S.devices (at p i) named) (is_held (at p i)) held first starter
      → Stepped S p i named (on held first starter)
  stops : (r : Refusal) → line_fault S (before p i) (at p i) ≡ some r → Stepped S p i named (bad r)

-- a line without a fault is in order
pub in_order : (S : Settings) (p : List ℕ) (i : ℕ) → line_fault S (before p i) (at p i) ≡ none → InOrder S p i
in_order S p i e = go (line_fault S (before p i) (at p i)) e (line_view S p i)
  where
    go : (x : Option Refusal) → x ≡ none → LineView S p i x → InOrder S p i
    go none e (fine o) = o
    go (some r) e v = absurd (none-ne-some r (sym e))

-- 3, 2, 4 as one test, before what comes after them
grouped : (i : ℕ) (a b c d : Bool) → (b ≡ true → c ≡ d) → (after : Option Refusal)
    → first_refusal
    (refuse_if a TooManyLines ∷ refuse_if (not b) (Malformed (line_number i))
    ∷ refuse_if (not c) (JobOutOfSequence (line_number i)) ∷ after ∷ [])
    ≡ first_refusal (placed_by i a b d ∷ after ∷ [])
unfolding first_refusal refuse_if
grouped i true b c d f after = refl
grouped i false false c d f after = refl
grouped i false true true true f after = refl
grouped i false true false false f after = refl
grouped i false true true false f after = clash true refl (f refl)
grouped i false true false true f after = clash true refl (sym (f refl))

second : (x y : Option Refusal) → x ≡ none → first_refusal (x ∷ y ∷ []) ≡ y
unfolding first_refusal
second x none e = rw e
second x (some r) e = rw e

first_alone : (x : Option Refusal) → first_refusal (x ∷ none ∷ []) ≡ x
unfolding first_refusal
first_alone none = refl
first_alone (some r) = refl

decided : (x y : Option Refusal) (r : Refusal) → x ≡ some r → first_refusal (x ∷ y ∷ []) ≡ some r
unfolding first_refusal
decided x y r e = rw e

-- the verb's own rule, by its tests: of a start and a give
abbrev verb_by : ℕ → Bool → Bool → Option Refusal
verb_by i start give =
    first_refusal (refuse_if start (BadStart (line_number i)) ∷ refuse_if give (GiveWithoutTake (line_number i)) ∷ [])

-- of a line that is not held, the tests of held lines refuse nothing
two_alone : (a b : Option Refusal) → first_refusal (a ∷ b ∷ none ∷ none ∷ []) ≡ first_refusal (a ∷ b ∷ [])
unfolding first_refusal
two_alone (some r) b = refl
two_alone none (some r) = refl
two_alone none none = refl

or_swapped : (a b : Bool) → (a || b) ≡ (b || a)
or_swapped true true = refl
or_swapped true false = refl
or_swapped false true = refl
or_swapped false false = refl

module _ (S : Settings) (small : S.devices ≤ held_from) (p : List ℕ) (i prev named : ℕ) (early : Bool)
    (held first starter : List ℕ) (s : Stands S p i prev named early held first starter) where
  abbrev l : ℕ
  l = at p i

  -- ---- 3, 2, 4

  abbrev follows : Bool
  follows = eqb (job l) prev || eqb (job l) (suc prev)

  same_sequence : is_line S l ≡ true → in_sequence (before p i) l ≡ follows
  unfolding in_sequence before job_before
  same_sequence line = go i s.prev_is
    where
      go : (k : ℕ) → prev ≡ job_before p k → in_sequence (before p k) l ≡ follows
      go zero e = rw (e, ne_eqb (job l) 0 (λ q. omega (arith, (line_parts S l line).0)))
      go (suc k) e = rw e

  same_place : line_fault S (before p i) l ≡ first_refusal (place_fault S l i prev ∷ verb_fault (before p i) l ∷ [])
  unfolding line_fault place_fault
  same_place =
      grouped (length (before p i)) (leb max_lines (length (before p i))) (is_line S l) (in_sequence (before p i) l)
      follows same_sequence (verb_fault (before p i) l)
      ∙ ap (λ (m : ℕ). first_refusal
      (placed_by m (leb max_lines m) (is_line S l) follows ∷ verb_fault (before p i) l ∷ []))
      (length_before p i)

  -- ---- in sequence

  module _ (line : is_line S l ≡ true) (in_turn : follows ≡ true) where
    -- of the job before, or of the next
    which : (job l ≡ prev) ⊎ (job l ≡ suc prev)
    which = go (or_split (eqb (job l) prev) (eqb (job l) (suc prev)) in_turn)
      where
        go : (eqb (job l) prev ≡ true) ⊎ (eqb (job l) (suc prev) ≡ true) → (job l ≡ prev) ⊎ (job l ≡ suc prev)
        go (inl e) = inl (eqb-true (job l) prev e)
        go (inr e) = inr (eqb-true (job l) (suc prev) e)

    not_yet : job l ≡ suc prev → (k : ℕ) → k < i → job (at p k) ≡ job l → ⊥
    not_yet e k h q = omega (arith, s.jobs k h)

    -- what its job holds there
    held_there_lem : held_by (job l) (before p i) ≡ cond (eqb (job l) prev) held []
    held_there_lem = go which
      where
        go : (job l ≡ prev) ⊎ (job l ≡ suc prev) → held_by (job l) (before p i) ≡ cond (eqb (job l) prev) held []
        go (inl e) = rw (eq-eqb (job l) prev e, e) s.held_is_lem
        go (inr e) = rw (ne_eqb (job l) prev (λ q. omega arith)) (none_held p (job l) i (not_yet e))

    -- the number of its job's first line
    abbrev entry : ℕ
    entry = cond (eqb (job l) prev) (get_or first (job l) 0) (line_number i)

    firsts : (j : ℕ) → j ≤ max_job → First (λ x. eqb (job x) j) p (suc i) (get_or (set first (job l) entry) j 0)
    unfolding line_number job_before
    firsts =
        Tab.stored (λ j x. eqb (job x) j) p i first (job l) entry s.tables.first_long parts.1 s.tables.firsts
        (go which) (λ j n. ne_eqb (job l) j n)
      where
        parts : (1 ≤ job l) × (job l ≤ max_job)
        parts = let q = line_parts S l line in (q.0, q.1)

        so_far : First (λ x. eqb (job x) (job l)) p i (get_or first (job l) 0)
        so_far = s.tables.firsts (job l) parts.1

        -- the line before is of this job
        seen : (k : ℕ) → prev ≡ job_before p k → job l ≡ prev
            → First (λ x. eqb (job x) (job l)) p k (get_or first (job l) 0)
            → get_or first (job l) 0 ≡ 0 → ⊥
        seen zero e q f z = omega (arith, parts.0)
        seen (suc k) e q f z =
            omega (
              arith,
              (Tab.at_most_lem (λ x. eqb (job x) (job l)) p (suc k) (get_or first (job l) 0) k f (omega arith)
                  (eq-eqb (job (at p k)) (job l) (sym e ∙ sym q))).0,
            )

        go : (job l ≡ prev) ⊎ (job l ≡ suc prev) → First (λ x. eqb (job x) (job l)) p (suc i) entry
        go (inl e) =
            rw (eq-eqb (job l) prev e)
            (Tab.kept (λ x. eqb (job x) (job l)) p i (get_or first (job l) 0) (seen i s.prev_is e so_far) so_far)
        go (inr e) =
            rw (ne_eqb (job l) prev (λ q. omega arith))
            (Tab.new (λ x. eqb (job x) (job l)) p i (get_or first (job l) 0) (eq-eqb (job l) (job l) refl)
            (Tab.unfound (λ x. eqb (job x) (job l)) p i (get_or first (job l) 0) so_far
            (λ k b. ne_eqb (job (at p k)) (job l) (not_yet e k b)))
            so_far)

    -- the device that the line takes, holds or gives, by its number
    taken_device : opens l ≡ true → device_of l ≡ device_bits l
    taken_device t = sym (device_rest S small l line (or_left (opens l) (is_give l) t))

    given_device : is_give l ≡ true → operand l ≡ device_bits l
    given_device g =
        sym (device_rest S small l line (or_right (opens l) (is_give l) g) ∙ own_device l (give_no_held l g))

    -- the devices of held lines, this one among them
    names_on : (d : ℕ) → d < S.devices
        → member (named_after S.devices l named) d ≡ (holds l d || any (λ q. holds q d) (before p i))
    unfolding named_after holds
    names_on d b = go (test (is_held l))
      where
        go : (is_held l ≡ true) ⊎ (is_held l ≡ false)
            → member (cond (is_held l) (union named (only_of S.devices (device_bits l))) named) d
            ≡ ((is_held l && eqb (device_of l) d) || any (λ q. holds q d) (before p i))
        go (inr u) = rw u (s.names d b)
        go (inl h) =
            rw (taken_device (held_opens l h), h)
            (member_union named (only_of S.devices (device_bits l)) d
            ∙ rw (s.names d b, member_only_of S.devices (device_bits l) d b)
            (or_swapped (any (λ q. holds q d) (before p i)) (eqb (device_bits l) d)))

    -- where it is held and has no fault, so are the lines before it in its job
    only_held : line_fault S (before p i) l ≡ none → is_held l ≡ true → (k : ℕ) → k < i → job (at p k) ≡ job l
        → is_held (at p k) ≡ true
    only_held e h k b q = go (test (is_held (at p k)))
      where
        go : (is_held (at p k) ≡ true) ⊎ (is_held (at p k) ≡ false) → is_held (at p k) ≡ true
        go (inl t) = t
        go (inr u) = absurd ((in_order S p i e).held_early h k b (inl (q, u)))

    -- the state after it
    onward : (held' starter' : List ℕ) → line_fault S (before p i) l ≡ none → held_by (job l) (l ∷ before p i) ≡ held'
        → length starter' ≡ suc max_job
        → ((j : ℕ) → j ≤ max_job → First (λ x. starts x j) p (suc i) (get_or starter' j 0))
        → Stands S p (suc i) (job l) (named_after S.devices l named) (is_held l) held' (set first (job l) entry)
        starter'
    unfolding job_before held_before before any
    onward held' starter' e h n f = record {
      tables = record {
        lines = Tab.up_to (λ k. is_line S (at p k) ≡ true) i line s.tables.lines;
        first_long = length-set first (job l) entry ∙ s.tables.first_long;
        starter_long = n;
        firsts = firsts;
        starters = f;
      };
      jobs = Tab.up_to (λ k. job (at p k) ≤ job l) i (omega arith) (λ k b. no_higher k b which);
      prev_is = refl;
      names = names_on;
      early_is = refl;
      all_early = λ t. Tab.up_to (λ k. job (at p k) ≡ job l → is_held (at p k) ≡ true) i (λ q. t) (only_held e t);
      held_is_lem = h;
    }
      where
        no_higher : (k : ℕ) → k < i → (job l ≡ prev) ⊎ (job l ≡ suc prev) → job (at p k) ≤ job l
        no_higher k b (inl e) = omega (arith, s.jobs k b)
        no_higher k b (inr e) = omega (arith, s.jobs k b)

    -- a line that starts nothing leaves the starters
    same_starters : is_start l ≡ false → (j : ℕ) → j ≤ max_job → First (λ x. starts x j) p (suc i) (get_or starter j 0)
    unfolding starts
    same_starters e j h =
        Tab.stays (λ x. starts x j) p i (get_or starter j 0) (and_left (is_start l) (eqb (operand l) j) e)
        (s.tables.starters j h)

    -- ---- the verb's own rule

    abbrev there : List ℕ
    there = held_by (job l) (before p i)

    abbrev tested : Option Refusal
    tested =
        verb_by i (is_start l && (leb (operand l) (job l) || any (λ q. starts q (operand l)) (before p i)))
        (is_give l && not (is_last (operand l) there))

    -- a line that is not held has none of the tests of held lines
    verb_unheld : is_held l ≡ false → verb_fault (before p i) l ≡ tested
    unfolding verb_fault refuse_if
    verb_unheld u =
        rw (
          length_before p i,
          and_left (is_held l) (any (λ q. holds q (device_of l)) (before p i)) u,
          and_left (is_held l) (late (before p i) l) u,
        )
        (two_alone
        (refuse_if (is_start l && (leb (operand l) (job l) || any (λ q. starts q (operand l)) (before p i)))
        (BadStart (line_number i)))
        (refuse_if (is_give l && not (is_last (operand l) there)) (GiveWithoutTake (line_number i))))

    -- 16 and 17 by the state
    twice_is_lem : is_held l ≡ true → any (λ q. holds q (device_of l)) (before p i) ≡ member named (device_bits l)
    twice_is_lem h =
        let o = held_opens l h in
        sym (s.names (device_of l) (device_line S l line (or_left (opens l) (is_give l) o)))
        ∙ ap (member named) (taken_device o)

    started_is : any (λ q. starts q (job l)) (before p i) ≡ not (eqb (get_or starter (job l) 0) 0)
    started_is =
        Tab.any_found (λ x. starts x (job l)) p i (get_or starter (job l) 0)
        (s.tables.starters (job l) (line_parts S l line).1)

    late_is : late (before p i) l ≡ late_by l prev early starter
    unfolding late job_before held_before
    late_is = tests_agree (any makes (before p i)) (other || begun) to from
      where
        makes : ℕ → Bool
        makes q = (eqb (job q) (job l) && not (is_held q)) || starts q (job l)

        other : Bool
        other = eqb (job l) prev && not early

        begun : Bool
        begun = not (eqb (get_or starter (job l) 0) 0)

        unheld_before : (k : ℕ) → k < i → job (at p k) ≡ job l → is_held (at p k) ≡ false
            → (job l ≡ prev) ⊎ (job l ≡ suc prev) → other ≡ true
        unheld_before k b q u (inr e) = absurd (not_yet e k b q)
        unheld_before k b q u (inl e) = go (test early)
          where
            go : (early ≡ true) ⊎ (early ≡ false) → other ≡ true
            go (inl t) = clash (is_held (at p k)) (s.all_early t k b (q ∙ e)) u
            go (inr n) = rw (eq-eqb (job l) prev e, n)

        to : any makes (before p i) ≡ true → (other || begun) ≡ true
        to e =
            let r = any_before makes p i e in
            go r.0 r.1
            (or_split (eqb (job (at p r.0)) (job l) && not (is_held (at p r.0))) (starts (at p r.0) (job l))
            r.2)
          where
            go : (k : ℕ) → k < i
                → ((eqb (job (at p k)) (job l) && not (is_held (at p k))) ≡ true) ⊎ (starts (at p k) (job l) ≡ true)
                → (other || begun) ≡ true
            go k b (inl x) =
                let q = and_split (eqb (job (at p k)) (job l)) (not (is_held (at p k))) x in
                or_left other begun
                (unheld_before k b (eqb-true (job (at p k)) (job l) q.0) (not-true (is_held (at p k)) q.1) which)
            go k b (inr x) =
                or_right other begun (sym started_is ∙ before_any (λ q. starts q (job l)) p i k b x)

        last_unheld : (k : ℕ) → prev ≡ job_before p k → early ≡ held_before p k → job l ≡ prev → early ≡ false
            → any makes (before p k) ≡ true
        last_unheld zero e h q n = absurd (omega (arith, (line_parts S l line).0))
        last_unheld (suc k) e h q n =
            before_any makes p (suc k) k (omega arith)
            (or_left (eqb (job (at p k)) (job l) && not (is_held (at p k))) (starts (at p k) (job l))
            (and_both (eqb (job (at p k)) (job l)) (not (is_held (at p k)))
            (eq-eqb (job (at p k)) (job l) (sym e ∙ sym q)) (rw (sym h ∙ n))))

        from : (other || begun) ≡ true → any makes (before p i) ≡ true
        from e = go (or_split other begun e)
          where
            go : (other ≡ true) ⊎ (begun ≡ true) → any makes (before p i) ≡ true
            go (inl x) =
                let q = and_split (eqb (job l) prev) (not early) x in
                last_unheld i s.prev_is s.early_is (eqb-true (job l) prev q.0) (not-true early q.1)
            go (inr x) =
                let r = any_before (λ q. starts q (job l)) p i (started_is ∙ x) in
                before_any makes p i r.0 r.1
                (or_right (eqb (job (at p r.0)) (job l) && not (is_held (at p r.0))) (starts (at p r.0) (job l))
                r.2)

    abbrev held_tested : Option Refusal
    held_tested = held_fault l i prev named early starter

    -- a held line has no other test
    verb_held : is_held l ≡ true → verb_fault (before p i) l ≡ held_tested
    unfolding verb_fault refuse_if first_refusal held_fault
    verb_held h =
        rw (
          length_before p i,
          twice_is_lem h,
          late_is,
          opens_no_start l (held_opens l h),
          opens_no_give l (held_opens l h),
          h,
        )

    none_else : is_held l ≡ true → tested ≡ none
    unfolding refuse_if first_refusal
    none_else h = rw (opens_no_start l (held_opens l h), opens_no_give l (held_opens l h))

    unasked : is_held l ≡ false → held_tested ≡ none
    unfolding held_fault
    unasked u = rw u

    verb_tests : verb_fault (before p i) l ≡ first_refusal (held_tested ∷ tested ∷ [])
    verb_tests = go (test (is_held l))
      where
        go : (is_held l ≡ true) ⊎ (is_held l ≡ false)
            → verb_fault (before p i) l ≡ first_refusal (held_tested ∷ tested ∷ [])
        go (inl h) =
            verb_held h ∙ sym (first_alone held_tested)
            ∙ ap {B = Option Refusal} (λ x. first_refusal (held_tested ∷ x ∷ [])) (sym (none_else h))
        go (inr u) = verb_unheld u ∙ sym (second held_tested tested (unasked u))

    by_verb : place_fault S l i prev ≡ none → line_fault S (before p i) l ≡ first_refusal (held_tested ∷ tested ∷ [])
    by_verb e = same_place ∙ second (place_fault S l i prev) (verb_fault (before p i) l) e ∙ verb_tests

    module _ (f : line_fault S (before p i) l ≡ tested) (few : i < max_lines) where
      abbrev Led : Type 0
      Led = Stepped S p i named (rule_of i l there (set first (job l) entry) starter)

      takes : opens l ≡ true → Led
      unfolding rule_of first_refusal refuse_if
      takes t =
          let e : line_fault S (before p i) l ≡ none = f ∙ rw (opens_no_start l t, opens_no_give l t) in
          rw t
          (goes (device_bits l ∷ there) (set first (job l) entry) starter e few
          (onward (device_bits l ∷ there) starter e
          (held_opened (job l) l (before p i) refl t ∙ ap {B = List ℕ} (λ d. d ∷ there) (taken_device t))
          s.tables.starter_long (same_starters (opens_no_start l t))))

      module _ (t : opens l ≡ false) where
        gives : is_give l ≡ true → (b : Bool) → is_last (device_bits l) there ≡ b → Led
        unfolding rule_of first_refusal refuse_if
        gives g true m =
            let e : line_fault S (before p i) l ≡ none = f ∙ rw (give_no_start l g, g, given_device g, m) in
            rw (t, g, m)
            (goes (tail there) (set first (job l) entry) starter e few
            (onward (tail there) starter e (held_give (job l) l (before p i) refl t g) s.tables.starter_long
            (same_starters (give_no_start l g))))
        gives g false m =
            rw (t, g, m)
            (stops (GiveWithoutTake (line_number i)) (f ∙ rw (give_no_start l g, g, given_device g, m)))

        module _ (g : is_give l ≡ false) where
          does : is_start l ≡ false → Led
          unfolding rule_of first_refusal refuse_if
          does n =
              let e : line_fault S (before p i) l ≡ none = f ∙ rw (n, g) in
              rw (t, g, n)
              (goes there (set first (job l) entry) starter e few
              (onward there starter e (held_other (job l) l (before p i) t g) s.tables.starter_long
              (same_starters n)))

          module _ (n : is_start l ≡ true) where
            high : operand l ≤ max_job
            unfolding is_start
            high = start_operand S l line (eqb-true (kind l) 3 n)

            so_far : First (λ x. starts x (operand l)) p i (get_or starter (operand l) 0)
            so_far = s.tables.starters (operand l) high

            known : any (λ q. starts q (operand l)) (before p i) ≡ not (eqb (get_or starter (operand l) 0) 0)
            known = Tab.any_found (λ x. starts x (operand l)) p i (get_or starter (operand l) 0) so_far

            begun : get_or starter (operand l) 0 ≡ 0 → (j : ℕ) → j ≤ max_job
                → First (λ x. starts x j) p (suc i) (get_or (set starter (operand l) (line_number i)) j 0)
            unfolding starts line_number
            begun z =
                Tab.stored (λ j x. starts x j) p i starter (operand l) (line_number i) s.tables.starter_long high
                s.tables.starters
                (Tab.new (λ x. starts x (operand l)) p i (get_or starter (operand l) 0) (start_of l n) z so_far)
                (λ j ne. and_right (is_start l) (eqb (operand l) j) (ne_eqb (operand l) j ne))

            started : (b c : Bool) → ltb (job l) (operand l) ≡ b → eqb (get_or starter (operand l) 0) 0 ≡ c → Led
            unfolding rule_of first_refusal refuse_if
            started true true x y =
                let e : line_fault S (before p i) l ≡ none =
                f ∙ rw (n, lt-leb (operand l) (job l) (ltb-true (job l) (operand l) x), known, y, g) in
                rw (t, g, n, x, y)
                (goes there (set first (job l) entry) (set starter (operand l) (line_number i)) e few
                (onward there (set starter (operand l) (line_number i)) e (held_other (job l) l (before p i) t g)
                (length-set starter (operand l) (line_number i) ∙ s.tables.starter_long)
                (begun (eqb-true (get_or starter (operand l) 0) 0 y))))
            started true false x y =
                rw (t, g, n, x, y)
                (stops (BadStart (line_number i))
                (f ∙ rw (n, lt-leb (operand l) (job l) (ltb-true (job l) (operand l) x), known, y)))
            started false c x y =
                rw (t, g, n, x)
                (stops (BadStart (line_number i))
                (f ∙ rw (n, le-leb (operand l) (job l) (ltb-false (job l) (operand l) x))))

      ruled : Led
      ruled = go (test (opens l)) (test (is_give l)) (test (is_start l))
        where
          go : (opens l ≡ true) ⊎ (opens l ≡ false) → (is_give l ≡ true) ⊎ (is_give l ≡ false)
              → (is_start l ≡ true) ⊎ (is_start l ≡ false) → Led
          go (inl t) g n = takes t
          go (inr t) (inl g) n = gives t g (is_last (device_bits l) there) refl
          go (inr t) (inr g) (inr n) = does t g n
          go (inr t) (inr g) (inl n) =
              started t g n (ltb (job l) (operand l)) (eqb (get_or starter (operand l) 0) 0) refl refl

  -- what the line's job holds there
  pub there_is : place_fault S l i prev ≡ none → held_by (job l) (before p i) ≡ cond (eqb (job l) prev) held []
  there_is e = let q = in_place S l i prev e in held_there_lem q.1 q.2

  -- The theorem: a step is at a line without a fault, and leads to the state after it, or it tells the line's fault.
  pub stepped : Stepped S p i named (step_of S l i prev named early held first starter)
  unfolding step_of
  stepped = go (place_fault S l i prev) refl
    where
      ruled_on : Next
      ruled_on =
          rule_of i l (cond (eqb (job l) prev) held [])
          (set first (job l) (cond (eqb (job l) prev) (get_or first (job l) 0) (line_number i))) starter

      placed : (y : Option Refusal) → held_fault l i prev named early starter ≡ y → place_fault S l i prev ≡ none
          → Stepped S p i named (unless y ruled_on)
      placed (some r) h e =
          let q = in_place S l i prev e in
          stops r
          (by_verb q.1 q.2 e
          ∙ decided (held_fault l i prev named early starter) (tested q.1 q.2) r h)
      placed none h e =
          let q = in_place S l i prev e in
          let f = by_verb q.1 q.2 e
          ∙ second (held_fault l i prev named early starter) (tested q.1 q.2) h in
          rw (← held_there_lem q.1 q.2) (ruled q.1 q.2 f q.0)

      go : (x : Option Refusal) → place_fault S l i prev ≡ x
          → Stepped S p i named (unless x (unless (held_fault l i prev named early starter) ruled_on))
      go (some r) e = stops r (same_place ∙ decided (place_fault S l i prev) (verb_fault (before p i) l) r e)
      go none e = placed (held_fault l i prev named early starter) refl e
