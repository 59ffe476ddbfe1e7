-- The walk back over an edited plan and its rewritten table (02, request 4): where it stands the rows, the flags and
-- what is held are those of the lines from there on, and what lies beyond a take is the set of the line passed last, if
-- that is of its job. Jobs without lasting takes are passed over: they add nothing.
use Rattle.std.proofs.Common.{◌≡◌, ℕ, zero, suc, ◌+◌, ◌-◌, ◌<◌, ◌≤◌, Bool, true, false, cond, ◌&&◌, List, ◌⊎◌, inl, inr}
use Rattle.std.proofs.Common.{◌≢◌, refl, sym, ◌∙◌, ap, add-zero, arith, eqb, ltb, length, get_or, set, replicate}
use Rattle.std.proofs.Common.{drop-cons, get_or-set_other, lt-ltb, eqb-true, eq-eqb, ne_eqb}
use Rattle.std.proofs.Math.ListN.{get_or-replicate, get_or-eq_default}
use Rattle.std.proofs.Math.Option.{Option, none, some}
use borrow.Author.Tests.{eqb-false}
use Rattle.std.specs.Int.{from_bool}
use Rattle.std.specs.Result.{is_ok}
use Rattle.model.specs.Board.{devices, board}
use Rattle.model.specs.Line.{job, operand, is_take, at, max_lines, max_job}
use Rattle.model.specs.Mate.{device_at, lasting_at, lasting}
use Rattle.model.specs.Sets.{empty, member}
use Rattle.model.specs.Claims.{beyond}
use Rattle.model.specs.WellFormed.{WellFormed}
use Rattle.theory.specs.Outer.{plain_at}
use Rattle.theory.proofs.Tests.{clash, test, le_or_lt}
use Rattle.theory.proofs.Line.{line_parts, take_no_start}
use Rattle.theory.proofs.Claims.{outermost}
use Rattle.theory.proofs.LastingKept.{eqb_turned}
use Rattle.theory.proofs.Sets.{member_empty}
use Rattle.theory.proofs.Successors.{jobs_grow}
use Rattle.theory.proofs.WellFormed.{no_fault_exactly, morning_midday, no_held_in_morning}
use Rattle.theory.proofs.Move.{taken_device}
use Rattle.claims.proofs.Joining.{union_none, beyond_is}
use Rattle.claims.proofs.Written.{EndOf, end_whole}
use Rattle.plan.specs.Checked.{checked}
use Rattle.model.specs.WellFormed.{fault}
use Rattle.model.specs.declared.Refusal.{Refusal}
use Rattle.plan.proofs.Firsts.{Listed, first_listed}
use Rattle.rows.specs.Lasting.{lasting_flag, lasting_flags, wanted_after, row_joined}
use Rattle.rows.specs.Holds.{PassedOn}
use Rattle.rows.specs.declared.Passed.{Passed}
use Rattle.rows.proofs.Wanted.{wanted, flag_at}
use Rattle.rows.proofs.Counted.{lasting_is, Counted, Knows, none_counted, none_known, lasts_made, known_on, counted_on}
use Rattle.rows.proofs.Counted.{counted_past, all_counted, lasting_takes_lem, taken_operand}
use Rattle.rows.proofs.RowsFrom.{RowsBy, none_by, by_on, all_by}
use Rattle.rows.proofs.Walked.{length_flags, none_flagged, one_flagged}
use Rattle.way.specs.Join.{next_set}
use Rattle.way.proofs.Joins.{next_is_lem}
use Rattle.kept.specs.declared.Edited.{Edited}
use Rattle.kept.specs.Gathered.{Prepared, Skips, GathersAs}

-- what is found from line i on
pub record Found (p t rs flags : List ℕ) (passed : Passed) (i : ℕ) : Type 0 where
  pub counted : Counted p passed i
  pub rows_by : RowsBy p t rs i
  pub flagged : EndOf (lasting_flags p) flags i
  pub clear : (k : ℕ) → k < i → get_or flags k 0 ≡ 0

-- and what is known of the line before it: what is wanted after it, what lies beyond it, and that the line passed last,
-- if there is one, is of no earlier job
pub record Gathered (p t rs flags : List ℕ) (passed : Passed) (behind i : ℕ) : Type 0 where
  pub found : Found p t rs flags passed i
  pub known : Knows p passed i
  pub next_is : (k : ℕ) → suc k ≡ i → cond (eqb (job (at p k)) passed.job) behind empty ≡ next_set p t k
  pub later : (k : ℕ) → k < i → (job (at p k) ≤ passed.job) ⊎ (passed.job ≡ 0)

pub none_gathered : (p again t : List ℕ) → Prepared p again t
    → Gathered p t (replicate devices 0) (replicate max_lines 0)
    (record { job = 0; wanted = 0; lasts = false; holds = record { held = 0; twice = 0 } }) 0 (length p)
unfolding empty next_set job
none_gathered p again t known = record {
  found = record {
    counted = none_counted p;
    rows_by = none_by p t;
    flagged = none_flagged p;
    clear = λ k h. get_or-replicate {A = ℕ} max_lines k 0 0 (omega (arith, few));
  };
  known = none_known p;
  next_is = λ k e. nothing (eqb (job (at p k)) 0) ∙ sym (past k e);
  later = λ k h. inr refl;
}
  where
    few : length p ≤ max_lines
    few = ((no_fault_exactly board p).0 known.sound).few

    nothing : (b : Bool) → ◌≡◌ {A = ℕ} (cond b 0 0) 0
    nothing true = refl
    nothing false = refl

    past : (k : ℕ) → suc k ≡ length p
        → cond (eqb (job (at p (suc k))) (job (at p k))) (get_or t (suc k) 0) 0 ≡ 0
    past k e =
        let z : at p (suc k) ≡ 0 = get_or-eq_default p 0 (omega arith) in
        let j = (line_parts board (at p k) (((no_fault_exactly board p).0 known.sound).lines k (omega arith))).0 in
        rw (z, ne_eqb 0 (job (at p k)) (λ q. omega (arith, j)))

-- ---- one line further back

module _ {p again t rs flags : List ℕ} {old : Passed} {behind k : ℕ} (known : Prepared p again t)
    (m : Gathered p t rs flags old behind (suc k)) where
  well : WellFormed board p
  well = (no_fault_exactly board p).0 known.sound

  in_plan : k < length p
  in_plan = m.found.counted.in_plan

  beyond_take : (next : ℕ) → next ≡ next_set p t k → is_take (at p k) ≡ true → next ≡ beyond p t k
  beyond_take next e taken =
      e ∙ next_is_lem p t (morning_midday devices p well) known.room k in_plan
      ∙ sym (beyond_is p t k ∙ rw (take_no_start (at p k) taken) (union_none _))

  module _ {new : Passed} (n : PassedOn new old (at p k) (plain_at p k)) where
    lasts_here : new.lasts ≡ lasting_at p k
    lasts_here = lasts_made p well.few old new k m.found.counted m.known n

    -- the board has the device of a lasting take
    on_board_lem : (new.lasts && ltb (operand (at p k)) devices) ≡ lasting_at p k
    on_board_lem = rw lasts_here (go (lasting_at p k) refl)
      where
        go : (b : Bool) → lasting_at p k ≡ b → (b && ltb (operand (at p k)) devices) ≡ b
        go false e = refl
        go true e =
            let taken = (outermost p k (lasting_takes_lem p k e)).0 in
            rw (← taken_operand p k taken) (lt-ltb (device_at p k) devices (taken_device board p k well taken))

    pub one_gathered : (next : ℕ) → next ≡ cond (eqb (job (at p k)) old.job) behind empty → (rs' : List ℕ)
        → rs' ≡ row_joined (at p k) (new.lasts && ltb (operand (at p k)) devices) next rs
        → Gathered p t rs' (set flags k (from_bool new.lasts)) new (get_or t k 0) k
    unfolding next_set empty
    one_gathered next e rs' r = record {
      found = record {
        counted = counted_on p well.few old new k m.found.counted m.known n;
        rows_by =
            by_on p t rs k next m.found.rows_by in_plan (beyond_take next (e ∙ m.next_is k refl)) rs'
            (r ∙ ap (λ (b : Bool). row_joined (at p k) b next rs) on_board_lem);
        flagged = one_flagged p flags k new.lasts lasts_here m.found.flagged;
        clear = λ i h. get_or-set_other flags k i (from_bool new.lasts) 0 (λ q. omega arith)
            ∙ m.found.clear i (omega arith);
      };
      known = known_on p well.few old new k m.found.counted m.known n;
      next_is = λ i q. rw (n.job_is, ← q) (rw (eqb_turned (job (at p i)) (job (at p (suc i)))));
      later = λ i h. inl (rw n.job_is (jobs_grow p well.rules i k (omega arith) in_plan));
    }

-- ---- past a job without lasting takes

module _ {p t rs flags : List ℕ} {passed : Passed} where
  one_past : (k : ℕ) → lasting_at p k ≡ false → Found p t rs flags passed (suc k) → Found p t rs flags passed k
  unfolding row_joined lasting_flag
  one_past k e m = record {
    counted = counted_past p passed k e m.counted;
    rows_by =
        by_on p t rs k (beyond p t k) m.rows_by m.counted.in_plan (λ z. refl) rs
        (ap (λ (b : Bool). row_joined (at p k) b (beyond p t k) rs) (sym e));
    flagged = record {
      long = m.flagged.long;
      is = λ i h b. go i h b (test (eqb i k));
    };
    clear = λ i h. m.clear i (omega arith);
  }
    where
      go : (i : ℕ) → k ≤ i → i < length (lasting_flags p) → (eqb i k ≡ true) ⊎ (eqb i k ≡ false)
          → get_or flags i 0 ≡ get_or (lasting_flags p) i 0
      go i h b (inl q) =
          rw (eqb-true i k q)
          (m.clear k (omega arith)
          ∙ sym (flag_at p (lasting_flags p) k refl (omega (arith, length_flags p, eqb-true i k q)) ∙ rw e))
      go i h b (inr q) = let z = eqb-false i k q in m.flagged.is i (omega arith) b

  all_past : (n k : ℕ) → ((i : ℕ) → k ≤ i → i < k + n → lasting_at p i ≡ false) → Found p t rs flags passed (k + n)
      → Found p t rs flags passed k
  all_past zero k f m = rw (add-zero k) at m
  all_past (suc n) k f m =
      let q : k + suc n ≡ suc (k + n) = omega arith in
      all_past n k (λ i h l. f i h (omega arith)) (one_past (k + n) (f (k + n) (omega arith) (omega arith)) (rw q at m))

module _ {p again t rs flags first holdings : List ℕ} {passed : Passed} {behind k moved : ℕ}
    (known : Prepared p again t) (skips : Skips p first holdings moved)
    (m : Gathered p t rs flags passed behind (suc k)) where
  abbrev j : ℕ
  j = job (at p k)

  w : WellFormed board p
  w = (no_fault_exactly board p).0 known.sound

  here : k < length p
  here = m.found.counted.in_plan

  -- its number is a job's
  pub in_range : j ≤ max_job
  in_range = (line_parts board (at p k) (w.lines k here)).1

  abbrev listed : Listed p j
  listed = first_listed p j k in_range here refl

  first_is : get_or first j 0 ≡ suc listed.line
  first_is = ap (λ xs. get_or xs j 0) skips.firsts ∙ listed.number

  above : listed.line ≤ k
  above = listed.lowest k here refl

  pub goes_back : get_or first j 0 - 1 < suc k
  goes_back = omega (arith, first_is, above)

  pub has_first : 1 ≤ get_or first j 0
  has_first = omega (arith, first_is)

  -- all lines between are of the job, and no take of it lasts
  module _ (other : j ≢ moved) (nothing : get_or holdings j 0 ≡ empty) where
    none_here : (i : ℕ) → listed.line ≤ i → i < suc k → lasting_at p i ≡ false
    none_here i h l = go (lasting_at p i) refl
      where
        same : job (at p i) ≡ j
        same =
            omega (
              arith,
              jobs_grow p w.rules listed.line i h (omega (arith, here)),
              jobs_grow p w.rules i k (omega arith) here,
              listed.of_job,
            )

        go : (b : Bool) → lasting_at p i ≡ b → b ≡ false
        go false e = refl
        go true e =
            let d = device_at p i in
            let lasts : lasting p i d ≡ true = rw (lasting_is p i d, e, eq-eqb (device_at p i) d refl) refl in
            clash (member empty d)
            (rw (same, nothing) at (skips.among i d lasts (λ q. other (sym same ∙ q)))) (member_empty d)

    -- the line before the job's first is of an earlier job
    before_job : (i : ℕ) → suc i ≡ listed.line → job (at p i) < j
    before_job i e = go (le_or_lt j (job (at p i)))
      where
        go : (j ≤ job (at p i)) ⊎ (job (at p i) < j) → job (at p i) < j
        go (inr lt) = lt
        go (inl le) =
            let same : job (at p i) ≡ j = omega (
              arith,
              jobs_grow p w.rules i k (omega (arith, above)) here,
            ) in
            absurd (omega (arith, listed.lowest i (omega (arith, above, here)) same))

    -- so it is of another job than the line passed last
    earlier : (i : ℕ) → suc i ≡ listed.line → eqb (job (at p i)) passed.job ≡ false
    earlier i e = go (m.later k (omega arith))
      where
        go : (j ≤ passed.job) ⊎ (passed.job ≡ 0) → eqb (job (at p i)) passed.job ≡ false
        go (inl le) = ne_eqb (job (at p i)) passed.job (λ q. omega (arith, before_job i e))
        go (inr z) =
            ne_eqb (job (at p i)) passed.job
            (λ q. omega (arith, (line_parts board (at p i) (w.lines i (omega (arith, above, here)))).0))

    pub past_job : Gathered p t rs flags passed behind (get_or first j 0 - 1)
    unfolding next_set wanted_after wanted
    past_job = rw line_is (record {
      found = all_past (suc k - listed.line) listed.line (λ i h l. none_here i h (omega (arith, above)))
          (rw whole at m.found);
      known = λ i e.
          let ne = before_job i e in
          rw (earlier i e, drop-cons p listed.line 0 listed.in_plan, listed.of_job)
          (rw (ne_eqb j (job (at p i)) (λ q. omega arith)));
      next_is = λ i e.
          let ne = before_job i e in
          rw (earlier i e, e, listed.of_job) (rw (ne_eqb j (job (at p i)) (λ q. omega arith)));
      later = λ i h. m.later i (omega (arith, above));
    })
      where
        line_is : get_or first j 0 - 1 ≡ listed.line
        line_is = omega (arith, first_is)

        whole : suc k ≡ listed.line + (suc k - listed.line)
        whole = omega (arith, above)

-- at the front all is the plan's
pub all_gathered : {p again t rs flags : List ℕ} {passed : Passed} {behind : ℕ} → Prepared p again t
    → Gathered p t rs flags passed behind 0 → GathersAs p t passed.holds.held rs flags
all_gathered {p} {again} {t} {rs} {flags} {passed} known m = record {
  held_is =
      (all_counted p (no_held_in_morning devices p ((no_fault_exactly board p).0 known.sound)) passed
      m.found.counted).to_end;
  rows_are = all_by p t rs m.found.rows_by;
  flags_are = end_whole (lasting_flags p) flags m.found.flagged;
}

-- ---- what is known of an edited plan

pub sound_is : {o : Option Refusal} → o ≡ none → is_ok (checked o) ≡ true
sound_is e = rw e

module _ (e : Edited) where
  pub prepared : Prepared e.plan.now e.notes.now.again e.sets.now
  prepared = record {
    sound = go (fault board e.plan.now) e.sound;
    agains = e.agains;
    room = e.room;
  }
    where
      go : (o : Option Refusal) → is_ok (checked o) ≡ true → o ≡ none
      go none h = refl
      go (some r) h = cc

  pub skips : Skips e.plan.now e.notes.now.first e.notes.now.holdings (job (at e.plan.now e.last))
  skips = record { firsts = e.firsts; among = e.among }
