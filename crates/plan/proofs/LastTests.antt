-- How the tests after the last line go from job to job, and what they find.
use Rattle.std.proofs.Common.{◌≡◌, ℕ, suc, ◌+◌, ◌<◌, ◌≤◌, Bool, true, false, not, ◌&&◌, ◌||◌, eqb, ltb, ◌⊎◌, List}
use Rattle.std.proofs.Common.{Ok, Err, get_or, sym, refl, ◌∙◌, inl, inr, add-one, arith, ltb-false, ltb-true, ne_eqb}
use Rattle.std.proofs.Common.{eqb-true}
use borrow.Author.Tests.{eqb-false, not-true, not-false}
use Rattle.model.specs.Line.{max_job}
use Rattle.theory.proofs.Tests.{test, and_split, and_true, or_split, or_neither}
use Rattle.model.specs.declared.Refusal.TheVariants.{BadStart, NeverStarted}
use Rattle.plan.specs.Ends.{Empty, Unstarted, lower_of, earlier_of, EndsAs, empty, never, neither}
use Rattle.plan.proofs.Tables.{up_to}

-- the lowest line that starts one of the jobs below j that have no lines; 0 is no line
pub data Low (first starter : List ℕ) (j : ℕ) : ℕ → Type 0 where
  nothing : ((k : ℕ) → k < j → Empty first starter k → ⊥) → Low first starter j 0
  found : (k : ℕ) → Empty first starter k
      → ((m : ℕ) → m < j → Empty first starter m → get_or starter k 0 ≤ get_or starter m 0)
      → Low first starter j (get_or starter k 0)

-- the first line of the lowest of the jobs below j that start nowhere
pub data Never (first starter : List ℕ) (j : ℕ) : ℕ → Type 0 where
  nothing : ((k : ℕ) → k < j → Unstarted first starter k → ⊥) → Never first starter j 0
  found : (k : ℕ) → Unstarted first starter k → ((m : ℕ) → m < k → Unstarted first starter m → ⊥)
      → Never first starter j (get_or first k 0)

-- no job comes before job 2
pub low_start : (first starter : List ℕ) → Low first starter 2 0
low_start first starter = nothing (λ k b e. omega (arith, e.low))

pub never_start : (first starter : List ℕ) → Never first starter 2 0
never_start first starter = nothing (λ k b u. omega (arith, u.low))

module _ (first starter : List ℕ) (j : ℕ) (l : 2 ≤ j) (h : j ≤ max_job) where
  abbrev f : ℕ
  f = get_or first j 0

  abbrev s : ℕ
  s = get_or starter j 0

  abbrev better : ℕ → Bool
  better m = eqb f 0 && not (eqb s 0) && (eqb m 0 || ltb s m)

  -- better than m: it starts, has no lines, and its starter is the lower; and where it is not
  is_better : (m : ℕ) → better m ≡ true → Empty first starter j × ((m ≡ 0) ⊎ (s < m))
  is_better m t =
      let a = and_split (eqb f 0 && not (eqb s 0)) (eqb m 0 || ltb s m) t in
      let b = and_split (eqb f 0) (not (eqb s 0)) a.0 in
      let n = eqb-false s 0 (not-true (eqb s 0) b.1) in (
        record { low = l; high = h; lineless = eqb-true f 0 b.0; started = omega arith },
        which (or_split (eqb m 0) (ltb s m) a.1),
      )
    where
      which : (eqb m 0 ≡ true) ⊎ (ltb s m ≡ true) → (m ≡ 0) ⊎ (s < m)
      which (inl e) = inl (eqb-true m 0 e)
      which (inr e) = inr (ltb-true s m e)

  no_better : (m : ℕ) → better m ≡ false → Empty first starter j → (m ≡ 0 → ⊥) × (m ≤ s)
  no_better m t e =
      let r = or_neither (eqb m 0) (ltb s m)
      (rw (e.lineless, ne_eqb s 0 (λ z. omega (arith, e.started))) at t) in
      (eqb-false m 0 r.0, ltb-false s m r.1)

  -- job j comes up
  pub low_on : (m : ℕ) → Low first starter j m → Low first starter (j + 1) (lower_of m f s)
  low_on m (nothing none) = rw add-one (go (test (better 0)))
    where
      go : (better 0 ≡ true) ⊎ (better 0 ≡ false) → Low first starter (suc j) (lower_of 0 f s)
      go (inl t) =
          rw t
          (found j (is_better 0 t).0
          (up_to (λ k. Empty first starter k → s ≤ get_or starter k 0) j (λ e. omega arith)
          (λ k b e. absurd (none k b e))))
      go (inr t) = rw t (nothing (up_to (λ k. Empty first starter k → ⊥) j (λ e. (no_better 0 t e).0 refl) none))
  low_on m (found k e least) = rw add-one (go (test (better m)))
    where
      go : (better m ≡ true) ⊎ (better m ≡ false) → Low first starter (suc j) (lower_of m f s)
      go (inl t) =
          rw t
          (found j (is_better m t).0
          (up_to (λ i. Empty first starter i → s ≤ get_or starter i 0) j (λ z. omega arith)
          (λ i b z. lower (is_better m t).1 (least i b z))))
        where
          lower : (m ≡ 0) ⊎ (s < m) → {n : ℕ} → m ≤ n → s ≤ n
          lower (inl q) c = absurd (omega (arith, e.started))
          lower (inr q) c = omega arith
      go (inr t) =
          rw t
          (found k e (up_to (λ i. Empty first starter i → get_or starter k 0 ≤ get_or starter i 0) j
          (λ z. (no_better (get_or starter k 0) t z).1) least))

  pub never_on : (m : ℕ) → Never first starter j m → Never first starter (j + 1) (earlier_of m f s)
  never_on m (found k u low) = rw (add-one, ne_eqb (get_or first k 0) 0 (λ z. omega (arith, u.lined))) (found k u low)
  never_on m (nothing none) = rw add-one (go (test (eqb s 0)) (test (eqb f 0)))
    where
      go : (eqb s 0 ≡ true) ⊎ (eqb s 0 ≡ false) → (eqb f 0 ≡ true) ⊎ (eqb f 0 ≡ false)
          → Never first starter (suc j) (earlier_of 0 f s)
      go (inl t) (inl z) =
          rw (t, eqb-true f 0 z)
          (nothing (up_to (λ k. Unstarted first starter k → ⊥) j (λ u. omega (arith, u.lined, eqb-true f 0 z)) none))
      go (inl t) (inr z) =
          let n = eqb-false f 0 z in
          rw t
          (found j (record { low = l; high = h; lined = omega arith; startless = eqb-true s 0 t }) none)
      go (inr t) z =
          rw t (nothing (up_to (λ k. Unstarted first starter k → ⊥) j (λ u. eqb-false s 0 t u.startless) none))

-- all jobs have come up
module _ (midday : Bool) (first starter : List ℕ) where
  pub told_5 : (m : ℕ) → Low first starter (suc max_job) m → (m ≡ 0 → ⊥)
      → EndsAs midday first starter (Err (BadStart m))
  told_5 m (nothing none) n = absurd (n refl)
  told_5 m (found k e least) n = empty k e (λ i z. least i (omega (arith, z.high)) z)

  no_5 : (m : ℕ) → Low first starter (suc max_job) m → m ≡ 0 → (k : ℕ) → Empty first starter k → ⊥
  no_5 m (nothing none) q k e = none k (omega (arith, e.high)) e
  no_5 m (found i z least) q k e = omega (arith, z.started)

  module _ (m n : ℕ) (low : Low first starter (suc max_job) m) (q : m ≡ 0) where
    -- 6 is asked for in the morning alone
    pub told_6 : Never first starter (suc max_job) n → (not (eqb n 0) && not midday) ≡ true
        → EndsAs midday first starter (Err (NeverStarted n))
    told_6 v z =
        let r = and_split (not (eqb n 0)) (not midday) z in
        go n v (eqb-false n 0 (not-true (eqb n 0) r.0)) (not-true midday r.1)
      where
        go : (n : ℕ) → Never first starter (suc max_job) n → (n ≡ 0 → ⊥) → midday ≡ false
            → EndsAs midday first starter (Err (NeverStarted n))
        go n (nothing none) z d = absurd (z refl)
        go n (found k u lowest) z d = never d (no_5 m low q) k u lowest

    pub told_none : Never first starter (suc max_job) n → (not (eqb n 0) && not midday) ≡ false
        → EndsAs midday first starter (Ok tt)
    told_none v z = neither (no_5 m low q) (λ d. go n v (zero d z))
      where
        zero : midday ≡ false → (not (eqb n 0) && not midday) ≡ false → n ≡ 0
        zero d z = eqb-true n 0 (not-false (eqb n 0) (sym (and_true (not (eqb n 0))) ∙ (rw d at z)))

        go : (n : ℕ) → Never first starter (suc max_job) n → n ≡ 0 → (k : ℕ) → Unstarted first starter k → ⊥
        go n (nothing none) z k u = none k (omega (arith, u.high)) u
        go n (found i w lowest) z k u = omega (arith, w.lined)
