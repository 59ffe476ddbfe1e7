-- The places taken are two sets side by side, of jobs and of devices: what taking and leaving a place changes, and
-- which place is the foremost.
use Rattle.std.proofs.Common.{◌≡◌, ℕ, ◌+◌, ◌-◌, ◌<◌, ◌≤◌, Bool, true, false, cond, not, ◌||◌, ◌&&◌, ◌⊎◌, inl, inr, refl}
use Rattle.std.proofs.Common.{sym, ◌∙◌, arith, eqb, ltb, eqb-true, eq-eqb, ne_eqb, lt-ltb, le-ltb}
use Rattle.model.specs.Sets.{union, member, lowest_of}
use Rattle.model.specs.Line.{max_job}
use Rattle.model.specs.Board.{devices}
use Rattle.theory.proofs.Tests.{tests_agree, and_split, and_second, le_or_lt}
use Rattle.theory.proofs.Sets.{member_union}
use Rattle.sets.specs.Only.{only_of}
use Rattle.sets.specs.Both.{both, without}
use Rattle.sets.proofs.Members.{member_only_of, member_both, member_without, Lowest, found, nothing, lowest}
use Rattle.verdict.specs.declared.waiting.Waiting.{Waiting}
use Rattle.verdict.specs.Waiting.{all_places, waits, with_set, taken, vacated, foremost}

module _ (w : Waiting) (s : ℕ) where
  by_job : s < max_job → waits w s ≡ member w.ready s
  unfolding waits
  by_job h = rw (lt-ltb s max_job h)

  by_device : max_job ≤ s → waits w s ≡ member w.awaited (s - max_job)
  unfolding waits
  by_device h = rw (le-ltb s max_job h)

-- ---- a change of the set that has place s, by what it does to a set

module _ (f : ℕ → ℕ → ℕ) (g : Bool → Bool → Bool)
    (law : (t u d : ℕ) → member (f t u) d ≡ g (member t d) (member u d)) (keeps : (a : Bool) → a ≡ g a false) where
  waits_changed : (w : Waiting) (s e : ℕ) → e < all_places → waits (with_set f w s) e ≡ g (waits w e) (eqb s e)
  unfolding with_set
  waits_changed w s e h = go (le_or_lt max_job s) (le_or_lt max_job e)
    where
      in_jobs : Waiting
      in_jobs = record { ready = f w.ready (only_of max_job s); awaited = w.awaited; scarce = w.scarce }

      in_devices : Waiting
      in_devices = record {
        ready = w.ready;
        awaited = f w.awaited (only_of devices (s - max_job));
        scarce = w.scarce;
      }

      shifted : max_job ≤ s → max_job ≤ e → eqb (s - max_job) (e - max_job) ≡ eqb s e
      shifted a b =
          tests_agree (eqb (s - max_job) (e - max_job)) (eqb s e)
          (λ q. eq-eqb s e (omega (arith, eqb-true (s - max_job) (e - max_job) q)))
          (λ q. eq-eqb (s - max_job) (e - max_job) (omega (arith, eqb-true s e q)))

      go : (max_job ≤ s) ⊎ (s < max_job) → (max_job ≤ e) ⊎ (e < max_job)
          → waits (cond (ltb s max_job) in_jobs in_devices) e ≡ g (waits w e) (eqb s e)
      go (inr a) (inr b) =
          rw (lt-ltb s max_job a)
          (by_job in_jobs e b ∙ law w.ready (only_of max_job s) e ∙ rw (by_job w e b, member_only_of max_job s e b))
      go (inr a) (inl b) =
          rw (lt-ltb s max_job a, ne_eqb s e (λ q. omega arith))
          (by_device in_jobs e b ∙ sym (by_device w e b) ∙ keeps (waits w e))
      go (inl a) (inr b) =
          rw (le-ltb s max_job a, ne_eqb s e (λ q. omega arith))
          (by_job in_devices e b ∙ sym (by_job w e b) ∙ keeps (waits w e))
      go (inl a) (inl b) =
          rw (le-ltb s max_job a)
          (by_device in_devices e b ∙ law w.awaited (only_of devices (s - max_job)) (e - max_job)
          ∙ rw (by_device w e b, member_only_of devices (s - max_job) (e - max_job) (omega arith), shifted a b))

pub waits_taken : (w : Waiting) (s e : ℕ) → e < all_places → waits (taken w s) e ≡ (waits w e || eqb s e)
unfolding taken
waits_taken w s e h = waits_changed union (λ a b. a || b) member_union same w s e h
  where
    same : (a : Bool) → a ≡ (a || false)
    same true = refl
    same false = refl

pub waits_vacated : (w : Waiting) (s e : ℕ) → e < all_places → waits (vacated w s) e ≡ (waits w e && not (eqb s e))
unfolding vacated
waits_vacated w s e h = waits_changed without (λ a b. a && not b) member_without same w s e h
  where
    same : (a : Bool) → a ≡ (a && not false)
    same true = refl
    same false = refl

-- ---- the place that goes next

pub data Foremost (w : Waiting) : ℕ → Type 0 where
  of_job : (s : ℕ) → s < max_job → waits w s ≡ true → ((k : ℕ) → k < s → waits w k ≡ false) → Foremost w s
  of_device : ((k : ℕ) → k < max_job → waits w k ≡ false)
      → (d : ℕ) → d < devices → waits w (max_job + d) ≡ true → member w.scarce d ≡ true
      → ((e : ℕ) → e < d → waits w (max_job + e) ≡ true → member w.scarce e ≡ false) → Foremost w (max_job + d)
  of_none : ((k : ℕ) → k < max_job → waits w k ≡ false)
      → ((e : ℕ) → e < devices → waits w (max_job + e) ≡ true → member w.scarce e ≡ false)
      → Foremost w (max_job + devices)

pub the_foremost : (w : Waiting) → Foremost w (foremost w)
unfolding foremost
the_foremost w = jobs (lowest_of max_job w.ready) (lowest max_job w.ready)
  where
    free : ℕ
    free = both w.awaited w.scarce

    at_device : (d : ℕ) → waits w (max_job + d) ≡ member w.awaited d
    at_device d = let z : max_job + d - max_job ≡ d = omega arith in by_device w (max_job + d) (omega arith) ∙ rw z

    not_both : (d : ℕ) → member free d ≡ false → waits w (max_job + d) ≡ true → member w.scarce d ≡ false
    not_both d n h =
        and_second (member w.awaited d) (member w.scarce d) (sym (at_device d) ∙ h)
        (sym (member_both w.awaited w.scarce d) ∙ n)

    devs : ((k : ℕ) → k < max_job → waits w k ≡ false) → (d : ℕ) → Lowest devices free d → Foremost w (max_job + d)
    devs idle d (found m h e low) =
        let r = and_split (member w.awaited d) (member w.scarce d)
        (sym (member_both w.awaited w.scarce d) ∙ e) in
        of_device idle d h (at_device d ∙ r.0) r.1 (λ k g. not_both k (low k g))
    devs idle d (nothing f) = of_none idle (λ k g. not_both k (f k g))

    jobs : (j : ℕ) → Lowest max_job w.ready j
        → Foremost w (cond (ltb j max_job) j (max_job + lowest_of devices free))
    jobs j (found m h e low) =
        rw (lt-ltb j max_job h) (of_job j h (by_job w j h ∙ e) (λ k g. by_job w k (omega arith) ∙ low k g))
    jobs j (nothing f) = devs (λ k g. by_job w k g ∙ f k g) (lowest_of devices free) (lowest devices free)
