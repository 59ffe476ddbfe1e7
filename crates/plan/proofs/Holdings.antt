-- What each job holds after the lines so far, as the walk stores it, and after the last line.
use Rattle.std.proofs.Common.{◌≡◌, ℕ, suc, ◌^◌, ◌<◌, ◌≤◌, true, false, eqb, ◌⊎◌, List, length, get_or, set, sym, ap}
use Rattle.std.proofs.Common.{◌∙◌, inl, inr, arith, length-set, get_or-set_other, get_or-set_same, eqb-true}
use lib.ListN.{length-map, length-replicate, get_or-replicate}
use borrow.Author.Tests.{eqb-false}
use Rattle.model.specs.Board.{devices}
use Rattle.model.specs.Lists.{up_from, has}
use Rattle.model.specs.Line.{job, at, max_job}
use Rattle.model.specs.Sets.{empty, member}
use Rattle.model.specs.WellFormed.{before, held_by}
use Rattle.theory.proofs.Claims.{length_up_from, get_or_up_from}
use Rattle.theory.proofs.Held.{held_foreign}
use Rattle.theory.proofs.Sets.{member_empty, empty_below}
use Rattle.theory.proofs.Tests.{test}
use Rattle.theory.proofs.Where.{member_where, where_below, is_where}
use Rattle.plan.specs.Holdings.{holding, holdings}
use Rattle.plan.specs.Tables.{none_yet}
use Rattle.plan.proofs.Tables.{table_is_lem}

-- ---- while lines are passed

-- the set of what job j holds after the first i lines
pub record HeldSet (p : List ℕ) (i j s : ℕ) : Type 0 where
  pub below : s < 2 ^ devices
  pub same : (d : ℕ) → d < devices → member s d ≡ has d (held_by j (before p i))

-- each job has its entry
pub record Held (p : List ℕ) (i : ℕ) (left : List ℕ) : Type 0 where
  pub long : length left ≡ suc max_job
  pub sets : (j : ℕ) → j ≤ max_job → HeldSet p i j (get_or left j 0)

pub nothing_held : (p : List ℕ) → Held p 0 none_yet
unfolding before held_by has empty
nothing_held p = record {
  long = length-replicate {A = ℕ} (suc max_job) 0;
  sets = λ j h. rw (get_or-replicate {A = ℕ} (suc max_job) j 0 0 (omega arith))
      (record { below = empty_below devices; same = λ d k. member_empty d });
}

-- one line more changes its job's entry alone
pub one_held : (p : List ℕ) (i : ℕ) (left : List ℕ) (s : ℕ) → job (at p i) ≤ max_job
    → HeldSet p (suc i) (job (at p i)) s → Held p i left → Held p (suc i) (set left (job (at p i)) s)
unfolding before
one_held p i left s few now w = record {
  long = length-set left (job (at p i)) s ∙ w.long;
  sets = λ j h. go j h (test (eqb (job (at p i)) j));
}
  where
    go : (j : ℕ) → j ≤ max_job → (eqb (job (at p i)) j ≡ true) ⊎ (eqb (job (at p i)) j ≡ false)
        → HeldSet p (suc i) j (get_or (set left (job (at p i)) s) j 0)
    go j h (inl e) =
        rw (← eqb-true (job (at p i)) j e)
        (rw (get_or-set_same left (job (at p i)) s 0 (omega (arith, w.long))) now)
    go j h (inr e) =
        let n = eqb-false (job (at p i)) j e in
        let o = w.sets j h in
        rw (get_or-set_other left (job (at p i)) j s 0 (λ q. n (sym q))) (record {
          below = o.below;
          same = λ d k. o.same d k ∙ ap (has d) (sym (held_foreign j (at p i) (before p i) n));
        })

-- ---- past the last line

pub all_held : (p left : List ℕ) → Held p (length p) left → left ≡ holdings p
unfolding holdings holding
all_held p left w =
    table_is_lem (holding p) left w.long
    (λ j h. let o = w.sets j h in
    sym (is_where (λ d. has d (held_by j (before p (length p)))) devices (get_or left j 0) o.below o.same))

-- ---- for callers

pub holdings_long : (p : List ℕ) → length (holdings p) ≡ suc max_job
unfolding holdings
holdings_long p = length-map (up_from 0 (suc max_job)) (holding p) ∙ length_up_from 0 (suc max_job)

-- the members of a job's set are the devices that it holds after the last line
pub holding_has : (p : List ℕ) (j d : ℕ) → d < devices
    → member (holding p j) d ≡ has d (held_by j (before p (length p)))
unfolding holding
holding_has p j d h = member_where (λ e. has e (held_by j (before p (length p)))) devices d h

pub holding_below : (p : List ℕ) (j : ℕ) → holding p j < 2 ^ devices
unfolding holding
holding_below p j = where_below (λ e. has e (held_by j (before p (length p)))) devices

-- and so it is of its entry in the list
pub holding_at : (p : List ℕ) (j d : ℕ) → j ≤ max_job → d < devices
    → member (get_or (holdings p) j 0) d ≡ has d (held_by j (before p (length p)))
unfolding holdings
holding_at p j d h k =
    ap (λ (s : ℕ). member s d)
    (get_or_up_from (holding p) 0 (suc max_job) j (omega arith) ∙ ap (holding p) (omega arith))
    ∙ holding_has p j d k
