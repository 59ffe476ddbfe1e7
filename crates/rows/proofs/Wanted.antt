-- Lasting takes by going back (01, "Rules of a well-formed plan"): gives match the take made last, so a take is lasting
-- exactly if it is outermost (02, request 2) and no give of its job after it still wants a take. For any plan.
use Rattle.std.proofs.Common.{◌≡◌, ℕ, zero, suc, ◌-◌, ◌<◌, ◌≤◌, Bool, true, false, cond, ◌&&◌, eqb, leb, ◌⊎◌, List, []}
use Rattle.std.proofs.Common.{◌∷◌, length, get_or, drop, sym, refl, ap, ◌∙◌, inl, inr, arith, eq-eqb, ne_eqb, eqb-true}
use Rattle.std.proofs.Common.{le-leb}
use mathlib.Core.Option.{none, some}
use borrow.Author.Tests.{eqb-false, lt-leb}
use Rattle.model.specs.Line.{job, opens, is_take, is_give, at, max_lines}
use Rattle.model.specs.Mate.{takes_at, mate_in, mate, is_none, lasting_at}
use Rattle.theory.specs.Outer.{plain_at}
use Rattle.theory.proofs.Tests.{test, leb_agree}
use Rattle.theory.proofs.Outer.{plain_take}
use Rattle.rows.specs.Lasting.{lasting_flag, lasting_flags, wanted_before, wanted_after}
use Rattle.rows.proofs.Entries.{entry_of}

-- how many gives of job j, at the front of some lines, want a take before them
unfoldable pub wanted : ℕ → List ℕ → ℕ
wanted j [] = 0
wanted j (l ∷ ls) = cond (eqb (job l) j) (wanted_before l (wanted j ls)) 0

-- no more than there are lines
pub wanted_few : (j : ℕ) (ls : List ℕ) → wanted j ls ≤ length ls
unfolding wanted wanted_before
wanted_few j [] = omega arith
wanted_few j (l ∷ ls) = go (eqb (job l) j) (opens l) (is_give l) (wanted j ls) (wanted_few j ls)
  where
    go : (x y z : Bool) (w : ℕ) → w ≤ length ls → cond x (cond y (w - 1) (cond z (suc w) w)) 0 ≤ suc (length ls)
    go false y z w h = omega arith
    go true true z w h = omega arith
    go true false true w h = omega arith
    go true false false w h = omega arith

-- The search for a mate finds none exactly if no more is wanted than its depth.
none_mates : (j depth i : ℕ) (ls : List ℕ) → is_none (mate_in j depth i ls) ≡ leb (wanted j ls) depth
unfolding mate_in is_none wanted wanted_before
none_mates j depth i [] = sym (le-leb 0 depth (omega arith))
none_mates j depth i (l ∷ ls) =
    go (eqb (job l) j) (opens l) (is_give l) depth (wanted j ls) (λ e. none_mates j e (suc i) ls)
  where
    go : (x y z : Bool) (depth w : ℕ) → ((e : ℕ) → is_none (mate_in j e (suc i) ls) ≡ leb w e)
        → is_none (elim x [
          | false ↦ none
          | true ↦ elim y [
            | true ↦ mate_in j (suc depth) (suc i) ls
            | false ↦ elim z [
              | true ↦ elim depth [ zero ↦ some i | suc less ↦ mate_in j less (suc i) ls ]
              | false ↦ mate_in j depth (suc i) ls
            ]
          ]
        ])
        ≡ leb (cond x (cond y (w - 1) (cond z (suc w) w)) 0) depth
    go false y z depth w ih = sym (le-leb 0 depth (omega arith))
    go true true z depth w ih =
        ih (suc depth) ∙ leb_agree w (suc depth) (w - 1) depth (λ h. omega arith) (λ h. omega arith)
    go true false true zero w ih = sym (lt-leb (suc w) 0 (omega arith))
    go true false true (suc depth) w ih =
        ih depth ∙ leb_agree w depth (suc w) (suc depth) (λ h. omega arith) (λ h. omega arith)
    go true false false depth w ih = ih depth

-- ---- the walk back

-- what the walk knows before the lines ls: the job of the first of them, and what is wanted there
pub record Wanting (ls : List ℕ) (j w : ℕ) : Type 0 where
  pub job_is : j ≡ job (at ls 0)
  pub wanted_is : w ≡ wanted (job (at ls 0)) ls

pub none_wanting : Wanting [] 0 0
unfolding wanted job
none_wanting = record { job_is = refl; wanted_is = refl }

-- what is wanted after a line of whatever job
pub after_is : (l : ℕ) (ls : List ℕ) (j w : ℕ) → Wanting ls j w → wanted_after l j w ≡ wanted (job l) ls
unfolding wanted_after wanted
after_is l ls j w m = rw (m.job_is, m.wanted_is) (go ls (test (eqb (job l) (job (at ls 0)))))
  where
    go : (ls : List ℕ) → (eqb (job l) (job (at ls 0)) ≡ true) ⊎ (eqb (job l) (job (at ls 0)) ≡ false)
        → cond (eqb (job l) (job (at ls 0))) (wanted (job (at ls 0)) ls) 0 ≡ wanted (job l) ls
    go ls (inl e) = rw e (ap (λ (j : ℕ). wanted j ls) (sym (eqb-true (job l) (job (at ls 0)) e)))
    go [] (inr e) = rw e
    go (k ∷ ls) (inr e) = rw (e, ne_eqb (job k) (job l) (λ q. eqb-false (job l) (job k) e (sym q)))

module _ (l : ℕ) (ls : List ℕ) (j w : ℕ) (after : wanted_after l j w ≡ wanted (job l) ls) where
  -- one line further back
  pub wanting_on : Wanting (l ∷ ls) (job l) (wanted_before l (wanted_after l j w))
  unfolding wanted
  wanting_on = record {
    job_is = refl;
    wanted_is = ap (wanted_before l) after ∙ sym (rw (eq-eqb (job l) (job l) refl));
  }

  -- what stands at the line has no mate exactly if it serves no give
  no_mate : (p : List ℕ) (k : ℕ) → at p k ≡ l → drop (suc k) p ≡ ls → eqb (wanted_after l j w) 0 ≡ is_none (mate p k)
  unfolding mate
  no_mate p k e f = rw (e, f, after, none_mates (job l) 0 (suc k) ls) (zero_test (wanted (job l) ls))
    where
      zero_test : (n : ℕ) → eqb n 0 ≡ leb n 0
      zero_test zero = refl
      zero_test (suc n) = ne_eqb (suc n) 0 (λ q. omega arith) ∙ sym (lt-leb (suc n) 0 (omega arith))

  -- a line that counts as a take and serves no give lasts
  pub lasts_is_lem : (p : List ℕ) (k : ℕ) → at p k ≡ l → drop (suc k) p ≡ ls
      → (is_take (plain_at p k) && eqb (wanted_after l j w) 0) ≡ lasting_at p k
  unfolding lasting_at
  lasts_is_lem p k e f = rw (plain_take p k) (ap (λ b. takes_at p k && b) (no_mate p k e f))

-- the flag of a line that is read off the plan's flags
pub flag_at : (p flags : List ℕ) (k : ℕ) → flags ≡ lasting_flags p → k < max_lines → get_or flags k 0 ≡ lasting_flag p k
unfolding lasting_flags
flag_at p flags k e h = rw e (entry_of (lasting_flag p) 0 max_lines k h)
