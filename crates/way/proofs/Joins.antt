-- With the first lines of a well-formed plan, a line's set is joined as `model` joins it: with what comes next in its
-- job, and with what a start begins, whose place the table has.
use Prim.Native.Nat.{ℕ, zero, suc, ◌+◌, ◌<◌, ◌≤◌}
use mathlib.Core.Bool.{true, false, cond}
use mathlib.Core.List.{List, [], ◌∷◌}
use mathlib.Core.Logic.{◌⊎◌, inl, inr, ◌≢◌}
use mathlib.Core.Path.{◌≡◌, refl, sym, ◌∙◌, ap}
use native.Mathlib.Omega.{arith}
use lib.Dec.{eqb}
use lib.ListN.{length, get_or, drop, length-drop, get_or-eq_default}
use lib.Seq.{drop-cons, get_or-drop}
use borrow.Author.Tests.{eqb-true, eqb-false, ne_eqb}
use Rattle.model.specs.Lists.{has}
use Rattle.model.specs.Sets.{empty, union_of}
use Rattle.model.specs.Line.{job, kind, operand, is_start, starts, at, line_number, has_lines, first_line}
use Rattle.model.specs.Board.{board_at}
use Rattle.model.specs.WellFormed.{WellFormed}
use Rattle.model.specs.Claims.{joined}
use Rattle.model.specs.Move.{rejoined}
use Rattle.plan.specs.Jobs.{number_of_first, first_lines}
use Rattle.plan.specs.Again.{again_flags}
use Rattle.plan.proofs.Again.{plain_is}
use Rattle.theory.proofs.Tests.{test, le_or_lt}
use Rattle.theory.proofs.Lists.{has_none, has_head}
use Rattle.theory.proofs.Line.{line_parts, start_of, start_operand}
use Rattle.theory.proofs.WellFormed.{any_line}
use Rattle.theory.proofs.Successors.{first_is, first_at, jobs_grow}
use Rattle.claims.specs.Claim.{own_of, claim_with}
use Rattle.claims.proofs.Joining.{AtMostOne, one, at_most_one, set_of, union_none, set_here, set_there}
use Rattle.claims.proofs.Joining.{beyond_is, own_is}
use Rattle.way.specs.Join.{next_set, begun_set, rejoined_by}
use Rattle.way.proofs.Numbered.{first_at_job}

-- a job that has no line there has no set
no_set : (t ls : List ℕ) (j : ℕ) → ((o : ℕ) → o < length ls → job (at ls o) ≢ j) → set_of t ls j ≡ empty
unfolding joined union_of
no_set t ls j f = go (first_line j ls) refl (at_most_one j ls)
  where
    go : (xs : List ℕ) → first_line j ls ≡ xs → AtMostOne xs → joined t (first_line j ls) ≡ empty
    go [] e a = ap (joined t) e
    go (x ∷ []) e (one o) =
        let r = first_is j ls o (rw e (has_head o [])) in absurd (f o r.0 r.1)
    go (x ∷ (_ ∷ _)) e a = elim a [ ]

-- lines before the first of a job do not matter to its set
past_others : (n j : ℕ) (p t : List ℕ) → length p ≤ length t → ((k : ℕ) → k < n → job (at p k) ≢ j)
    → set_of (drop n t) (drop n p) j ≡ set_of t p j
past_others zero j p t room f = refl
past_others (suc n) j [] t room f =
    no_set (drop (suc n) t) [] j (λ o lt. absurd (omega arith)) ∙ sym (no_set t [] j (λ o lt. absurd (omega arith)))
past_others (suc n) j (l ∷ p) [] room f = absurd (omega arith)
past_others (suc n) j (l ∷ p) (s ∷ t) room f =
    past_others n j p t (omega arith) (λ k lt. f (suc k) (omega arith))
    ∙ sym (set_there s l t p j (ne_eqb (job l) j (f 0 (omega arith))))

module _ (p t : List ℕ) (w : WellFormed (board_at true) p) (room : length p ≤ length t) (i : ℕ) (h : i < length p) where
  -- ---- the next line

  -- past the end stands 0, which is of no job
  none_later : job (at p (suc i)) ≢ job (at p i) → set_of (drop (suc i) t) (drop (suc i) p) (job (at p i)) ≡ empty
  none_later n = no_set (drop (suc i) t) (drop (suc i) p) (job (at p i)) other
    where
      other : (o : ℕ) → o < length (drop (suc i) p) → job (at (drop (suc i) p) o) ≢ job (at p i)
      other o lt e =
          let b : suc i + o < length p = omega (arith, length-drop (suc i) p) in
          n
          (omega (
            arith,
            sym (ap job (get_or-drop (suc i) p o 0)) ∙ e,
            jobs_grow p w.rules i (suc i) (omega arith) (omega arith),
            jobs_grow p w.rules (suc i) (suc i + o) (omega arith) b,
          ))

  pub next_is_lem : next_set p t i ≡ set_of (drop (suc i) t) (drop (suc i) p) (job (at p i))
  unfolding next_set job
  next_is_lem = go (test (eqb (job (at p (suc i))) (job (at p i))))
    where
      -- a line has a job, and 0 has none
      inside : job (at p (suc i)) ≡ job (at p i) → (length p ≤ suc i) ⊎ (suc i < length p) → suc i < length p
      inside e (inl le) =
          let z : at p (suc i) ≡ 0 = get_or-eq_default p 0 le in
          absurd (omega (arith, ap job z, (line_parts (board_at true) (at p i) (w.lines i h)).0))
      inside e (inr lt) = lt

      go : (eqb (job (at p (suc i))) (job (at p i)) ≡ true) ⊎ (eqb (job (at p (suc i))) (job (at p i)) ≡ false)
          → cond (eqb (job (at p (suc i))) (job (at p i))) (get_or t (suc i) 0) empty
          ≡ set_of (drop (suc i) t) (drop (suc i) p) (job (at p i))
      go (inl e) =
          let lt = inside (eqb-true (job (at p (suc i))) (job (at p i)) e) (le_or_lt (length p) (suc i)) in
          rw (e, drop-cons p (suc i) 0 lt, drop-cons t (suc i) 0 (omega arith))
          (sym (set_here (get_or t (suc i) 0) (at p (suc i)) (drop (suc (suc i)) t) (drop (suc (suc i)) p)
          (job (at p i)) e))
      go (inr e) = rw e (sym (none_later (eqb-false (job (at p (suc i))) (job (at p i)) e)))

  -- ---- the started job's first line

  module _ (s : is_start (at p i) ≡ true) where
    j : ℕ
    j = operand (at p i)

    starts_it : starts (at p i) j ≡ true
    unfolding j
    starts_it = start_of (at p i) s

    -- no line up to the start is of the started job
    above : (k : ℕ) → k < suc i → job (at p k) ≢ j
    above k lt e = omega (arith, w.rules.start_higher i j starts_it, jobs_grow p w.rules k i (omega arith) h)

    first_is_there : get_or (empty ∷ t) (get_or (first_lines p) j 0) 0 ≡ set_of (drop (suc i) t) (drop (suc i) p) j
    unfolding j is_start has_lines number_of_first line_number joined union_of
    first_is_there =
        rw (first_at_job p j (start_operand (board_at true) (at p i) (w.lines i h) (eqb-true (kind (at p i)) 3 s)))
        (go (first_line j p) refl (at_most_one j p))
        ∙ sym (past_others (suc i) j p t room above)
      where
        there : (f : ℕ) × (has f (first_line j p) ≡ true)
        there =
            let r = any_line (λ l. eqb (job l) j) p (w.rules.start_has_lines i j starts_it) in
            let f = first_at j p r.0 r.1 (eqb-true (job (at p r.0)) j r.2) in
            (f.0, f.1)

        go : (xs : List ℕ) → first_line j p ≡ xs → AtMostOne xs
            → get_or (empty ∷ t) (number_of_first (first_line j p)) 0 ≡ set_of t p j
        go [] e a = has_none there.0 (rw e at there.1)
        go (x ∷ []) e (one o) = rw e (sym (union_none (get_or t o 0)))
        go (x ∷ (_ ∷ _)) e a = elim a [ ]

  begun_is : begun_set (at p i) t (first_lines p)
      ≡ cond (is_start (at p i)) (set_of (drop (suc i) t) (drop (suc i) p) (operand (at p i))) empty
  unfolding begun_set j
  begun_is = go (test (is_start (at p i)))
    where
      go : (is_start (at p i) ≡ true) ⊎ (is_start (at p i) ≡ false)
          → cond (is_start (at p i)) (get_or (empty ∷ t) (get_or (first_lines p) (operand (at p i)) 0) 0) empty
          ≡ cond (is_start (at p i)) (set_of (drop (suc i) t) (drop (suc i) p) (operand (at p i))) empty
      go (inl s) = rw s (first_is_there s)
      go (inr s) = rw s

  -- The theorem: a line's set is joined as `model` joins it.
  pub rejoined_is : rejoined_by p (again_flags p) (first_lines p) t i ≡ rejoined p t i
  unfolding rejoined_by claim_with own_of rejoined
  rejoined_is =
      rw (plain_is p (again_flags p) i refl (omega (arith, w.few)))
      (cc (own_is (board_at true) p i (w.lines i h), beyond_is p t i, next_is_lem, begun_is))
