-- What the jobs hold after their last lines tells which devices are held to the end, and which have two lasting takes
-- (02, request 4): a job has one lasting take of a device at most.
use Rattle.std.proofs.Common.{◌≡◌, ℕ, zero, suc, ◌^◌, ◌<◌, true, false, leb, ◌≢◌, ◌⊎◌, List, [], ◌∷◌, map, length, sym}
use Rattle.std.proofs.Common.{ap, ◌∙◌, inl, inr, arith}
use Rattle.model.specs.Board.{devices, board}
use Rattle.model.specs.Lists.{up_from, positions, has}
use Rattle.model.specs.Line.{job, is_held, at, max_job}
use Rattle.model.specs.Mate.{lasting}
use Rattle.model.specs.Sets.{empty, union_of, member}
use Rattle.model.specs.Verdict.{keepers}
use Rattle.model.specs.WellFormed.{before, held_by, WellFormed}
use Rattle.model.specs.Kept.{lasts_among, lasts_in, held_to_end}
use Rattle.theory.proofs.Tests.{clash, and_split, and_both, tests_agree}
use Rattle.theory.proofs.Lists.{has_head, has_tail, has_cases, has_up_from, up_from_has, position_has, any_found}
use Rattle.theory.proofs.Lists.{any_at}
use Rattle.theory.proofs.Sets.{member_empty, in_union, in_left_lem, in_right, in_union_of, union_of_in, empty_below}
use Rattle.theory.proofs.Sets.{union_below}
use Rattle.sets.specs.Both.{both}
use Rattle.sets.proofs.Members.{member_both, both_below}
use Rattle.theory.proofs.Line.{line_parts}
use Rattle.theory.proofs.WellFormed.{no_held_in_morning}
use Rattle.theory.proofs.Claims.{takes_line}
use Rattle.theory.proofs.Places.{lasting_parts}
use Rattle.theory.proofs.JobEnds.{holds_lasting, lasting_holds, two_jobs}
use Rattle.theory.proofs.Verdict.{lasts_twice_exactly}
use Rattle.theory.proofs.Where.{is_where}
use Rattle.plan.specs.Holdings.{holding, holdings}
use Rattle.plan.proofs.Holdings.{holding_has, holding_below}
use Rattle.rows.specs.Twice.{twice_in}
use Rattle.rows.specs.Lasting.{held_twice}

-- ---- sets over places

-- two places
record Two (f : ℕ → ℕ) (a n d : ℕ) : Type 0 where
  i : ℕ
  k : ℕ
  apart : i ≢ k
  i_in : has i (up_from a n) ≡ true
  k_in : has k (up_from a n) ≡ true
  i_has : member (f i) d ≡ true
  k_has : member (f k) d ≡ true

module _ (f : ℕ → ℕ) (d : ℕ) where
  in_twice : (a n : ℕ) → member (twice_in (map f (up_from a n))) d ≡ true → Two f a n d
  unfolding twice_in up_from
  in_twice a zero h = clash (member empty d) h (member_empty d)
  in_twice a (suc n) h =
      go (in_union (both (f a) (union_of (map f (up_from (suc a) n)))) (twice_in (map f (up_from (suc a) n))) d h)
      (in_twice (suc a) n)
    where
      go : (member (both (f a) (union_of (map f (up_from (suc a) n)))) d ≡ true)
          ⊎ (member (twice_in (map f (up_from (suc a) n))) d ≡ true)
          → (member (twice_in (map f (up_from (suc a) n))) d ≡ true → Two f (suc a) n d) → Two f a (suc n) d
      go (inl e) ih =
          let s = and_split (member (f a) d) (member (union_of (map f (up_from (suc a) n))) d)
          (sym (member_both (f a) (union_of (map f (up_from (suc a) n))) d) ∙ e) in
          let r = in_union_of f (up_from (suc a) n) d s.1 in
          let b = has_up_from (suc a) n r.0 r.1 in record {
            i = a;
            k = r.0;
            apart = λ q. omega (arith, b.0);
            i_in = has_head a (up_from (suc a) n);
            k_in = has_tail r.0 a (up_from (suc a) n) r.1;
            i_has = s.0;
            k_has = r.2;
          }
      go (inr e) ih = let t = ih e in record {
        i = t.i;
        k = t.k;
        apart = t.apart;
        i_in = has_tail t.i a (up_from (suc a) n) t.i_in;
        k_in = has_tail t.k a (up_from (suc a) n) t.k_in;
        i_has = t.i_has;
        k_has = t.k_has;
      }

  twice_in_lem : (a n : ℕ) → Two f a n d → member (twice_in (map f (up_from a n))) d ≡ true
  unfolding twice_in up_from
  twice_in_lem a zero t = absurd (omega (arith, has_up_from a 0 t.i t.i_in))
  twice_in_lem a (suc n) t =
      go (has_cases t.i a (up_from (suc a) n) t.i_in) (has_cases t.k a (up_from (suc a) n) t.k_in)
      (twice_in_lem (suc a) n)
    where
      one : (x y : ℕ) → x ≡ a → member (f x) d ≡ true → has y (up_from (suc a) n) ≡ true → member (f y) d ≡ true
          → member (twice_in (map f (up_from a (suc n)))) d ≡ true
      one x y e g h m =
          in_left_lem (both (f a) (union_of (map f (up_from (suc a) n)))) (twice_in (map f (up_from (suc a) n))) d
          (member_both (f a) (union_of (map f (up_from (suc a) n))) d
          ∙ and_both (member (f a) d) (member (union_of (map f (up_from (suc a) n))) d)
          (sym (ap (λ (z : ℕ). member (f z) d) e) ∙ g) (union_of_in f (up_from (suc a) n) y d h m))

      go : (t.i ≡ a) ⊎ (has t.i (up_from (suc a) n) ≡ true) → (t.k ≡ a) ⊎ (has t.k (up_from (suc a) n) ≡ true)
          → (Two f (suc a) n d → member (twice_in (map f (up_from (suc a) n))) d ≡ true)
          → member (twice_in (map f (up_from a (suc n)))) d ≡ true
      go (inl x) (inl y) ih = absurd (t.apart (x ∙ sym y))
      go (inl x) (inr y) ih = one t.i t.k x t.i_has y t.k_has
      go (inr x) (inl y) ih = one t.k t.i y t.k_has x t.i_has
      go (inr x) (inr y) ih =
          in_right (both (f a) (union_of (map f (up_from (suc a) n)))) (twice_in (map f (up_from (suc a) n))) d
          (ih (record {
            i = t.i;
            k = t.k;
            apart = t.apart;
            i_in = x;
            k_in = y;
            i_has = t.i_has;
            k_has = t.k_has;
          }))

module _ (D : ℕ) (f : ℕ → ℕ) (small : (j : ℕ) → f j < 2 ^ D) where
  all_below : (xs : List ℕ) → union_of (map f xs) < 2 ^ D
  unfolding union_of
  all_below [] = empty_below D
  all_below (x ∷ xs) = union_below D (f x) (union_of (map f xs)) (small x) (all_below xs)

  twice_below_lem : (xs : List ℕ) → twice_in (map f xs) < 2 ^ D
  unfolding twice_in
  twice_below_lem [] = empty_below D
  twice_below_lem (x ∷ xs) =
      union_below D (both (f x) (union_of (map f xs))) (twice_in (map f xs))
      (both_below D (f x) (union_of (map f xs)) (small x)) (twice_below_lem xs)

-- ---- what the jobs of a plan hold

module _ (p : List ℕ) (w : WellFormed board p) where
  abbrev jobs : List ℕ
  jobs = up_from 0 (suc max_job)

  -- no line is held
  unheld : (i : ℕ) → is_held (at p i) ≡ false
  unheld = no_held_in_morning devices p w

  -- a lasting take stands in the plan, and its job is one of them
  lasts_at : (k d : ℕ) → lasting p k d ≡ true → k < length p
  lasts_at k d l = takes_line p k d (lasting_parts p k d l).0

  of_jobs_lem : (j d : ℕ) → has d (held_by j (before p (length p))) ≡ true → has j jobs ≡ true
  of_jobs_lem j d h =
      let r = holds_lasting p w.rules unheld j d h in
      let b = line_parts board (at p r.0) (w.lines r.0 (lasts_at r.0 d r.1)) in
      up_from_has 0 (suc max_job) j (omega arith) (omega (arith, b.1, r.2))

  -- The theorem: in one of what the jobs hold at their ends are the devices held to the end,
  pub one_of_jobs : union_of (holdings p) ≡ held_to_end devices p
  unfolding holdings held_to_end lasts_in lasts_among
  one_of_jobs =
      is_where (lasts_in p) devices (union_of (map (holding p) jobs))
      (all_below devices (holding p) (holding_below p) jobs)
      (λ d h. tests_agree (member (union_of (map (holding p) jobs)) d) (lasts_in p d) (to d h) (from d h))
    where
      to : (d : ℕ) → d < devices → member (union_of (map (holding p) jobs)) d ≡ true → lasts_in p d ≡ true
      to d h m =
          let r = in_union_of (holding p) jobs d m in
          let k = holds_lasting p w.rules unheld r.0 d (sym (holding_has p r.0 d h) ∙ r.2) in
          any_at (λ i. lasting p i d) (positions p) k.0 (position_has p k.0 (lasts_at k.0 d k.1)) k.1

      from : (d : ℕ) → d < devices → lasts_in p d ≡ true → member (union_of (map (holding p) jobs)) d ≡ true
      from d h m =
          let r = any_found (λ i. lasting p i d) (positions p) m in
          let j = job (at p r.0) in
          let l = lasting_holds p w.rules r.0 d r.2 in
          union_of_in (holding p) jobs j d (of_jobs_lem j d l) (holding_has p j d h ∙ l)

  -- and in two of them those with two lasting takes.
  pub two_of_jobs : twice_in (holdings p) ≡ held_twice devices p
  unfolding holdings held_twice
  two_of_jobs =
      is_where (λ d. leb 2 (length (keepers p d))) devices (twice_in (map (holding p) jobs))
      (twice_below_lem devices (holding p) (holding_below p) jobs)
      (λ d h. tests_agree (member (twice_in (map (holding p) jobs)) d) (leb 2 (length (keepers p d))) (to d h)
      (from d h))
    where
      to : (d : ℕ) → d < devices → member (twice_in (map (holding p) jobs)) d ≡ true
          → leb 2 (length (keepers p d)) ≡ true
      to d h m =
          let t = in_twice (holding p) d 0 (suc max_job) m in
          (lasts_twice_exactly p d).1
          ((two_jobs p w.rules d).1 (
            t.i,
            t.k,
            t.apart,
            sym (holding_has p t.i d h) ∙ t.i_has,
            sym (holding_has p t.k d h) ∙ t.k_has,
          ))

      from : (d : ℕ) → d < devices → leb 2 (length (keepers p d)) ≡ true
          → member (twice_in (map (holding p) jobs)) d ≡ true
      from d h m =
          let t = (two_jobs p w.rules d).0 ((lasts_twice_exactly p d).0 m) in
          twice_in_lem (holding p) d 0 (suc max_job) (record {
            i = t.0;
            k = t.1;
            apart = t.2;
            i_in = of_jobs_lem t.0 d t.3;
            k_in = of_jobs_lem t.1 d t.4;
            i_has = holding_has p t.0 d h ∙ t.3;
            k_has = holding_has p t.1 d h ∙ t.4;
          })
