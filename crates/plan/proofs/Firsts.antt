-- What the list of first lines says of a job that has a line: the number of its lowest. The order handed out and the
-- judge of an order both read off it where a started job begins.
use Rattle.std.proofs.Common.{◌≡◌, ℕ, suc, ◌<◌, ◌≤◌, Bool, true, false, eqb, ◌⊎◌, List, [], ◌∷◌, map, length, get_or}
use Rattle.std.proofs.Common.{ap, ◌∙◌, inl, inr, arith}
use Rattle.model.specs.Lists.{has}
use Rattle.model.specs.Line.{job, at, first_line, line_number, max_job}
use Rattle.theory.proofs.Lists.{has_none, has_cases, has_suc}
use Rattle.theory.proofs.Claims.{get_or_up_from}
use Rattle.theory.proofs.Successors.{first_is, first_at}
use Rattle.plan.specs.Jobs.{first_lines, number_of_first}

has_one : (i x : ℕ) → has i (x ∷ []) ≡ true → i ≡ x
has_one i x h = go (has_cases i x [] h)
  where
    go : (i ≡ x) ⊎ (has i [] ≡ true) → i ≡ x
    go (inl e) = e
    go (inr m) = has_none i m

-- a job has at most one first line
first_one : (j : ℕ) (ls : List ℕ) (f : ℕ) → has f (first_line j ls) ≡ true → first_line j ls ≡ f ∷ []
unfolding first_line
first_one j [] f h = has_none f h
first_one j (l ∷ ls) f h = go (eqb (job l) j) h (λ g. first_one j ls g)
  where
    go : (b : Bool) → has f (elim b [ true ↦ 0 ∷ [] | false ↦ map suc (first_line j ls) ]) ≡ true
        → ((g : ℕ) → has g (first_line j ls) ≡ true → first_line j ls ≡ g ∷ [])
        → elim b [ true ↦ 0 ∷ [] | false ↦ map suc (first_line j ls) ] ≡ f ∷ []
    go true h ih = rw (has_one f 0 h)
    go false h ih = let r = has_suc f (first_line j ls) h in rw r.1 (ap (map suc) (ih r.0 r.2))

-- the lowest line of job j, and its number in the list
pub record Listed (p : List ℕ) (j : ℕ) : Type 0 where
  pub line : ℕ
  pub in_plan : line < length p
  pub of_job : job (at p line) ≡ j
  pub lowest : (k : ℕ) → k < length p → job (at p k) ≡ j → line ≤ k
  pub number : get_or (first_lines p) j 0 ≡ suc line

pub first_listed : (p : List ℕ) (j k : ℕ) → j ≤ max_job → k < length p → job (at p k) ≡ j → Listed p j
unfolding first_lines number_of_first line_number
first_listed p j k small h e =
    let r = first_at j p k h e in
    let f = r.0 in
    let one = first_one j p f r.1 in
    let its = first_is j p f r.1 in record {
      line = f;
      in_plan = its.0;
      of_job = its.1;
      lowest = λ i l q. (
          let b = first_at j p i l q in
          let y = has_one b.0 f (rw one at b.1) in omega (arith, b.2));
      number = get_or_up_from (λ j. number_of_first (first_line j p)) 0 (suc max_job) j (omega arith)
          ∙ ap (λ (i : ℕ). number_of_first (first_line i p)) (omega arith) ∙ ap number_of_first one;
    }
