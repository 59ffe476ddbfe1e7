-- What a pass from the plan's end keeps (01, "Claims and rows"): at each job's number the set of the first of its lines
-- that the pass has met. Of it a line's claim set is made, and with that it is kept one line further back.
use Prim.Native.Nat.{ℕ, suc, ◌<◌}
use mathlib.Core.Bool.{true, false}
use mathlib.Core.List.{List, ◌∷◌}
use mathlib.Core.Logic.{◌⊎◌, inl, inr}
use mathlib.Core.Path.{◌≡◌, refl, sym, ◌∙◌, ap}
use native.Mathlib.Omega.{arith}
use lib.Dec.{eqb}
use lib.ListN.{length, get_or, drop, set, replicate, length-set, get_or-replicate, drop_of_length-le}
use lib.Seq.{drop-cons, get_or-set_same, get_or-set_other}
use borrow.Author.Tests.{eqb-true, eqb-false}
use Rattle.model.specs.Board.{board}
use Rattle.model.specs.Sets.{empty, union, union_of}
use Rattle.model.specs.Line.{Settings, job, operand, is_line, at, first_line}
use Rattle.model.specs.Claims.{own, joined, table}
use Rattle.theory.proofs.Tests.{test}
use Rattle.theory.proofs.Line.{line_parts}
use Rattle.theory.specs.Claims.{claim}
use Rattle.theory.specs.Outer.{plain_at}
use Rattle.theory.proofs.Claims.{claim_is, length_table}
use Rattle.claims.specs.Claim.{operands, begun_of, claim_of}
use Rattle.claims.proofs.Joining.{set_of, beyond_is, set_here, set_there, own_is, begun_is}

-- what job j claims from line i on
abbrev pub claim_from : List ℕ → ℕ → ℕ → ℕ
claim_from p i j = set_of (drop i (table p)) (drop i p) j

pub record Claimed (p claimed : List ℕ) (i : ℕ) : Type 0 where
  pub long : length claimed ≡ operands
  pub are : (j : ℕ) → j < operands → get_or claimed j 0 ≡ claim_from p i j

-- the job of a line has its place
pub job_place : (S : Settings) (l : ℕ) → is_line S l ≡ true → job l < operands
job_place S l h = omega (arith, (line_parts S l h).1)

-- at the plan's end no job has a line
pub none_claimed : (p : List ℕ) → Claimed p (replicate operands 0) (length p)
unfolding joined union_of empty first_line
none_claimed p = record {
  long = refl;
  are = λ j h. get_or-replicate {A = ℕ} operands j 0 0 h
      ∙ ap (λ ls. set_of (drop (length p) (table p)) ls j) (sym (drop_of_length-le p {i = length p} (omega arith)));
}

module _ (p claimed : List ℕ) (k : ℕ) (m : Claimed p claimed (suc k)) (h : k < length p)
    (ok : is_line board (at p k) ≡ true) where
  abbrev l : ℕ
  l = at p k

  pub next_is_lem : get_or claimed (job (at p k)) 0 ≡ claim_from p (suc k) (job (at p k))
  next_is_lem = m.are (job l) (job_place board l ok)

  -- what the code makes of a line is the table's set
  pub claim_made : claim_of (plain_at p k) (get_or claimed (job (at p k)) 0) claimed ≡ claim p k
  unfolding claim_of begun_of operand
  claim_made =
      rw (own_is board p k ok, begun_is p claimed k, next_is_lem, m.are (operand l) (omega arith))
      (ap (union (own p k)) (sym (beyond_is p (table p) k)) ∙ sym (claim_is p k h))

  -- the first of the job's lines is now this one, and the other jobs have theirs
  pub claimed_on : Claimed p (set claimed (job (at p k)) (claim p k)) k
  claimed_on = record {
    long = length-set claimed (job l) (claim p k) ∙ m.long;
    are = λ j b. go j b (test (eqb (job l) j))
        ∙ ap (λ xs. set_of xs (l ∷ drop (suc k) p) j)
        (sym (drop-cons (table p) k 0 (omega (arith, h, length_table p))))
        ∙ ap (λ ls. set_of (drop k (table p)) ls j) (sym (drop-cons p k 0 h));
  }
    where
      go : (j : ℕ) → j < operands → (eqb (job l) j ≡ true) ⊎ (eqb (job l) j ≡ false)
          → get_or (set claimed (job l) (claim p k)) j 0
          ≡ set_of (claim p k ∷ drop (suc k) (table p)) (l ∷ drop (suc k) p) j
      go j b (inl e) =
          ap (λ (x : ℕ). get_or (set claimed x (claim p k)) j 0) (eqb-true (job l) j e)
          ∙ get_or-set_same claimed j (claim p k) 0 (omega (arith, m.long))
          ∙ sym (set_here (claim p k) l (drop (suc k) (table p)) (drop (suc k) p) j e)
      go j b (inr e) =
          get_or-set_other claimed (job l) j (claim p k) 0 (λ q. eqb-false (job l) j e (sym q))
          ∙ m.are j b
          ∙ sym (set_there (claim p k) l (drop (suc k) (table p)) (drop (suc k) p) j e)
