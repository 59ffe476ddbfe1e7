-- The pass from the end (01, "Claims and rows"): the sets written so far are the end of the table, and what each job
-- claims is at hand.
use Prim.Native.Nat.{ℕ, suc, ◌-◌, ◌+◌, ◌<◌, ◌≤◌}
use mathlib.Core.Bool.{true, false}
use mathlib.Core.List.{List}
use mathlib.Core.Logic.{◌⊎◌, inl, inr}
use mathlib.Core.Path.{◌≡◌, refl, sym, ◌∙◌, ap}
use native.Mathlib.Omega.{arith}
use lib.Dec.{eqb}
use lib.ListN.{length, get_or, drop, set, replicate, length-set, length-take, length-append, length-drop}
use lib.ListN.{get_or-append}
use lib.Seq.{take_all, get_or-take, get_or-drop, get_or-append-add, get_or-set_same, get_or-set_other, ext_get_or}
use borrow.Author.Tests.{eqb-true, eqb-false}
use Rattle.model.specs.Board.{board}
use Rattle.model.specs.Lists.{over}
use Rattle.model.specs.Line.{job, is_line, at}
use Rattle.model.specs.Claims.{table}
use Rattle.theory.proofs.Tests.{test}
use Rattle.theory.specs.Claims.{claim}
use Rattle.theory.specs.Outer.{plain_at}
use Rattle.theory.proofs.Claims.{length_table}
use Rattle.claims.specs.Claim.{operands, claim_of, table_in}
use Rattle.claims.proofs.Claimed.{Claimed, none_claimed, claim_made, claimed_on}

-- ---- a list that is written from its end: from place i on it is the new one

pub record EndOf (new out : List ℕ) (i : ℕ) : Type 0 where
  pub long : length out ≡ length new
  pub is : (k : ℕ) → i ≤ k → k < length new → get_or out k 0 ≡ get_or new k 0

-- one entry more
pub end_on : (new out : List ℕ) (k v : ℕ) → (k < length new → v ≡ get_or new k 0) → EndOf new out (suc k)
    → EndOf new (set out k v) k
end_on new out k v e m = record {
  long = length-set out k v ∙ m.long;
  is = λ i h b. go i h b (test (eqb i k));
}
  where
    go : (i : ℕ) → k ≤ i → i < length new → (eqb i k ≡ true) ⊎ (eqb i k ≡ false)
        → get_or (set out k v) i 0 ≡ get_or new i 0
    go i h b (inl q) =
        let z = eqb-true i k q in
        rw z (get_or-set_same out k v 0 (omega (arith, m.long)) ∙ e (omega arith))
    go i h b (inr q) = let z = eqb-false i k q in get_or-set_other out k i v 0 z ∙ m.is i (omega arith) b

pub end_whole : (new out : List ℕ) → EndOf new out 0 → out ≡ new
end_whole new out m = ext_get_or 0 out new m.long (λ k h. m.is k (omega arith) (omega (arith, m.long)))

-- ---- the table as such a list

module _ (p old : List ℕ) where
  pub length_in : length (table_in p old) ≡ length old
  unfolding table_in over
  length_in =
      length-take (length old) (over (table p) old)
      ∙ omega (arith, length-append (table p) (drop (length (table p)) old), length-drop (length (table p)) old)

  -- nothing is written at the plan's end
  pub none_written : EndOf (table_in p old) old (length p)
  unfolding table_in over
  none_written = record {
    long = sym length_in;
    is = λ k h b.
        let t = table p in
        let e : k ≡ length t + (k - length t) = omega (arith, length_table p) in
        sym (get_or-take (length old) (over t old) k 0 (omega (arith, length_in))
        ∙ ap (λ (n : ℕ). get_or (over t old) n 0) e ∙ get_or-append-add t (drop (length t) old) (k - length t) 0
        ∙ get_or-drop (length t) old (k - length t) 0 ∙ ap (λ (n : ℕ). get_or old n 0) (sym e));
  }

  -- one set more
  pub one_written : (out : List ℕ) (k s : ℕ) → k < length p → s ≡ claim p k → EndOf (table_in p old) out (suc k)
      → EndOf (table_in p old) (set out k s) k
  unfolding table_in over
  one_written out k s h e m =
      end_on (table_in p old) out k s
      (λ b. e ∙ sym (get_or-take (length old) (over (table p) old) k 0 (omega (arith, length_in))
      ∙ get_or-append (table p) (drop (length (table p)) old) 0 k (omega (arith, length_table p)))) m

  -- with room for it the whole table stands there
  pub whole_table : length p ≤ length old → table_in p old ≡ over (table p) old
  unfolding table_in over
  whole_table room =
      take_all (length old) (over (table p) old)
      (omega (
        arith,
        length-append (table p) (drop (length (table p)) old),
        length-drop (length (table p)) old,
        length_table p,
      ))

-- ---- what is done where the pass stands at line i

pub record Done (p old out claimed : List ℕ) (i : ℕ) : Type 0 where
  pub in_plan : i ≤ length p
  pub same : length out ≡ length old
  pub written : EndOf (table_in p old) out i
  pub claims : Claimed p claimed i

pub none_done : (p old : List ℕ) → Done p old old (replicate operands 0) (length p)
none_done p old = record { in_plan = omega arith; same = refl; written = none_written p old; claims = none_claimed p }

-- one line further back, with what the code made of the line and its job j
pub one_done : (p old out claimed : List ℕ) (k j s : ℕ) → Done p old out claimed (suc k)
    → is_line board (at p k) ≡ true → j ≡ job (at p k) → s ≡ claim_of (plain_at p k) (get_or claimed j 0) claimed
    → Done p old (set out k s) (set claimed j s) k
one_done p old out claimed k j s d ok e is =
    let made : s ≡ claim p k = is ∙ rw e (claim_made p claimed k d.claims d.in_plan ok) in record {
      in_plan = omega (arith, d.in_plan);
      same = length-set out k s ∙ d.same;
      written = one_written p old out k s d.in_plan made d.written;
      claims = rw (made, e) (claimed_on p claimed k d.claims d.in_plan ok);
    }

-- at the front the whole table is written
pub all_done : (p old out claimed : List ℕ) → length p ≤ length old → Done p old out claimed 0
    → out ≡ over (table p) old
all_done p old out claimed room d = end_whole (table_in p old) out d.written ∙ whole_table p old room
