-- The flags of the lines that take again, line by line (02, request 2).
use Rattle.std.proofs.Common.{◌≡◌, ℕ, suc, ◌<◌, ◌≤◌, Bool, true, false, cond, ◌⊎◌, List, map, length, get_or, set, sym}
use Rattle.std.proofs.Common.{refl, ap, ◌∙◌, inl, inr, arith, length-set, get_or-set_other, get_or-set_same, ext_get_or}
use lib.ListN.{length-map, length-replicate, get_or-replicate}
use lib.ListN.{get_or-eq_default}
use mir.Val.{bool_byte}
use Rattle.model.specs.Lists.{up_from}
use Rattle.model.specs.Line.{kind, is_take, is_give, max_lines}
use Rattle.theory.specs.Outer.{again_at}
use Rattle.theory.proofs.Tests.{le_or_lt}
use Rattle.theory.proofs.Claims.{length_up_from, get_or_up_from}
use Rattle.plan.specs.Again.{again_flag, again_flags, none_again}
use Rattle.plan.proofs.Tables.{up_to}

-- the flags of the first i lines, and none after them
pub record Flagged (p : List ℕ) (i : ℕ) (again : List ℕ) : Type 0 where
  pub long : length again ≡ max_lines
  pub flags : (k : ℕ) → k < i → get_or again k 0 ≡ again_flag p k
  pub others : (k : ℕ) → i ≤ k → get_or again k 0 ≡ 0

pub none_flagged : (p : List ℕ) → Flagged p 0 none_again
none_flagged p = record {
  long = length-replicate {A = ℕ} max_lines 0;
  flags = λ k h. absurd (omega arith);
  others = λ k h. zeros k (le_or_lt max_lines k);
}
  where
    zeros : (k : ℕ) → (max_lines ≤ k) ⊎ (k < max_lines) → get_or none_again k 0 ≡ 0
    zeros k (inl h) = get_or-eq_default none_again 0 {n = k} (omega (arith, length-replicate {A = ℕ} max_lines 0))
    zeros k (inr h) = get_or-replicate {A = ℕ} max_lines k 0 0 h

pub one_flagged : (p : List ℕ) (i : ℕ) (again : List ℕ) (b : Bool) → i < max_lines → b ≡ again_at p i
    → Flagged p i again
    → Flagged p (suc i) (set again i (bool_byte b))
unfolding again_flag
one_flagged p i again b few e f = record {
  long = length-set again i (bool_byte b) ∙ f.long;
  flags = up_to (λ k. get_or (set again i (bool_byte b)) k 0 ≡ again_flag p k) i here
      (λ k h. get_or-set_other again i k (bool_byte b) 0 (λ q. omega arith) ∙ f.flags k h);
  others = λ k h. get_or-set_other again i k (bool_byte b) 0 (λ q. omega arith) ∙ f.others k (omega arith);
}
  where
    byte : (b : Bool) → bool_byte b ≡ cond b 1 0
    byte true = refl
    byte false = refl

    here : get_or (set again i (bool_byte b)) i 0 ≡ again_flag p i
    here = get_or-set_same again i (bool_byte b) 0 (omega (arith, f.long)) ∙ byte b ∙ ap (λ (x : Bool). cond x 1 0) e

-- past the plan no line takes again
none_past : (p : List ℕ) (k : ℕ) → length p ≤ k → again_flag p k ≡ 0
unfolding again_flag again_at is_take is_give kind
none_past p k h = rw (get_or-eq_default p 0 h)

pub all_flagged : (p again : List ℕ) → Flagged p (length p) again → again ≡ again_flags p
unfolding again_flags
all_flagged p again f =
    ext_get_or 0 again (map (again_flag p) (up_from 0 max_lines))
    (f.long ∙ sym (length-map (up_from 0 max_lines) (again_flag p) ∙ length_up_from 0 max_lines))
    (λ k h. go k (le_or_lt (length p) k)
    ∙ sym (get_or_up_from (again_flag p) 0 max_lines k (omega (arith, f.long)) ∙ ap (again_flag p) (omega arith)))
  where
    go : (k : ℕ) → (length p ≤ k) ⊎ (k < length p) → get_or again k 0 ≡ again_flag p k
    go k (inl h) = f.others k h ∙ sym (none_past p k h)
    go k (inr h) = f.flags k h
