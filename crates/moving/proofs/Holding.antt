-- Does the job of a line hold a device there? Going back in the job, line by line as they count (02, request 2): what
-- is held before the line is what is held before those not yet passed.
use Prim.Native.Nat.{ℕ, suc, ◌≤◌}
use mathlib.Core.Bool.{Bool, true, false, not, ◌&&◌, ◌||◌}
use mathlib.Core.List.{List}
use mathlib.Core.Logic.{◌⊎◌, inl, inr, ◌≢◌}
use mathlib.Core.Path.{◌≡◌, refl, sym, ◌∙◌, ap}
use native.Mathlib.Omega.{arith}
use lib.Dec.{eqb, leb}
use lib.ListN.{get_or}
use borrow.Author.Tests.{eqb-true, leb-false, not-true}
use Rattle.model.specs.Lists.{has}
use Rattle.model.specs.Line.{pack, job, kind, operand, opens, is_held, is_take, is_give, device_of, holds, at}
use Rattle.model.specs.Line.{held_from}
use Rattle.model.specs.WellFormed.{before, held_by, held_there}
use Rattle.theory.specs.Outer.{again_at, plain, plain_at}
use Rattle.theory.specs.Remarked.{names}
use Rattle.line.specs.Device.{device_bits}
use Rattle.theory.proofs.Tests.{clash, falsely, and_split, and_both}
use Rattle.theory.proofs.Lists.{has_head}
use Rattle.theory.proofs.Line.{kind_pack, operand_small, take_opens, held_opens, opens_either, opens_no_give}
use Rattle.theory.proofs.Line.{take_no_held, held_no_take, held_operand, own_device}
use Rattle.theory.proofs.Held.{held_opened}
use Rattle.theory.proofs.Outer.{plain_job, plain_operand}
use Rattle.theory.proofs.Remarked.{holds_none_first, holds_given, holds_still}
use Rattle.plan.specs.Again.{again_flags}
use Rattle.plan.proofs.Again.{plain_is}
use Rattle.moving.specs.Tested.{At}

-- where the search stands before line n, which is of the job
pub record Back (p : List ℕ) (i device n : ℕ) : Type 0 where
  pub low : n ≤ i
  pub of_job : job (at p n) ≡ job (at p i)
  pub same : has device (held_there p i) ≡ has device (held_by (job (at p i)) (before p n))

pub back_end : (p : List ℕ) (i device n : ℕ) → Back p i device n → n ≤ 0 → false ≡ has device (held_there p i)
unfolding before held_by has
back_end p i device n b h = let z : n ≡ 0 = omega arith in sym (b.same ∙ rw z)

neither : (t g e : Bool) → (t && e) ≡ false → (g && e) ≡ false → ((t || g) && e) ≡ false
neither true g e a b = a
neither false g e a b = b

-- the device of a line of kind 1 is what its number leaves below 128
bits_device : (l : ℕ) → opens l ≡ true → device_bits l ≡ device_of l
unfolding is_take operand
bits_device l o = go (opens_either l o)
  where
    go : (is_take l ≡ true) ⊎ (is_held l ≡ true) → device_bits l ≡ device_of l
    go (inl t) =
        let s = and_split (opens l) (not (leb held_from (operand l))) t in
        let b = leb-false held_from (operand l) (not-true (leb held_from (operand l)) s.1) in
        omega (arith, b, own_device l (take_no_held l t))
    go (inr h) = omega (arith, (held_operand l h).1)

-- what opens as it counts is the line itself, and a held line counts as itself
counts_itself : (b : Bool) (l : ℕ) → opens (plain b l) ≡ true → plain b l ≡ l
unfolding plain opens
counts_itself true l o =
    clash (eqb (kind (pack (job l) 0 (operand l))) 1) o
    (rw (kind_pack (job l) 0 (operand l) (omega arith) (operand_small l)))
counts_itself false l o = refl

held_itself : (p : List ℕ) (k : ℕ) → is_held (at p k) ≡ true → plain_at p k ≡ at p k
unfolding plain again_at
held_itself p k h = rw (held_no_take (at p k) h, opens_no_give (at p k) (held_opens (at p k) h))

-- line k is the next, going back, and l what the code makes of it
module _ (p again : List ℕ) (i device n : ℕ) (at_i : At p i) (flags : again ≡ again_flags p) (b : Back p i device n)
    (k : ℕ) (next : n ≡ suc k) (l : ℕ) (made : l ≡ plain (eqb (get_or again k 0) 1) (at p k)) where
  counts : l ≡ plain_at p k
  counts =
      made ∙ plain_is p again k flags
      (omega (arith, b.low, at_i.in_plan, at_i.well_formed.few))

  pub own_job : job l ≡ job (at p k)
  own_job = ap job counts ∙ plain_job (again_at p k) (at p k)

  own_operand : operand l ≡ operand (at p k)
  own_operand = ap operand counts ∙ plain_operand (again_at p k) (at p k)

  abbrev before_k : Bool
  before_k = has device (held_by (job (at p i)) (before p (suc k)))

  here : has device (held_there p i) ≡ before_k
  here = rw next at b.same

  pub back_foreign : job l ≢ job (at p i) → false ≡ has device (held_there p i)
  back_foreign ne =
      sym (here ∙ holds_none_first p at_i.well_formed.rules (job (at p i)) device k
      (omega (arith, b.low, at_i.in_plan)) (rw next at b.of_job) (λ e. ne (own_job ∙ e)))

  module _ (own : job l ≡ job (at p i)) where
    of_job_lem : job (at p k) ≡ job (at p i)
    of_job_lem = sym own_job ∙ own

    -- a take that counts, or a held line
    pub back_take : (opens l && eqb (device_bits l) device) ≡ true → true ≡ has device (held_there p i)
    unfolding before
    back_take t =
        let s = and_split (opens l) (eqb (device_bits l) device) t in
        let e : l ≡ at p k = counts ∙ counts_itself (again_at p k) (at p k) (rw counts at s.0) in
        let d : device_of (at p k) ≡ device =
        ap device_of (sym e) ∙ sym (bits_device l s.0) ∙ eqb-true (device_bits l) device s.1 in
        sym (here
        ∙ ap (has device) (held_opened (job (at p i)) (at p k) (before p k) of_job_lem (ap opens (sym e) ∙ s.0))
        ∙ rw d (has_head device (held_by (job (at p i)) (before p k))))

    pub back_give : (is_give l && eqb (operand l) device) ≡ true → false ≡ has device (held_there p i)
    back_give t =
        let s = and_split (is_give l) (eqb (operand l) device) t in
        sym (here ∙ holds_given p (job (at p i)) device k of_job_lem (sym own_operand ∙ eqb-true (operand l) device s.1)
        (sym (ap is_give counts) ∙ s.0))

    pub back_on : (opens l && eqb (device_bits l) device) ≡ false → (is_give l && eqb (operand l) device) ≡ false
        → Back p i device k
    unfolding names holds
    back_on t g = record {
      low = omega (arith, b.low);
      of_job = of_job_lem;
      same = here ∙ holds_still p at_i.well_formed.rules (job (at p i)) device k of_job_lem
          (rw counts at (neither (is_take l) (is_give l) (eqb (operand l) device) no_take_lem g)) no_held;
    }
      where
        no_take_lem : (is_take l && eqb (operand l) device) ≡ false
        no_take_lem = falsely (is_take l && eqb (operand l) device) (λ h.
            let s = and_split (is_take l) (eqb (operand l) device) h in
            let o = take_opens l s.0 in
            clash (opens l && eqb (device_bits l) device)
            (and_both (opens l) (eqb (device_bits l) device) o
            (rw (bits_device l o, own_device l (take_no_held l s.0)) s.1)) t)

        -- a held line counts as itself
        no_held : holds (at p k) device ≡ false
        no_held = falsely (is_held (at p k) && eqb (device_of (at p k)) device) (λ h.
            let s = and_split (is_held (at p k)) (eqb (device_of (at p k)) device) h in
            let o = held_opens (at p k) s.0 in
            let e : l ≡ at p k = counts ∙ held_itself p k s.0 in
            clash (opens l && eqb (device_bits l) device)
            (rw e (and_both (opens (at p k)) (eqb (device_bits (at p k)) device) o (rw (bits_device (at p k) o) s.1)))
            t)
