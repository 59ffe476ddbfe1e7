-- What a move leaves of rows and held set, as the code keeps them, is what `model` says (02, request 4): the devices of
-- the lasting takes on the way from the last line under the take are those of the lines that may change, asked of the
-- edited plan; and a bit taken out and put in is a bit put as it should be.
use Rattle.std.proofs.Common.{◌≡◌, ℕ, ◌^◌, ◌<◌, ◌≤◌, Bool, true, false, cond, not, ◌&&◌, ◌||◌, List, [], ◌∷◌, ◌⊎◌, inl}
use Rattle.std.proofs.Common.{inr, refl, sym, ◌∙◌, ap, arith, eqb, length, get_or, set, eqb-true}
use Rattle.model.specs.Board.{devices, board}
use Rattle.model.specs.Lists.{up_from, has, any, over}
use Rattle.model.specs.Sets.{empty, union, member, put}
use Rattle.model.specs.Line.{operand, is_take, at, max_lines}
use Rattle.model.specs.Mate.{device_at, lasting_at, lasting}
use Rattle.model.specs.Rows.{row_of}
use Rattle.model.specs.WellFormed.{WellFormed}
use Rattle.model.specs.Move.{may_change, from_last}
use Rattle.model.specs.Kept.{lasts_among, lasts_in, held_to_end, concerned, kept_rows, kept_held}
use Rattle.theory.proofs.Tests.{test, tests_agree, and_right, or_false, and_true}
use Rattle.theory.proofs.Lists.{has_up_from, any_found, any_at}
use Rattle.theory.proofs.Sets.{member_union, member_empty, same_members, union_below, member_put, put_below}
use Rattle.theory.proofs.Claims.{outermost}
use Rattle.theory.proofs.Edited.{EditOf}
use Rattle.theory.proofs.Way.{from_last_same, may_change_line}
use Rattle.theory.proofs.LastingKept.{map_same, eqb_turned, lasts_among_same}
use Rattle.theory.proofs.Kept.{member_held, held_below_lem}
use Rattle.sets.specs.Only.{only_of}
use Rattle.sets.specs.Both.{both, without}
use Rattle.sets.proofs.Members.{member_only_of, member_both, member_without, both_below, without_below}
use Rattle.rows.specs.Lasting.{lasting_flag, lasting_flags}
use Rattle.rows.proofs.Entries.{entry_of}
use Rattle.rows.proofs.Wanted.{flag_at}
use Rattle.rows.proofs.Counted.{lasting_is, lasting_takes_lem, taken_operand}
use Rattle.way.specs.Back.{way_by}
use Rattle.way.specs.Flagged.{flagged_by}
use Rattle.kept.specs.Gathered.{rows_by}
use Rattle.kept.specs.Keeping.{row_over, rows_over, held_with, concerned_by}

either_same : {a b c x y z : Bool} → a ≡ x → b ≡ y → c ≡ z → (a || (b || c)) ≡ (x || (y || z))
either_same e f g = cc

-- ---- the devices concerned

-- the devices of lines with a flag, by their members
module _ (p flags : List ℕ) (d : ℕ) (b : d < devices) where
  abbrev flagged_at : ℕ → Bool
  flagged_at k = eqb (get_or flags k 0) 1 && eqb (operand (at p k)) d

  member_one : (flag : Bool) (o : ℕ) → member (cond flag (only_of devices o) empty) d ≡ (flag && eqb o d)
  member_one true o = member_only_of devices o d b
  member_one false o = member_empty d

  turned : (x y z : Bool) → (y || (x || z)) ≡ ((x || y) || z)
  turned true true z = refl
  turned true false z = refl
  turned false true z = refl
  turned false false z = refl

  flagged_member : (is : List ℕ) (s : ℕ) → member (flagged_by p flags is s) d ≡ (any flagged_at is || member s d)
  unfolding flagged_by any
  flagged_member [] s = refl
  flagged_member (k ∷ is) s =
      flagged_member is (union (cond (eqb (get_or flags k 0) 1) (only_of devices (operand (at p k))) empty) s)
      ∙ rw (
        member_union (cond (eqb (get_or flags k 0) 1) (only_of devices (operand (at p k))) empty) s d,
        member_one (eqb (get_or flags k 0) 1) (operand (at p k)),
      ) (turned (flagged_at k) (any flagged_at is) (member s d))

-- two devices and a set
abbrev two_and : ℕ → ℕ → ℕ → ℕ
two_and a b s = union (only_of devices a) (union (only_of devices b) s)

two_and_members : (a b s x : ℕ) → x < devices → member (two_and a b s) x ≡ (eqb a x || (eqb b x || member s x))
two_and_members a b s x h =
    member_union (only_of devices a) (union (only_of devices b) s) x
    ∙ rw (member_only_of devices a x h, member_union (only_of devices b) s x, member_only_of devices b x h)

-- tests that agree on what two lists have, and lists that have the same
any_agree : (f g : ℕ → Bool) (xs ys : List ℕ) → ((k : ℕ) → has k xs ≡ has k ys)
    → ((k : ℕ) → has k xs ≡ true → f k ≡ g k) → any f xs ≡ any g ys
any_agree f g xs ys same agree =
    tests_agree (any f xs) (any g ys)
    (λ m. let r = any_found f xs m in
    any_at g ys r.0 (sym (same r.0) ∙ r.1) (sym (agree r.0 r.1) ∙ r.2))
    (λ m. let r = any_found g ys m in
    let h = same r.0 ∙ r.1 in any_at f xs r.0 h (agree r.0 h ∙ r.2))

module _ (p q : List ℕ) (i e : ℕ) (w : WellFormed board p) (taken : is_take (at p i) ≡ true) (in_plan : i < length p)
    (d : EditOf p i e q) where
  -- a line that may change has its flag
  few : (k : ℕ) → has k (from_last p i) ≡ true → k < max_lines
  few k h = omega (arith, may_change_line p i in_plan k (sym (from_last_same p w.rules i k) ∙ h), w.few)

  flag_lasts : (k x : ℕ) → k < max_lines
      → (eqb (get_or (lasting_flags q) k 0) 1 && eqb (operand (at q k)) x) ≡ lasting q k x
  unfolding lasting_flag
  flag_lasts k x h =
      ap (λ (n : ℕ). eqb n 1 && eqb (operand (at q k)) x) (flag_at q (lasting_flags q) k refl h)
      ∙ go (lasting_at q k) refl ∙ sym (lasting_is q k x)
    where
      go : (b : Bool) → lasting_at q k ≡ b
          → (eqb (cond b 1 0) 1 && eqb (operand (at q k)) x) ≡ (b && eqb (device_at q k) x)
      go true l = rw (taken_operand q k (outermost q k (lasting_takes_lem q k l)).0)
      go false l = refl

  -- lasting takes on that way, asked of the edited plan
  lasts_on_way : (x : ℕ) → x < devices
      → member (flagged_by q (lasting_flags q) (from_last p i) empty) x ≡ lasts_among q (may_change p i) x
  unfolding lasts_among
  lasts_on_way x b =
      flagged_member q (lasting_flags q) x b (from_last p i) empty
      ∙ rw (member_empty x, or_false (any (flagged_at q (lasting_flags q) x b) (from_last p i)))
      (any_agree (flagged_at q (lasting_flags q) x b) (λ k. lasting q k x) (from_last p i) (may_change p i)
      (from_last_same p w.rules i) (λ k h. flag_lasts k x (few k h)))

  -- the set is that of the devices concerned
  pub concerned_is : (starter t : List ℕ) (last old : ℕ) → way_by q t starter last ≡ from_last p i → old ≡ device_at p i
      → (x : ℕ) → x < devices → member (concerned_by q starter t last old e) x ≡ concerned p i e x
  unfolding concerned_by concerned
  concerned_is starter t last old on o x b =
      ap (λ (is : List ℕ). member (two_and old e (flagged_by q (lasting_flags q) is empty)) x) on
      ∙ two_and_members old e (flagged_by q (lasting_flags q) (from_last p i) empty) x b
      ∙ either_same (ap (λ (y : ℕ). eqb y x) o ∙ eqb_turned (device_at p i) x) (eqb_turned e x) (lasts_on_way x b)
      ∙ go (test (eqb x (device_at p i))) (test (eqb x e))
    where
      go : (eqb x (device_at p i) ≡ true) ⊎ (eqb x (device_at p i) ≡ false) → (eqb x e ≡ true) ⊎ (eqb x e ≡ false)
          → (eqb x (device_at p i) || (eqb x e || lasts_among q (may_change p i) x))
          ≡ (eqb x (device_at p i) || (eqb x e || lasts_among p (may_change p i) x))
      go (inl a) c = rw a
      go (inr a) (inl c) = rw (a, c)
      go (inr a) (inr c) = rw (a, c) (lasts_among_same p q i e x taken d a c (may_change p i))

  -- so the rows are those of `model`
  pub rows_kept : (starter t : List ℕ) (last old : ℕ) → way_by q t starter last ≡ from_last p i → old ≡ device_at p i
      → (lent : List ℕ)
      → rows_over (concerned_by q starter t last old e) (rows_by q t) lent
      ≡ over (kept_rows devices q t (concerned p i e) lent) lent
  unfolding rows_over row_over kept_rows
  rows_kept starter t last old on o lent =
      ap (λ (rs : List ℕ). over rs lent)
      (map_same (row_over (concerned_by q starter t last old e) (rows_by q t) lent)
      (λ x. cond (concerned p i e x) (row_of q t x) (get_or lent x 0)) (up_from 0 devices)
      (λ x h. let b : x < devices = omega (arith, (has_up_from 0 devices x h).1) in
      rw (concerned_is starter t last old on o x b, entry_of (row_of q t) 0 devices x b)))

-- ---- the held set

module _ (q : List ℕ) (d : ℕ) (b : d < devices) where
  with_below : (s : ℕ) → s < 2 ^ devices → held_with s (held_to_end devices q) d < 2 ^ devices
  unfolding held_with
  with_below s h =
      union_below devices (without s (only_of devices d)) (both (held_to_end devices q) (only_of devices d))
      (without_below devices s (only_of devices d) h)
      (both_below devices (held_to_end devices q) (only_of devices d) (held_below_lem devices q))

  -- taken out, and put in where it is held to the end
  with_is : (s : ℕ) → s < 2 ^ devices → held_with s (held_to_end devices q) d ≡ put (lasts_in q d) d s
  unfolding held_with
  with_is s h =
      same_members devices (held_with s (held_to_end devices q) d) (put (lasts_in q d) d s) (with_below s h)
      (put_below devices (lasts_in q d) d s b h)
      (λ x c. rw (
        member_union (without s (only_of devices d)) (both (held_to_end devices q) (only_of devices d)) x,
        member_without s (only_of devices d) x,
        member_both (held_to_end devices q) (only_of devices d) x,
        member_only_of devices d x c,
        member_held devices q x c,
        member_put (lasts_in q d) d s x,
      ) (go x (test (eqb d x))))
    where
      go : (x : ℕ) → (eqb d x ≡ true) ⊎ (eqb d x ≡ false)
          → ((member s x && not (eqb d x)) || (lasts_in q x && eqb d x)) ≡ cond (eqb d x) (lasts_in q d) (member s x)
      go x (inl e) =
          rw (e, and_right (member s x) false refl, and_true (lasts_in q x)) (ap (lasts_in q) (sym (eqb-true d x e)))
      go x (inr e) = rw (e, and_true (member s x), and_right (lasts_in q x) false refl, or_false (member s x))

pub held_kept : (q : List ℕ) (old e : ℕ) → old < devices → e < devices → (lent : List ℕ) → 1 ≤ length lent
    → get_or lent 0 0 < 2 ^ devices
    → set lent 0 (held_with (held_with (get_or lent 0 0) (held_to_end devices q) old) (held_to_end devices q) e)
    ≡ over (kept_held q old e (get_or lent 0 0) ∷ []) lent
unfolding over kept_held
held_kept q old e a b (s ∷ lent) room h =
    ap (λ (x : ℕ). x ∷ lent)
    (with_is q e b (held_with s (held_to_end devices q) old) (with_below q old a s h)
    ∙ ap (put (lasts_in q e) e) (with_is q old a s h))
held_kept q old e a b [] room h = absurd (omega arith)
