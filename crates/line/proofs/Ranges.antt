-- That what the code tests of a job, a verb and an operand is `line_fits` (01, the table of "The plan as text"): the
-- ranges of the operands as the code has them, and a held line as a take of its device (02, request 5). And what the
-- number of a line says of held lines and their devices.
use mathlib.Core.Path.{◌≡◌, refl, sym, ◌∙◌, ap}
use mathlib.Core.Bool.{Bool, true, false, cond, not, ◌&&◌, ◌||◌}
use mathlib.Core.Logic.{◌⊎◌, inl, inr}
use Prim.Native.Nat.{ℕ, zero, suc, ◌+◌, ◌-◌, ◌/◌, ◌%◌, ◌≤◌, ◌<◌}
use native.Mathlib.Omega.{arith}
use lib.Dec.{eqb, leb, ltb}
use borrow.Author.Tests.{eqb-true, eq-eqb, ne_eqb, leb-true, leb-false, le-leb, lt-leb, lt-ltb, le-ltb, not-true}
use Rattle.std.specs.Ordering.{nat_cmp, is_le}
use Rattle.std.proofs.Math.Bool.{and_assoc, and-true, or-false}
use Rattle.std.specs.Prelude.{Some}
use Rattle.std.specs.Range.{range_inclusive_start, range_inclusive_end, range_inclusive_exhausted}
use Rattle.std.specs.Range.{range_inclusive_contains}
use Rattle.std.specs.declared.ops.RangeInclusive.{RangeInclusive}
use Rattle.model.specs.Board.{devices, board, board_at}
use Rattle.model.specs.Line.{Settings, kind, operand, opens, is_held, is_take, device_of, operand_fits}
use Rattle.model.specs.Line.{job, verb_of, is_line, held_verb}
use Rattle.model.specs.Line.{line_fits}
use Rattle.model.specs.Line.{max_job, held_from, pack, pack_verb}
use Rattle.line.specs.Ranges.{lowest_operand, highest_operand}
use Rattle.line.specs.Device.{packed_bits}
use Rattle.theory.specs.Line.{Fits, of_do, of_device, of_held, of_start}
use Rattle.theory.proofs.Tests.{tests_agree, and_split, le_or_lt, and_right, leb_agree}
use Rattle.theory.proofs.Line.{fits_parts, own_device, held_operand, kind_small, Verbed, as_held, as_kind, verbed}

pub or_none : (b : Bool) → (b || false) ≡ b
or_none b = or-false b

-- ---- the lowest and the highest operand of a kind

-- a range that has not been gone over has the numbers from its start to its end
at_most : (x y : ℕ) → is_le (nat_cmp x y) ≡ leb x y
at_most x y = go (le_or_lt x y)
  where
    go : (x ≤ y) ⊎ (y < x) → is_le (nat_cmp x y) ≡ leb x y
    go (inl h) = grind (arith, le-leb x y h)
    go (inr h) = rw (le-ltb x y (omega arith), ne_eqb x y (λ q. omega arith), lt-leb x y h)

pub within : (r : RangeInclusive ℕ) (a b x : ℕ) → range_inclusive_start r ≡ a → range_inclusive_end r ≡ b
    → range_inclusive_exhausted r ≡ false
    → range_inclusive_contains (λ x y. Some (nat_cmp x y)) r x ≡ (leb a x && leb x b)
within r a b x s e w = rw (w, s, e) (rw (at_most a x, at_most x b))

on_board_lem : (o : ℕ) → ltb o devices ≡ leb o (devices - 1)
on_board_lem o = leb_agree (suc o) devices o (devices - 1) (λ h. omega arith) (λ h. omega arith)

kind_tests : (k o : ℕ) → k < 4 → (leb (lowest_operand k) o && leb o (highest_operand k)) ≡ operand_fits board k o
unfolding operand_fits
kind_tests zero o h = rw (le-leb 0 o (omega arith)) (sym (or-false (leb o 255 || false) ∙ or-false (leb o 255)))
kind_tests (suc zero) o h = rw (le-leb 0 o (omega arith), on_board_lem o) (sym (or-false (leb o (devices - 1))))
kind_tests (suc (suc zero)) o h = rw (le-leb 0 o (omega arith), on_board_lem o) (sym (or-false (leb o (devices - 1))))
kind_tests (suc (suc (suc zero))) o h = refl
kind_tests (suc (suc (suc (suc k)))) o h = absurd (omega arith)

pub fits_kind : (j k o : ℕ) → k < 4
    → ((leb 1 j && leb j max_job) && (leb (lowest_operand k) o && leb o (highest_operand k))) ≡ line_fits board j k o
unfolding line_fits
fits_kind j k o h = ap (λ (b : Bool). leb 1 j && leb j max_job && b) (kind_tests k o h)

-- ---- the verbs, by their kinds

-- a verb's kind, as the code finds it
abbrev kind_of : ℕ → ℕ
kind_of v = (v % 4 + v / 4 % 2) % 4

few_verbs : (m : Bool) (v o : ℕ) → v < 5
    → (operand_fits board (kind_of v) o && (ltb v 4 || (eqb v 4 && m))) ≡ operand_fits (board_at m) v o
unfolding operand_fits
few_verbs m zero o h = and-true (operand_fits board 0 o)
few_verbs m (suc zero) o h = and-true (operand_fits board 1 o)
few_verbs m (suc (suc zero)) o h = and-true (operand_fits board 2 o)
few_verbs m (suc (suc (suc zero))) o h = and-true (operand_fits board 3 o)
few_verbs true (suc (suc (suc (suc zero)))) o h = and-true (operand_fits board 1 o)
few_verbs false (suc (suc (suc (suc zero)))) o h = and_right (operand_fits board 1 o) false refl
few_verbs m (suc (suc (suc (suc (suc v))))) o h = absurd (omega arith)

verbs : (m : Bool) (v o : ℕ)
    → (operand_fits board (kind_of v) o && (ltb v 4 || (eqb v 4 && m))) ≡ operand_fits (board_at m) v o
unfolding operand_fits
verbs m v o = go (le_or_lt 5 v)
  where
    go : (5 ≤ v) ⊎ (v < 5)
        → (operand_fits board (kind_of v) o && (ltb v 4 || (eqb v 4 && m))) ≡ operand_fits (board_at m) v o
    go (inr h) = few_verbs m v o h
    go (inl h) = rw (
      le-ltb v 4 (omega arith),
      ne_eqb v 0 (λ q. omega arith),
      ne_eqb v 1 (λ q. omega arith),
      ne_eqb v 2 (λ q. omega arith),
      ne_eqb v 3 (λ q. omega arith),
      ne_eqb v 4 (λ q. omega arith),
    ) (and_right (operand_fits board (kind_of v) o) false refl)

pub by_kind : (m : Bool) (j v o : ℕ)
    → (line_fits board j ((v % 4 + v / 4 % 2) % 4) o && (ltb v 4 || (eqb v 4 && m))) ≡ line_fits (board_at m) j v o
unfolding line_fits
by_kind m j v o =
    and_assoc (leb 1 j && leb j max_job) _ _ ∙ ap (λ (b : Bool). leb 1 j && leb j max_job && b) (verbs m v o)

-- ---- held lines

pub take_by_half : (l : ℕ) → eqb (l / 128 % 8) 2 ≡ is_take l
unfolding is_take opens kind operand
take_by_half l = tests_agree (eqb (l / 128 % 8) 2) (is_take l) to from
  where
    to : eqb (l / 128 % 8) 2 ≡ true → (eqb (kind l) 1 && not (leb held_from (operand l))) ≡ true
    to h =
        let e = eqb-true (l / 128 % 8) 2 h in
        rw (eq-eqb (kind l) 1 (omega arith), lt-leb held_from (operand l) (omega arith))

    from : (eqb (kind l) 1 && not (leb held_from (operand l))) ≡ true → eqb (l / 128 % 8) 2 ≡ true
    from h =
        let s = and_split (eqb (kind l) 1) (not (leb held_from (operand l))) h in
        let k = eqb-true (kind l) 1 s.0 in
        let o = leb-false held_from (operand l) (not-true (leb held_from (operand l)) s.1) in
        eq-eqb (l / 128 % 8) 2 (omega arith)

pub held_by_half : (l : ℕ) → eqb (l / 128 % 8) 3 ≡ is_held l
unfolding is_held opens kind operand
held_by_half l = tests_agree (eqb (l / 128 % 8) 3) (is_held l) to from
  where
    to : eqb (l / 128 % 8) 3 ≡ true → (eqb (kind l) 1 && leb held_from (operand l)) ≡ true
    to h =
        let e = eqb-true (l / 128 % 8) 3 h in
        rw (eq-eqb (kind l) 1 (omega arith), le-leb held_from (operand l) (omega arith))

    from : (eqb (kind l) 1 && leb held_from (operand l)) ≡ true → eqb (l / 128 % 8) 3 ≡ true
    from h =
        let s = and_split (eqb (kind l) 1) (leb held_from (operand l)) h in
        let k = eqb-true (kind l) 1 s.0 in
        let o = leb-true held_from (operand l) s.1 in
        eq-eqb (l / 128 % 8) 3 (omega arith)

-- the device of a held line is what its number leaves below 128
pub held_device : (l : ℕ) → is_held l ≡ true → l % 128 ≡ device_of l
unfolding operand
held_device l h = let r = (held_operand l h).1 in omega (arith, r)

-- what the operand of a line names
pub named_device : (l : ℕ) → cond (is_held l) (l % 128) (operand l) ≡ device_of l
named_device l = go (is_held l) refl
  where
    go : (h : Bool) → is_held l ≡ h → cond h (l % 128) (operand l) ≡ device_of l
    go true e = held_device l e
    go false e = sym (own_device l e)

-- a line is tested by its kind, at midday or in the morning: a held line as a take of its device, or of its operand,
-- which is past those of takes
held_fits : (m : Bool) (j k o d : ℕ) → k ≡ 1 → o ≡ held_from + d
    → line_fits board j (k % 4) (cond m d o) ≡ line_fits (board_at m) j held_verb d
unfolding line_fits operand_fits
held_fits true j k o d e q = rw e
held_fits false j k o d e q = rw (e, q, le-ltb (held_from + d) devices (omega arith))

kind_fits : (m : Bool) (j k o : ℕ) → k < 4 → line_fits board j (k % 4) o ≡ line_fits (board_at m) j k o
kind_fits m j k o h =
    let q : (k % 4 + k / 4 % 2) % 4 ≡ k % 4 = omega arith in
    sym (and-true (line_fits board j (k % 4) o)) ∙ (rw (q, lt-ltb k 4 h) at (by_kind m j k o))

pub by_parts : (m : Bool) (l : ℕ)
    → line_fits board (job l) (kind l % 4) (cond (is_held l && m) (l % 128) (operand l)) ≡ is_line (board_at m) l
unfolding is_line
by_parts m l = go (verbed l)
  where
    one_of : Bool → ℕ → Bool
    one_of h d = line_fits board (job l) (kind l % 4) (cond (h && m) d (operand l))

    as_verb : ℕ → ℕ → Bool
    as_verb v d = line_fits (board_at m) (job l) v d

    go : Verbed l → one_of (is_held l) (l % 128) ≡ as_verb (verb_of l) (device_of l)
    go (as_kind h v d) =
        ap (λ (b : Bool). one_of b (l % 128)) h ∙ kind_fits m (job l) (kind l) (operand l) (kind_small l)
        ∙ sym (ap (λ (x : ℕ). as_verb x (device_of l)) v ∙ ap (as_verb (kind l)) d)
    go (as_held h v k o) =
        ap (λ (b : Bool). one_of b (l % 128)) h ∙ ap (one_of true) (held_device l h)
        ∙ held_fits m (job l) (kind l) (operand l) (device_of l) k o
        ∙ sym (ap (λ (x : ℕ). as_verb x (device_of l)) v)

-- the number packed of the parts of a line is that line's
pub packed_verb : (S : Settings) → S.devices ≤ held_from → (j v o : ℕ) → line_fits S j v o ≡ true
    → packed_bits j v o ≡ pack_verb j v o
unfolding pack_verb pack
packed_verb S d j v o t =
    let r = fits_parts S j v o t in go r.1 r.2
  where
    go : j ≤ max_job → Fits S v o → packed_bits j v o ≡ pack_verb j v o
    go h (of_do e b) = rw e (omega arith)
    go h (of_device (inl e) b) = rw e (omega arith)
    go h (of_device (inr e) b) = rw e (omega arith)
    go h (of_held e m b) = rw e (omega arith)
    go h (of_start e a b) = rw e (omega arith)
