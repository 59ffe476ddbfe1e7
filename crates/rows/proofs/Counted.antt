-- The sets of the devices held to the end and held twice, by counting lasting takes going back (01, "Claims and rows").
use Rattle.std.proofs.Common.{◌≡◌, ℕ, zero, suc, ◌-◌, ◌%◌, ◌^◌, ◌<◌, ◌≤◌, Bool, true, false, cond, ◌&&◌, ◌||◌, eqb, leb}
use Rattle.std.proofs.Common.{List, [], ◌∷◌, length, get_or, drop, sym, refl, ap, ◌∙◌, arith, length-drop}
use Rattle.std.proofs.Common.{drop_of_length-le, drop-cons, le-leb}
use mathlib.Core.Option.{none}
use Rattle.model.specs.Board.{devices, board}
use Rattle.model.specs.Lists.{up_from, positions, any, those}
use Rattle.model.specs.Line.{job, operand, is_held, is_take, at, max_lines}
use Rattle.model.specs.Mate.{takes_at, device_at, takes, mate, is_none, lasting_at, lasting}
use Rattle.model.specs.Sets.{empty, union, member}
use Rattle.model.specs.Rows.{lasting_takes}
use Rattle.model.specs.WellFormed.{fault}
use Rattle.theory.specs.Outer.{plain, plain_at}
use Rattle.theory.proofs.Tests.{and_right, and_split}
use Rattle.theory.proofs.Line.{take_no_held, own_device}
use Rattle.theory.proofs.Claims.{outermost}
use Rattle.theory.proofs.Sets.{member_empty, member_union, empty_below, union_below}
use Rattle.model.specs.Verdict.{keepers}
use Rattle.theory.proofs.WellFormed.{no_fault_exactly}
use Rattle.theory.proofs.Morning.{keepers_lasting}
use Rattle.sets.specs.Only.{only_of}
use Rattle.sets.specs.Both.{both}
use Rattle.sets.proofs.Members.{member_only_of, member_both, only_of_below, both_below}
use Rattle.plan.specs.Again.{again_flags}
use Rattle.plan.proofs.Again.{plain_is}
use Rattle.rows.specs.declared.Passed.{Passed}
use Rattle.model.specs.Kept.{lasts_among, lasts_in, held_to_end}
use Rattle.rows.specs.Lasting.{held_twice, wanted_before, wanted_after}
use Rattle.rows.specs.Holds.{HeldAs, PassedOn}
use Rattle.theory.proofs.Where.{is_where}
use Rattle.rows.proofs.Wanted.{wanted, wanted_few, Wanting, none_wanting, after_is, wanting_on, lasts_is_lem}

-- ---- the lasting takes of a device from a line on

-- a lasting take of a device is a lasting take, and its device is that one
pub lasting_is : (p : List ℕ) (i d : ℕ) → lasting p i d ≡ (lasting_at p i && eqb (device_at p i) d)
unfolding lasting takes lasting_at
lasting_is p i d = go (takes_at p i) (eqb (device_at p i) d) (is_none (mate p i))
  where
    go : (x y z : Bool) → ((x && y) && z) ≡ ((x && z) && y)
    go true true true = refl
    go true true false = refl
    go true false true = refl
    go true false false = refl
    go false y z = refl

abbrev pub takes_from : List ℕ → ℕ → ℕ → List ℕ
takes_from p d i = those (λ k. lasting p k d) (up_from i (length p - i))

pub takes_past : (p : List ℕ) (d : ℕ) → takes_from p d (length p) ≡ []
unfolding those up_from
takes_past p d = let z : length p - length p ≡ 0 = omega arith in rw z

pub takes_on : (p : List ℕ) (d k : ℕ) (b : Bool) → k < length p → lasting p k d ≡ b
    → takes_from p d k ≡ cond b (k ∷ takes_from p d (suc k)) (takes_from p d (suc k))
unfolding those up_from
takes_on p d k true h e = let z : length p - k ≡ suc (length p - suc k) = omega arith in rw (z, those, e)
takes_on p d k false h e = let z : length p - k ≡ suc (length p - suc k) = omega arith in rw (z, those, e)

pub takes_all : (p : List ℕ) (d : ℕ) → takes_from p d 0 ≡ lasting_takes p d
unfolding lasting_takes positions
takes_all p d = let z : length p - 0 ≡ length p = omega arith in rw z

-- how many they are
abbrev how_many : List ℕ → ℕ → ℕ → ℕ
how_many p d i = length (takes_from p d i)

more_on : (p : List ℕ) (d k : ℕ) (b : Bool) → k < length p → lasting p k d ≡ b
    → how_many p d k ≡ cond b (suc (how_many p d (suc k))) (how_many p d (suc k))
more_on p d k true h e = ap length (takes_on p d k true h e)
more_on p d k false h e = ap length (takes_on p d k false h e)

-- ---- the line at hand: it has its flag, and counts by it

module _ (p again : List ℕ) (k : ℕ) (pre : (fault board p ≡ none) × (again ≡ again_flags p)) (h : k < length p) where
  pub has_flag : k < max_lines
  has_flag = omega (arith, ((no_fault_exactly board p).0 pre.0).few)

  pub counts_as : plain (eqb (get_or again k 0) 1) (at p k) ≡ plain_at p k
  counts_as = plain_is p again k pre.1 has_flag

-- ---- the walk back

-- the two sets have the lasting takes from line i on
pub record Counted (p : List ℕ) (passed : Passed) (i : ℕ) : Type 0 where
  pub in_plan : i ≤ length p
  pub held_below : passed.holds.held < 2 ^ devices
  pub twice_below : passed.holds.twice < 2 ^ devices
  pub held_is : (d : ℕ) → d < devices → member passed.holds.held d ≡ leb 1 (how_many p d i)
  pub twice_is : (d : ℕ) → d < devices → member passed.holds.twice d ≡ leb 2 (how_many p d i)

-- what is wanted after the line before line i is at hand
abbrev pub Knows : List ℕ → Passed → ℕ → Type 0
Knows p passed i =
    (k : ℕ) → suc k ≡ i → wanted_after (at p k) passed.job passed.wanted ≡ wanted (job (at p k)) (drop i p)

abbrev pub none_passed : Passed
none_passed = record { job = 0; wanted = 0; lasts = false; holds = record { held = 0; twice = 0 } }

pub none_counted : (p : List ℕ)
    → Counted p none_passed (length p)
unfolding empty
none_counted p = record {
  in_plan = omega arith;
  held_below = empty_below devices;
  twice_below = empty_below devices;
  held_is = λ d h. member_empty d ∙ sym (ap (λ xs. leb 1 (length xs)) (takes_past p d));
  twice_is = λ d h. member_empty d ∙ sym (ap (λ xs. leb 2 (length xs)) (takes_past p d));
}

pub none_known : (p : List ℕ)
    → Knows p none_passed (length p)
none_known p k e = rw (drop_of_length-le p {i = length p} (omega arith)) (after_is (at p k) [] 0 0 none_wanting)

-- a lasting take is an outermost take
pub lasting_takes_lem : (p : List ℕ) (k : ℕ) → lasting_at p k ≡ true → takes_at p k ≡ true
unfolding lasting_at
lasting_takes_lem p k e = (and_split (takes_at p k) (is_none (mate p k)) e).0

-- the device of a take is its operand
pub taken_operand : (p : List ℕ) (k : ℕ) → is_take (at p k) ≡ true → device_at p k ≡ operand (at p k)
unfolding device_at
taken_operand p k t = own_device (at p k) (take_no_held (at p k) t)

-- one line further back
module _ (p : List ℕ) (few : length p ≤ max_lines) (old new : Passed) (k : ℕ) (m : Counted p old (suc k))
    (w : Knows p old (suc k)) (n : PassedOn new old (at p k) (plain_at p k)) where
  pub lasts_made : new.lasts ≡ lasting_at p k
  lasts_made = n.lasts_is ∙ lasts_is_lem (at p k) (drop (suc k) p) old.job old.wanted (w k refl) p k refl refl

  -- the set of its device, if it lasts
  abbrev one : ℕ
  one = cond new.lasts (only_of devices (operand (at p k))) empty

  member_one : (d : ℕ) → d < devices → member one d ≡ lasting p k d
  member_one d h =
      go new.lasts ∙ ap (λ b. b && eqb (operand (at p k)) d) lasts_made
      ∙ (own (lasting_at p k) refl ∙ sym (lasting_is p k d))
    where
      own : (b : Bool) → lasting_at p k ≡ b → (b && eqb (operand (at p k)) d) ≡ (b && eqb (device_at p k) d)
      own false e = refl
      own true e = rw (taken_operand p k (outermost p k (lasting_takes_lem p k e)).0)

      go : (b : Bool) → member (cond b (only_of devices (operand (at p k))) empty) d ≡ (b && eqb (operand (at p k)) d)
      go true = member_only_of devices (operand (at p k)) d h
      go false = member_empty d

  one_below : one < 2 ^ devices
  one_below = go new.lasts
    where
      go : (b : Bool) → cond b (only_of devices (operand (at p k))) empty < 2 ^ devices
      go true = only_of_below devices (operand (at p k))
      go false = empty_below devices

  held_on : (d : ℕ) → d < devices → member (union one old.holds.held) d ≡ leb 1 (how_many p d k)
  held_on d h =
      member_union one old.holds.held d ∙ rw (member_one d h, m.held_is d h, more_on p d k _ m.in_plan refl)
      (go (lasting p k d) (how_many p d (suc k)))
    where
      go : (b : Bool) (n : ℕ) → (b || leb 1 n) ≡ leb 1 (cond b (suc n) n)
      go true n = sym (le-leb 1 (suc n) (omega arith))
      go false n = refl

  twice_on : (d : ℕ) → d < devices → member (union (both old.holds.held one) old.holds.twice) d ≡ leb 2 (how_many p d k)
  twice_on d h =
      member_union (both old.holds.held one) old.holds.twice d
      ∙ rw (member_both old.holds.held one d, member_one d h, m.held_is d h, m.twice_is d h)
      (rw (more_on p d k _ m.in_plan refl) (go (lasting p k d) (how_many p d (suc k))))
    where
      go : (b : Bool) (n : ℕ) → ((leb 1 n && b) || leb 2 n) ≡ leb 2 (cond b (suc n) n)
      go true zero = refl
      go true (suc n) = rw (le-leb 1 (suc n) (omega arith), le-leb 2 (suc (suc n)) (omega arith))
      go false n = rw (and_right (leb 1 n) false refl)

  -- no more is wanted than there are lines, so the count is far from the word's end
  wanting_here : Wanting (at p k ∷ drop (suc k) p) new.job new.wanted
  wanting_here =
      let on = wanting_on (at p k) (drop (suc k) p) old.job old.wanted (w k refl) in
      let n' : ℕ = wanted_before (at p k) (wanted_after (at p k) old.job old.wanted) in
      let small : n' % 2 ^ 32 ≡ n' = omega (
        arith,
        on.wanted_is,
        wanted_few (job (at p k)) (at p k ∷ drop (suc k) p),
        length-drop (suc k) p,
        few,
      ) in
      rw (n.job_is, n.wanted_is, small) on

  pub known_on : Knows p new k
  known_on i e =
      after_is (at p i) (drop k p) new.job new.wanted (rw (drop-cons p k 0 m.in_plan) wanting_here)

  pub counted_on : Counted p new k
  counted_on = record {
    in_plan = omega (arith, m.in_plan);
    held_below = rw n.holds_are (union_below devices one old.holds.held one_below m.held_below);
    twice_below = rw n.holds_are
        (union_below devices (both old.holds.held one) old.holds.twice
        (both_below devices old.holds.held one m.held_below) m.twice_below);
    held_is = rw n.holds_are held_on;
    twice_is = rw n.holds_are twice_on;
  }

-- one line further back that is no lasting take
pub counted_past : (p : List ℕ) (passed : Passed) (k : ℕ) → lasting_at p k ≡ false → Counted p passed (suc k)
    → Counted p passed k
counted_past p passed k e m = record {
  in_plan = omega (arith, m.in_plan);
  held_below = m.held_below;
  twice_below = m.twice_below;
  held_is = λ d h. m.held_is d h ∙ sym (ap (leb 1) (same d));
  twice_is = λ d h. m.twice_is d h ∙ sym (ap (leb 2) (same d));
}
  where
    same : (d : ℕ) → how_many p d k ≡ how_many p d (suc k)
    same d = more_on p d k false m.in_plan (lasting_is p k d ∙ rw e)

-- at the front the sets are the plan's
some_take : (f : ℕ → Bool) (xs : List ℕ) → leb 1 (length (those f xs)) ≡ any f xs
unfolding those any
some_take f [] = refl
some_take f (x ∷ xs) = go (f x) (some_take f xs)
  where
    go : (b : Bool) → leb 1 (length (those f xs)) ≡ any f xs
        → leb 1 (length {A = ℕ} (elim b [ true ↦ x ∷ those f xs | false ↦ those f xs ])) ≡ (b || any f xs)
    go true ih = le-leb 1 (suc (length (those f xs))) (omega arith)
    go false ih = ih

pub all_counted : (p : List ℕ) → ((i : ℕ) → is_held (at p i) ≡ false) → (passed : Passed) → Counted p passed 0
    → HeldAs passed.holds p
unfolding held_to_end lasts_in lasts_among held_twice lasting_takes
all_counted p unheld passed m = record {
  to_end =
      is_where (λ d. any (λ k. lasting p k d) (positions p)) devices passed.holds.held m.held_below
      (λ d k. m.held_is d k ∙ ap (λ xs. leb 1 (length xs)) (takes_all p d)
      ∙ some_take (λ k. lasting p k d) (positions p));
  twice =
      is_where (λ d. leb 2 (length (keepers p d))) devices passed.holds.twice m.twice_below
      (λ d k. m.twice_is d k ∙ ap (λ xs. leb 2 (length xs)) (takes_all p d ∙ sym (keepers_lasting p unheld d)));
}
