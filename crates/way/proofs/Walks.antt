-- The lines of a way, one further up than the other; and the mending of the sets along them, with its count.
use Prim.Native.Nat.{min, ℕ, zero, suc, ◌+◌, ◌-◌, ◌<◌, ◌≤◌}
use mathlib.Core.Bool.{Bool, true, false, cond, not, ◌&&◌}
use mathlib.Core.List.{List, [], ◌∷◌}
use mathlib.Core.Logic.{◌⊎◌, inl, inr, ◌≢◌}
use Rattle.std.specs.Prelude.{Option, Some, None}
use Rattle.std.specs.Bool.{then_some}
use Rattle.std.specs.List.{find}
use Rattle.std.specs.Option.{option_map}
use Rattle.std.proofs.lemmas.Option.{none-some, same_Some}
use mathlib.Core.Path.{◌≡◌, refl, sym, ◌∙◌, ap}
use native.Mathlib.Omega.{arith}
use lib.Dec.{eqb, ltb}
use lib.ListN.{length, get_or, set, length-set}
use lib.Seq.{get_or-set_same, get_or-set_other}
use borrow.Author.Tests.{eqb-true, eq-eqb, eqb-false, ltb-true, ltb-false}
use Rattle.model.specs.Lists.{up_from, positions, those, first_of}
use Rattle.model.specs.Line.{job, at}
use Rattle.model.specs.Move.{changed}
use Rattle.theory.proofs.Tests.{test, tests_agree}
use Rattle.theory.proofs.Lists.{has_up_from, those_same}
use Rattle.theory.specs.Move.{Falls, ends, falls}
use Rattle.theory.proofs.Way.{falls_further}
use Rattle.mates.specs.Found.{found}
use Rattle.way.specs.Back.{line_with, line_before, walked, way_from, begin_of, way_by}
use Rattle.way.specs.Way.{number_of}
use Rattle.way.specs.Join.{rejoined_by, stale_by, mended_by}

-- ---- the way from number to number

module _ (p starter : List ℕ) where
  pub further_up : (i : ℕ) → line_before p starter i ≤ i
  unfolding line_before
  further_up i = go (eqb i 0) (eqb (job (at p (i - 1))) (job (at p i))) (ltb i s) refl
    where
      s : ℕ
      s = get_or starter (job (at p i)) 0

      go : (x y z : Bool) → ltb i s ≡ z → cond x 0 (cond y i (cond z 0 s)) ≤ i
      go true y z e = omega arith
      go false true z e = omega arith
      go false false true e = omega arith
      go false false false e = ltb-false i s e

  -- there are no more lines than the number tells
  enough : (m k n : ℕ) → n ≤ m → n ≤ k → walked p starter m n ≡ walked p starter k n
  unfolding walked
  enough zero zero zero h g = refl
  enough zero (suc k) zero h g = refl
  enough (suc m) zero zero h g = refl
  enough (suc m) (suc k) zero h g = refl
  enough zero k (suc i) h g = absurd (omega arith)
  enough (suc m) zero (suc i) h g = absurd (omega arith)
  enough (suc m) (suc k) (suc i) h g =
      ap (λ (xs : List ℕ). i ∷ xs)
      (enough m k (line_before p starter i) (omega (arith, further_up i)) (omega (arith, further_up i)))

  pub goes : (i : ℕ) → way_from p starter (suc i) ≡ i ∷ way_from p starter (line_before p starter i)
  unfolding walked
  goes i =
      ap (λ (xs : List ℕ). i ∷ xs) (enough i (line_before p starter i) (line_before p starter i) (further_up i)
      (omega arith))

  pub way_from_falls : (m n : ℕ) → Falls n (walked p starter m n)
  unfolding walked
  way_from_falls zero n = ends n
  way_from_falls (suc m) zero = ends 0
  way_from_falls (suc m) (suc i) =
      falls (suc i) i (walked p starter m (line_before p starter i)) (omega arith)
      (falls_further (line_before p starter i) i (walked p starter m (line_before p starter i)) (further_up i)
      (way_from_falls m (line_before p starter i)))

-- ---- lines that are left

pub number_of_line : (n : ℕ) → number_of (line_with n) ≡ n
number_of_line zero = refl
number_of_line (suc i) = refl

with_number : (n x : ℕ) → line_with n ≡ Some x → n ≡ suc x
with_number zero x e = absurd (none-some x e)
with_number (suc i) x e = ap suc (same_Some i x e)

-- where the code begins
pub begins : (p t : List ℕ) (i : ℕ)
    → number_of (then_some (ltb i (min (length p) (length t))) i) ≡ begin_of p t i
unfolding begin_of
begins p t i = go (ltb i (min (length p) (length t))) refl (ltb i (length p)) refl (ltb i (length t)) refl
  where
    go : (x : Bool) → ltb i (min (length p) (length t)) ≡ x → (a : Bool) → ltb i (length p) ≡ a → (b : Bool)
        → ltb i (length t) ≡ b → number_of (then_some x i) ≡ cond (a && b) (suc i) 0
    go true e true f true g = refl
    go true e true f false g = absurd (omega (arith, ltb-true i _ e, ltb-false i (length t) g))
    go true e false f b g = absurd (omega (arith, ltb-true i _ e, ltb-false i (length p) f))
    go false e true f true g =
        absurd (omega (arith, ltb-false i _ e, ltb-true i (length p) f, ltb-true i (length t) g))
    go false e true f false g = refl
    go false e false f b g = refl

module _ (p starter : List ℕ) (next : Option ℕ) where
  pub none_left : next ≡ None → way_from p starter (number_of next) ≡ []
  unfolding walked
  none_left e = rw e

  module _ (k : ℕ) (e : next ≡ Some k) where
    pub one_left : (after : Option ℕ) → after ≡ line_with (line_before p starter k)
        → way_from p starter (number_of next) ≡ k ∷ way_from p starter (number_of after)
    one_left after f = rw (e, f, number_of_line) (goes p starter k)

pub before_in_plan : (p starter : List ℕ) (k x : ℕ) → k < length p → line_with (line_before p starter k) ≡ Some x
    → x < length p
before_in_plan p starter k x h e =
    omega (arith, with_number (line_before p starter k) x e, further_up p starter k)

-- the lines stand one further up than the other; each is of the plan, and has a set
pub record Within (p t is : List ℕ) : Type 0 where
  pub below : ℕ
  pub falling : Falls below is
  pub in_plan : below ≤ length p
  pub stored : below ≤ length t

pub way_within : (p t starter : List ℕ) (i : ℕ) → Within p t (way_by p t starter i)
unfolding way_by begin_of
way_within p t starter i = go (ltb i (length p)) refl (ltb i (length t)) refl
  where
    go : (a : Bool) → ltb i (length p) ≡ a → (b : Bool) → ltb i (length t) ≡ b
        → Within p t (way_from p starter (cond (a && b) (suc i) 0))
    go true d true e = record {
      below = suc i;
      falling = way_from_falls p starter (suc i) (suc i);
      in_plan = ltb-true i (length p) d;
      stored = ltb-true i (length t) e;
    }
    go true d false e = record { below = 0; falling = ends 0; in_plan = omega arith; stored = omega arith }
    go false d b e = record { below = 0; falling = ends 0; in_plan = omega arith; stored = omega arith }

module _ {p t : List ℕ} {k : ℕ} {is : List ℕ} (w : Within p t (k ∷ is)) where
  pub others_within : Within p t is
  others_within = go w.below w.falling w.in_plan w.stored
    where
      go : (n : ℕ) → Falls n (k ∷ is) → n ≤ length p → n ≤ length t → Within p t is
      go n (falls m x xs lt f) h g = record { below = x; falling = f; in_plan = omega arith; stored = omega arith }

-- ---- the search for a stale line

-- what the model looks for is what the library's `find` finds
pub found_is : (f : ℕ → Bool) (xs : List ℕ) → found (first_of f xs) ≡ find f xs
unfolding first_of
found_is f [] = refl
found_is f (x ∷ xs) = go (f x) refl (found_is f xs)
  where
    go : (b : Bool) → f x ≡ b → found (first_of f xs) ≡ find f xs → found (first_of f (x ∷ xs)) ≡ find f (x ∷ xs)
    go true e ih = rw (e, first_of)
    go false e ih = rw (e, first_of) ih

falling_below : (n k d : ℕ) (xs : List ℕ) → Falls n xs → k < length xs → get_or xs k d < n
falling_below n k d [] (ends m) h = absurd (omega arith)
falling_below n zero d (x ∷ xs) (falls m y ys lt f) h = lt
falling_below n (suc k) d (x ∷ xs) (falls m y ys lt f) h = omega (arith, falling_below x k d xs f (omega arith))

-- a line of the way, by its place there
pub on_way_within : (p t starter : List ℕ) (i k x : ℕ) → k < length (way_by p t starter i)
    → x ≡ get_or (way_by p t starter i) k x → (x < length p) × (x < length t)
on_way_within p t starter i k x h e =
    let w = way_within p t starter i in
    let b : get_or (way_by p t starter i) k x < w.below = falling_below w.below k x _ w.falling h in
    (omega (arith, e, w.in_plan), omega (arith, e, w.stored))

pub same_option : (r : Option ℕ) → r ≡ option_map (λ x. x) r
same_option None = refl
same_option (Some x) = refl

-- ---- how many sets are others than before

pass : (f : ℕ → Bool) (x : ℕ) (xs : List ℕ) → length (those f (x ∷ xs)) ≡ cond (f x) 1 0 + length (those f xs)
unfolding those
pass f x xs = go (f x)
  where
    go : (b : Bool) → length {A = ℕ} (elim b [ true ↦ x ∷ those f xs | false ↦ those f xs ])
        ≡ cond b 1 0 + length (those f xs)
    go true = omega arith
    go false = omega arith

-- two tests that differ at x alone, a number of the range, where the second fails
one_more : (f g : ℕ → Bool) (x a n : ℕ) → a ≤ x → x < a + n → ((k : ℕ) → k ≢ x → f k ≡ g k) → g x ≡ false
    → length (those f (up_from a n)) ≡ length (those g (up_from a n)) + cond (f x) 1 0
unfolding up_from
one_more f g x a zero h k same off = absurd (omega arith)
one_more f g x a (suc n) h k same off =
    go (test (eqb a x)) (λ lt. one_more f g x (suc a) n lt (omega arith) same off)
  where
    rest : List ℕ
    rest = up_from (suc a) n

    -- after x they pass the same
    after : a ≡ x → those f rest ≡ those g rest
    after z = those_same f g rest (λ k m. same k (λ e. omega (arith, (has_up_from (suc a) n k m).0)))

    go : (eqb a x ≡ true) ⊎ (eqb a x ≡ false)
        → (suc a ≤ x → length (those f rest) ≡ length (those g rest) + cond (f x) 1 0)
        → length (those f (a ∷ rest)) ≡ length (those g (a ∷ rest)) + cond (f x) 1 0
    go (inl e) ih =
        let z = eqb-true a x e in
        omega (
          arith,
          pass f a rest,
          pass g a rest,
          ap (λ (y : ℕ). cond {A = ℕ} (f y) 1 0) z,
          ap (λ (b : Bool). cond {A = ℕ} b 1 0) (ap g z ∙ off),
          ap length (after z),
        )
    go (inr e) ih =
        let ne = eqb-false a x e in
        omega (
          arith,
          pass f a rest,
          pass g a rest,
          ih (omega arith),
          ap (λ (b : Bool). cond {A = ℕ} b 1 0) (same a ne),
        )

none_changed : (p t : List ℕ) → changed p t t ≡ 0
unfolding changed those
none_changed p t = ap length (go (positions p))
  where
    go : (is : List ℕ) → those (λ i. not (eqb (get_or t i 0) (get_or t i 0))) is ≡ []
    go [] = refl
    go (i ∷ is) = rw (eq-eqb (get_or t i 0) (get_or t i 0) refl, those) (go is)

-- a set more is rewritten, which was what it had been
one_rewritten : (p old t : List ℕ) (x v : ℕ) → x < length p → x < length t → get_or t x 0 ≡ get_or old x 0
    → changed p old (set t x v) ≡ changed p old t + cond (not (eqb (get_or t x 0) v)) 1 0
unfolding changed positions
one_rewritten p old t x v h room e =
    one_more (λ i. not (eqb (get_or (set t x v) i 0) (get_or old i 0)))
    (λ i. not (eqb (get_or t i 0) (get_or old i 0))) x 0
    (length p) (omega arith) (omega arith)
    (λ k n. ap (λ (y : ℕ). not (eqb y (get_or old k 0))) (get_or-set_other t x k v 0 n))
    (rw (e, eq-eqb (get_or old x 0) (get_or old x 0) refl))
    ∙ ap (λ (b : Bool). length (those (λ i. not (eqb (get_or t i 0) (get_or old i 0))) (up_from 0 (length p)))
    + cond (not b) 1 0)
    (ap (λ (y : ℕ). eqb y (get_or old x 0)) (get_or-set_same t x v 0 room) ∙ either_way v (get_or old x 0)
    ∙ ap (λ (y : ℕ). eqb y v) (sym e))
  where
    either_way : (a b : ℕ) → eqb a b ≡ eqb b a
    either_way a b =
        tests_agree (eqb a b) (eqb b a) (λ q. eq-eqb b a (sym (eqb-true a b q)))
        (λ q. eq-eqb a b (sym (eqb-true b a q)))

-- ---- the mending

-- where it stands with some lines left: what is left to do, from the sets as they are, leads to what all of it does;
-- the sets of the lines that are left are as they were
pub record Mending (p again first old whole sets : List ℕ) (count : ℕ) (is : List ℕ) : Type 0 where
  pub below : ℕ
  pub falling : Falls below is
  pub few : count + below ≤ length p
  pub stored : below ≤ length old
  pub long : length sets ≡ length old
  pub leads : mended_by p again first old whole ≡ mended_by p again first sets is
  pub counts : count ≡ changed p old sets
  pub as_were : (k : ℕ) → k < below → get_or sets k 0 ≡ get_or old k 0

pub mend_start : (p again first old whole : List ℕ) → Within p old whole → Mending p again first old whole old 0 whole
mend_start p again first old whole w = record {
  below = w.below;
  falling = w.falling;
  few = omega (arith, w.in_plan);
  stored = w.stored;
  long = refl;
  leads = refl;
  counts = sym (none_changed p old);
  as_were = λ k h. refl;
}

module _ {p again first old whole sets : List ℕ} {count k : ℕ} {is : List ℕ}
    (d : Mending p again first old whole sets count (k ∷ is)) where
  abbrev v : ℕ
  v = rejoined_by p again first sets k

  pub mend_on : (next : List ℕ) (c : ℕ) → next ≡ set sets k v → c ≡ cond (stale_by p again first sets k) 1 0
      → Mending p again first old whole next (count + c) is
  unfolding stale_by mended_by
  mend_on next c e q = go d.below d.falling d.few d.stored d.as_were
    where
      one_at_most : (b : Bool) → cond b 1 0 ≤ 1
      one_at_most true = omega arith
      one_at_most false = omega arith

      go : (n : ℕ) → Falls n (k ∷ is) → count + n ≤ length p → n ≤ length old
          → ((x : ℕ) → x < n → get_or sets x 0 ≡ get_or old x 0)
          → Mending p again first old whole next (count + c) is
      go n (falls m x xs lt f) h g was =
          let long' = ap length e ∙ length-set sets x v in
          record {
            below = x;
            falling = f;
            few = omega (arith, q, one_at_most (stale_by p again first sets x));
            stored = omega arith;
            long = long' ∙ d.long;
            leads = d.leads ∙ ap (λ (ys : List ℕ). mended_by p again first ys xs) (sym e);
            counts = omega (
              arith,
              d.counts,
              q,
              ap (changed p old) e,
              one_rewritten p old sets x v (omega arith) (omega (arith, d.long)) (was x lt),
            );
            as_were = λ y z. ap (λ (ys : List ℕ). get_or ys y 0) e
                ∙ get_or-set_other sets x y v 0 (λ w. omega arith) ∙ was y (omega arith);
          }

-- where no line is left, all is done
pub mend_end : {p again first old whole sets : List ℕ} {count : ℕ} → Mending p again first old whole sets count []
    → (sets ≡ mended_by p again first old whole) × (count ≡ changed p old sets)
unfolding mended_by
mend_end d = (sym d.leads, d.counts)
