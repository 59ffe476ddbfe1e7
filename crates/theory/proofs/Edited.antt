-- The edited plan, with another device at a take and at its mate. It is as long as the plan and has the same job and
-- kind at each place, and the same held lines, so that starts, successors and open takes are the same; and own claims
-- differ at most at the take and at the lines under it, where the take is open. Where the plan is well-formed, so is
-- the edited one: a move need test nothing of it. A device of 128 or more would make a take a held line, so the new
-- device is below that.
use Prim.Native.Nat.{ℕ, zero, suc, ◌+◌, ◌<◌, ◌≤◌}
use mathlib.Core.Bool.{Bool, true, false, ◌&&◌}
use mathlib.Core.List.{List, [], ◌∷◌, map}
use mathlib.Core.Logic.{◌⊎◌, inl, inr, ◌≢◌}
use mathlib.Core.Option.{Option, none, some, get_or, some-injective}
use mathlib.Core.Path.{◌≡◌, refl, sym, ◌∙◌, ap}
use native.Mathlib.Omega.{arith}
use lib.Dec.{eqb, leb}
use lib.ListN.{length, drop, get_elem?, length-drop, length-set}
use lib.Seq.{get_or-drop, get_or-set_same, get_or-set_other, set-get_or}
use borrow.Author.Tests.{eqb-true, eq-eqb, eqb-false, lt-leb}
use Rattle.model.specs.Lists.{any, has}
use Rattle.model.specs.Line.{Settings, pack, job, kind, operand, opens, is_held, is_take, is_give, is_start, device_of}
use Rattle.model.specs.Line.{holds, starts, is_line, at, has_lines, first_line, held_from}
use Rattle.model.specs.WellFormed.{held_there, is_last, Rules, WellFormed}
use Rattle.model.specs.Mate.{device_at, holds_already, takes_at, mate_in, mate}
use Rattle.model.specs.Claims.{successors, own}
use Rattle.model.specs.Move.{with_device, also_mate, edited, until, under}
use Rattle.theory.specs.Line.{of_device}
use Rattle.theory.proofs.Tests.{clash, no_some, test, and_split, and_right, tests_agree}
use Rattle.theory.proofs.Line.{job_pack, kind_pack, operand_pack, pack_parts, kind_small}
use Rattle.theory.proofs.Line.{take_is, take_opens, take_no_held, take_no_give, take_no_start, give_no_start}
use Rattle.theory.proofs.Line.{give_no_held, opens_no_give, own_device, verb_kind, line_parts, line_exactly}
use Rattle.theory.proofs.Line.{held_opens, take_line}
use Rattle.theory.proofs.Mate.{mate_below, Pair, pair, open_takes, Open, open_is, held_open, take_open_at_mate}
use Rattle.theory.proofs.Mate.{mate_names_device, open_mates, give_has_take}
use Rattle.theory.proofs.Way.{under_has}

-- ---- plans that are alike: they differ in the devices of takes and gives, and in the operands of dos, at most; held
-- lines are held in both, of whatever device

pub record Alike (p q : List ℕ) : Type 0 where
  pub long : length q ≡ length p
  pub jobs : (k : ℕ) → job (at q k) ≡ job (at p k)
  pub kinds : (k : ℕ) → kind (at q k) ≡ kind (at p k)
  pub helds : (k : ℕ) → is_held (at q k) ≡ is_held (at p k)
  pub named : (k : ℕ) → is_start (at p k) ≡ true → operand (at q k) ≡ operand (at p k)

pub alike_drop : (n : ℕ) (p q : List ℕ) → Alike p q → Alike (drop n p) (drop n q)
alike_drop n p q a = record {
  long = simp length-drop (omega (arith, a.long));
  jobs = λ k. rw (get_or-drop n p k 0, get_or-drop n q k 0) (a.jobs (n + k));
  kinds = λ k. rw (get_or-drop n p k 0, get_or-drop n q k 0) (a.kinds (n + k));
  helds = λ k. rw (get_or-drop n p k 0, get_or-drop n q k 0) (a.helds (n + k));
  named = λ k. rw (get_or-drop n p k 0, get_or-drop n q k 0) (a.named (n + k));
}

pub alike_tail : (l m : ℕ) (ls ms : List ℕ) → Alike (l ∷ ls) (m ∷ ms) → Alike ls ms
alike_tail l m ls ms a = alike_drop 1 (l ∷ ls) (m ∷ ms) a

module _ (p q : List ℕ) (a : Alike p q) where
  pub same_opens : (k : ℕ) → opens (at q k) ≡ opens (at p k)
  unfolding opens
  same_opens k = rw (a.kinds k)

  pub same_take : (k : ℕ) → is_take (at q k) ≡ is_take (at p k)
  same_take k = take_is (at q k) ∙ rw (same_opens k, a.helds k) (sym (take_is (at p k)))

  pub same_give : (k : ℕ) → is_give (at q k) ≡ is_give (at p k)
  unfolding is_give
  same_give k = rw (a.kinds k)

  pub same_start : (k : ℕ) → is_start (at q k) ≡ is_start (at p k)
  unfolding is_start
  same_start k = rw (a.kinds k)

  pub same_starts : (k j : ℕ) → starts (at q k) j ≡ starts (at p k) j
  unfolding starts
  same_starts k j = go (test (is_start (at p k)))
    where
      go : (is_start (at p k) ≡ true) ⊎ (is_start (at p k) ≡ false) → starts (at q k) j ≡ starts (at p k) j
      go (inl s) = rw (same_start k, a.named k s)
      go (inr s) = rw (same_start k, s)

same_any : (f : ℕ → Bool) (p q : List ℕ) → length q ≡ length p → ((k : ℕ) → f (at q k) ≡ f (at p k))
    → any f q ≡ any f p
unfolding any
same_any f [] [] e h = refl
same_any f [] (m ∷ ms) e h = absurd (omega arith)
same_any f (l ∷ ls) [] e h = absurd (omega arith)
same_any f (l ∷ ls) (m ∷ ms) e h = rw (h 0, same_any f ls ms (omega arith) (λ k. h (suc k)))

pub same_first : (j : ℕ) (p q : List ℕ) → Alike p q → first_line j q ≡ first_line j p
unfolding first_line
same_first j [] [] a = refl
same_first j [] (m ∷ ms) a = absurd (omega (arith, a.long))
same_first j (l ∷ ls) [] a = absurd (omega (arith, a.long))
same_first j (l ∷ ls) (m ∷ ms) a = cc (a.jobs 0, same_first j ls ms (alike_tail l m ls ms a))

module _ (p q : List ℕ) (a : Alike p q) where
  pub same_successors : (k : ℕ) → successors (at q k) (drop (suc k) q) ≡ successors (at p k) (drop (suc k) p)
  unfolding successors
  same_successors k = go (test (is_start (at p k)))
    where
      first : (j : ℕ) → first_line j (drop (suc k) q) ≡ first_line j (drop (suc k) p)
      first j = same_first j (drop (suc k) p) (drop (suc k) q) (alike_drop (suc k) p q a)

      go : (is_start (at p k) ≡ true) ⊎ (is_start (at p k) ≡ false)
          → successors (at q k) (drop (suc k) q) ≡ successors (at p k) (drop (suc k) p)
      go (inl s) = rw (a.jobs k, same_start p q a k, a.named k s, first (job (at p k)), first (operand (at p k)))
      go (inr s) = rw (a.jobs k, same_start p q a k, s, first (job (at p k)))

  pub same_open : (j k : ℕ) → open_takes q j k ≡ open_takes p j k
  unfolding open_takes
  same_open j zero = refl
  same_open j (suc k) = cc (a.jobs k, same_opens p q a k, same_give p q a k, same_open j k)

-- ---- one line given another device

module _ (p : List ℕ) (e i : ℕ) where
  given_elsewhere : (k : ℕ) → k ≢ i → at (with_device p e i) k ≡ at p k
  unfolding with_device
  given_elsewhere k ne = get_or-set_other p i k (pack (job (at p i)) (kind (at p i)) e) 0 ne

  given_there : i < length p → at (with_device p e i) i ≡ pack (job (at p i)) (kind (at p i)) e
  unfolding with_device
  given_there h = get_or-set_same p i (pack (job (at p i)) (kind (at p i)) e) 0 h

  given_device : i < length p → e < 256 → operand (at (with_device p e i) i) ≡ e
  given_device h s = rw (given_there h) (operand_pack (job (at p i)) (kind (at p i)) e s)

  -- a device below 128 makes no held line
  given_unheld : i < length p → e < held_from → is_held (at (with_device p e i) i) ≡ false
  unfolding is_held
  given_unheld h s =
      and_right (opens (at (with_device p e i) i)) (leb held_from (operand (at (with_device p e i) i)))
      (rw (given_device h (omega arith)) (lt-leb held_from e s))

  given_alike : i < length p → e < held_from → is_start (at p i) ≡ false → is_held (at p i) ≡ false
      → Alike p (with_device p e i)
  unfolding with_device
  given_alike h s n o = record {
    long = length-set p i (pack (job (at p i)) (kind (at p i)) e);
    jobs = λ k. go job k (rw (given_there h) (job_pack (job (at p i)) (kind (at p i)) e small b));
    kinds = λ k. go kind k (rw (given_there h) (kind_pack (job (at p i)) (kind (at p i)) e small b));
    helds = λ k. held_kept k (test (eqb k i));
    named = λ k u. ap operand (given_elsewhere k (λ z. clash (is_start (at p k)) u (rw z n)));
  }
    where
      small : kind (at p i) < 4
      small = kind_small (at p i)

      b : e < 256
      b = omega arith

      held_kept : (k : ℕ) → (eqb k i ≡ true) ⊎ (eqb k i ≡ false) → is_held (at (with_device p e i) k) ≡ is_held (at p k)
      held_kept k (inl z) = rw (eqb-true k i z) (given_unheld h s ∙ sym o)
      held_kept k (inr z) = ap is_held (given_elsewhere k (eqb-false k i z))

      go : (f : ℕ → ℕ) (k : ℕ) → f (at (with_device p e i) i) ≡ f (at p i) → f (at (with_device p e i) k) ≡ f (at p k)
      go f k q = split (test (eqb k i))
        where
          split : (eqb k i ≡ true) ⊎ (eqb k i ≡ false) → f (at (with_device p e i) k) ≡ f (at p k)
          split (inl z) = rw (eqb-true k i z) q
          split (inr z) = ap f (given_elsewhere k (eqb-false k i z))

-- ---- the edited plan

-- q is the plan p with device e at the take i and at its mate
pub record EditOf (p : List ℕ) (i e : ℕ) (q : List ℕ) : Type 0 where
  pub alike : Alike p q
  pub at_take : operand (at q i) ≡ e
  pub at_mate : (m : ℕ) → mate p i ≡ some m → operand (at q m) ≡ e
  pub elsewhere : (k : ℕ) → k ≢ i → (mate p i ≡ some k → ⊥) → at q k ≡ at p k

alike_trans : (p q r : List ℕ) → Alike p q → Alike q r → Alike p r
alike_trans p q r a b = record {
  long = b.long ∙ a.long;
  jobs = λ k. b.jobs k ∙ a.jobs k;
  kinds = λ k. b.kinds k ∙ a.kinds k;
  helds = λ k. b.helds k ∙ a.helds k;
  named = λ k s. b.named k (same_start p q a k ∙ s) ∙ a.named k s;
}

pub edit : (p : List ℕ) (i e : ℕ) → is_take (at p i) ≡ true → e < held_from → EditOf p i e (edited p i e)
unfolding edited also_mate
edit p i e t s = go (mate p i) refl
  where
    q : List ℕ
    q = with_device p e i

    in_plan : i < length p
    in_plan = take_line p i t

    a : Alike p q
    a = given_alike p e i in_plan s (take_no_start (at p i) t) (take_no_held (at p i) t)

    b : e < 256
    b = omega arith

    go : (o : Option ℕ) → mate p i ≡ o → EditOf p i e (also_mate q e o)
    go none h = record {
      alike = a;
      at_take = given_device p e i in_plan b;
      at_mate = λ m g. no_some (sym h ∙ g);
      elsewhere = λ k n g. given_elsewhere p e i k n;
    }
    go (some m) h = record {
      alike = alike_trans p q (with_device q e m) a
          (given_alike q e m in_q s (same_start p q a m ∙ give_no_start (at p m) r.gives)
          (a.helds m ∙ give_no_held (at p m) r.gives));
      at_take = ap operand (given_elsewhere q e m i (omega (arith, r.below))) ∙ given_device p e i in_plan b;
      at_mate = λ n g. let z : m ≡ n = some-injective m n (sym h ∙ g) in rw (← z) (given_device q e m in_q b);
      elsewhere = λ k n g. given_elsewhere q e m k (λ z. g (rw z h)) ∙ given_elsewhere p e i k n;
    }
      where
        r : Pair p i m
        r = pair p i m h

        in_q : m < length q
        in_q = omega (arith, r.in_plan, a.long)

given_same : (p : List ℕ) (i : ℕ) → is_held (at p i) ≡ false → with_device p (device_at p i) i ≡ p
unfolding with_device device_at
given_same p i n = rw (own_device (at p i) n, pack_parts (at p i)) (set-get_or p i 0)

-- a take that is given the device that it has leaves the plan as it is
pub edited_same : (p : List ℕ) → Rules p → (i : ℕ) → is_take (at p i) ≡ true → edited p i (device_at p i) ≡ p
unfolding edited also_mate
edited_same p rules i t = rw (given_same p i (take_no_held (at p i) t)) (go (mate p i) refl)
  where
    go : (o : Option ℕ) → mate p i ≡ o → also_mate p (device_at p i) o ≡ p
    go none h = refl
    go (some m) h =
        rw (← mate_names_device p rules i m (take_opens (at p i) t) h)
        (given_same p m (give_no_held (at p m) (pair p i m h).gives))

-- a place is the take's, its mate's, or another
data Spot (p : List ℕ) (i k : ℕ) : Type 0 where
  the_take : k ≡ i → Spot p i k
  the_mate : mate p i ≡ some k → Spot p i k
  another : k ≢ i → (mate p i ≡ some k → ⊥) → Spot p i k

spot : (p : List ℕ) (i k : ℕ) → Spot p i k
spot p i k = go (test (eqb k i)) (mate p i) refl
  where
    go : (eqb k i ≡ true) ⊎ (eqb k i ≡ false) → (o : Option ℕ) → mate p i ≡ o → Spot p i k
    go (inl z) o h = the_take (eqb-true k i z)
    go (inr z) none h = another (eqb-false k i z) (λ g. no_some (sym h ∙ g))
    go (inr z) (some m) h = split (test (eqb m k))
      where
        split : (eqb m k ≡ true) ⊎ (eqb m k ≡ false) → Spot p i k
        split (inl y) = the_mate (rw (eqb-true m k y) at h)
        split (inr y) = another (eqb-false k i z) (λ g. eqb-false m k y (some-injective m k (sym h ∙ g)))

same_map : (f g : ℕ → ℕ) (xs : List ℕ) → ((n x : ℕ) → get_elem? xs n ≡ some x → f x ≡ g x) → map f xs ≡ map g xs
same_map f g [] h = refl
same_map f g (x ∷ xs) h = cc (h 0 x refl, same_map f g xs (λ n. h (suc n)))

last_is : (f : ℕ → ℕ) (xs : List ℕ) (d t : ℕ) → get_elem? xs 0 ≡ some t → d ≡ f t → is_last d (map f xs) ≡ true
unfolding is_last
last_is f [] d t h e = no_some h
last_is f (x ∷ xs) d t h e = eq-eqb d (f x) (rw (some-injective x t h) e)

-- a line that takes or gives is still one with another device
line_with_device : (S : Settings) (l m : ℕ) → is_line S l ≡ true → (kind l ≡ 1) ⊎ (kind l ≡ 2) → is_held m ≡ false
    → job m ≡ job l → kind m ≡ kind l → operand m < S.devices → is_line S m ≡ true
line_with_device S l m h s n j k o =
    let r = line_parts S l h in
    (line_exactly S m).1 (rw j r.0, rw j r.1, rw (verb_kind m n, own_device m n, k) (of_device s o))

-- ---- what an edit keeps

module _ (p q : List ℕ) (i e : ℕ) (t : is_take (at p i) ≡ true) (d : EditOf p i e q) where
  -- the take's line and its mate's apart, a take has the device that it had, and so has a held line
  pub take_kept : (k : ℕ) → k ≢ i → opens (at p k) ≡ true → at q k ≡ at p k
  take_kept k n v = go (spot p i k)
    where
      go : Spot p i k → at q k ≡ at p k
      go (the_take z) = absurd (n z)
      go (the_mate h) = clash (is_give (at p k)) (pair p i k h).gives (opens_no_give (at p k) v)
      go (another x y) = d.elsewhere k x y

  -- held lines stay as they are
  pub held_stays : (k : ℕ) → is_held (at p k) ≡ true → at q k ≡ at p k
  held_stays k h =
      take_kept k (λ z. clash (is_held (at p k)) h (rw z (take_no_held (at p i) t))) (held_opens (at p k) h)

  -- the new device is the take's
  pub new_device : device_at q i ≡ e
  unfolding device_at
  new_device = own_device (at q i) (d.alike.helds i ∙ take_no_held (at p i) t) ∙ d.at_take

  -- where the take is not open, the job holds what it held
  pub held_kept : (k : ℕ) → ((n : ℕ) → get_elem? (open_takes p (job (at p k)) k) n ≡ some i → ⊥)
      → held_there q k ≡ held_there p k
  unfolding device_at
  held_kept k closed =
      rw (held_open q (job (at q k)) k, d.alike.jobs k, same_open p q d.alike (job (at p k)) k)
      (same_map (device_at q) (device_at p) (open_takes p (job (at p k)) k)
      (λ n u o. ap device_of (take_kept u (λ z. closed n (rw z at o)) (open_is p (job (at p k)) k n u o).opening))
      ∙ sym (held_open p (job (at p k)) k))

  -- a take before which the moved one is open stands under it
  open_under : Rules p → (k n : ℕ) → is_take (at p k) ≡ true → get_elem? (open_takes p (job (at p k)) k) n ≡ some i
      → has k (under p i) ≡ true
  unfolding until
  open_under rules k n v o =
      under_has p i k r.above (go (mate p i) refl) (sym r.of_job)
    where
      r : Open p (job (at p k)) k n i
      r = open_is p (job (at p k)) k n i o

      in_plan : k < length p
      in_plan = take_line p k v

      found : mate p i ≡ mate_in (job (at p k)) n k (drop k p)
      found = open_mates p rules k (job (at p k)) n i in_plan refl o

      go : (x : Option ℕ) → mate p i ≡ x → k < get_or x (length p)
      go none e = in_plan
      go (some m) e =
          let ne : k ≢ m = λ z. clash (is_give (at p k)) (rw z (pair p i m e).gives) (take_no_give (at p k) v) in
          omega (arith, ne, mate_below (job (at p k)) n k (drop k p) m (sym found ∙ e))

  others_own : Rules p → (k : ℕ) → k ≢ i → has k (under p i) ≡ false → own q k ≡ own p k
  unfolding own takes_at holds_already device_at
  others_own rules k n u = go (test (is_take (at p k)))
    where
      go : (is_take (at p k) ≡ true) ⊎ (is_take (at p k) ≡ false) → own q k ≡ own p k
      go (inl v) =
          rw (
            held_kept k (λ x o. clash (has k (under p i)) (open_under rules k x v o) u),
            take_kept k n (take_opens (at p k) v),
          )
      go (inr v) = rw (same_take p q d.alike k, v)

  -- a give names the device of its take
  pair_named : Rules p → (m u : ℕ) → is_give (at p m) ≡ true → opens (at p u) ≡ true → mate p u ≡ some m
      → get_elem? (open_takes p (job (at p m)) m) 0 ≡ some u
      → operand (at q m) ≡ device_at q u
  unfolding device_at
  pair_named rules m u g v h o = go (spot p i u)
    where
      no_take_lem : m ≢ i
      no_take_lem z = clash (is_give (at p m)) g (take_no_give (at p m) (rw z t))

      the_take_lem : mate p i ≡ some m → u ≡ i
      the_take_lem y =
          let r = pair p i m y in
          let first = take_open_at_mate p i m (take_opens (at p i) t) y in
          some-injective u i (sym o ∙ (rw (r.same_job m (omega (arith, r.below)) (omega arith)) first))

      go : Spot p i u → operand (at q m) ≡ device_of (at q u)
      go (the_take z) = d.at_mate m (rw z at h) ∙ sym new_device ∙ rw z
      go (the_mate y) = clash (is_give (at p u)) (pair p i u y).gives (opens_no_give (at p u) v)
      go (another x y) =
          rw (d.elsewhere m no_take_lem (λ k. x (the_take_lem k)), d.elsewhere u x y)
          (sym (own_device (at p m) (give_no_held (at p m) g)) ∙ mate_names_device p rules u m v h)

  give_kept : Rules p → (m : ℕ) → is_give (at q m) ≡ true
      → is_last (operand (at q m)) (held_there q m) ≡ true
  give_kept rules m g =
      let g' = sym (same_give p q d.alike m) ∙ g in
      let r = give_has_take p rules m g' in
      rw (
        held_open q (job (at q m)) m,
        d.alike.jobs m,
        same_open p q d.alike (job (at p m)) m,
      )
      (last_is (device_at q) (open_takes p (job (at p m)) m) (operand (at q m)) r.0 r.1
      (pair_named rules m r.0 g' (open_is p (job (at p m)) m 0 r.0 r.1).opening r.2 r.1))

  -- a held line of device x is one in the plan
  holds_was : (k x : ℕ) → holds (at q k) x ≡ true → holds (at p k) x ≡ true
  unfolding holds
  holds_was k x h =
      let s = and_split (is_held (at q k)) (eqb (device_of (at q k)) x) h in
      rw (held_stays k (sym (d.alike.helds k) ∙ s.0)) at h

  -- and it is one in the edited plan, or in neither
  pub same_holds : (k x : ℕ) → holds (at q k) x ≡ holds (at p k) x
  unfolding holds
  same_holds k x = tests_agree (holds (at q k) x) (holds (at p k) x) (holds_was k x) from
    where
      from : (is_held (at p k) && eqb (device_of (at p k)) x) ≡ true
          → (is_held (at q k) && eqb (device_of (at q k)) x) ≡ true
      from h =
          let s = and_split (is_held (at p k)) (eqb (device_of (at p k)) x) h in rw (held_stays k s.0) h

module _ (S : Settings) (p q : List ℕ) (i e : ℕ) (w : WellFormed S p) (t : is_take (at p i) ≡ true)
    (b : e < S.devices) (d : EditOf p i e q) where
  a : Alike p q
  a = d.alike

  line_kept : (k : ℕ) → k < length p → is_line S (at q k) ≡ true
  unfolding is_give opens
  line_kept k h = go (spot p i k)
    where
      with : (kind (at p k) ≡ 1) ⊎ (kind (at p k) ≡ 2) → is_held (at p k) ≡ false → operand (at q k) ≡ e
          → is_line S (at q k) ≡ true
      with v n o =
          line_with_device S (at p k) (at q k) (w.lines k h) v (a.helds k ∙ n) (a.jobs k) (a.kinds k) (rw o b)

      go : Spot p i k → is_line S (at q k) ≡ true
      go (the_take z) =
          with (inl (rw z (eqb-true (kind (at p i)) 1 (take_opens (at p i) t)))) (rw z (take_no_held (at p i) t))
          (rw z d.at_take)
      go (the_mate y) =
          let g = (pair p i k y).gives in
          with (inr (eqb-true (kind (at p k)) 2 g)) (give_no_held (at p k) g) (d.at_mate k y)
      go (another x y) = rw (d.elsewhere k x y) (w.lines k h)

  same_lines : (j : ℕ) → has_lines q j ≡ has_lines p j
  unfolding has_lines
  same_lines j = same_any (λ l. eqb (job l) j) p q a.long (λ k. rw (a.jobs k))

  rules_kept : Rules q
  rules_kept = record {
    first = λ h. a.jobs 0 ∙ r.first (omega (arith, a.long));
    next = λ k h. rw (a.jobs k, a.jobs (suc k)) (r.next k (omega (arith, a.long)));
    start_higher = λ k j h. rw (a.jobs k) (r.start_higher k j (was k j h));
    start_once = λ k l j lt h. same_starts p q a l j ∙ r.start_once k l j lt (was k j h);
    start_has_lines = λ k j h. same_lines j ∙ r.start_has_lines k j (was k j h);
    give = give_kept p q i e t d r;
    held_once = λ k l x lt h.
        same_holds p q i e t d l x ∙ r.held_once k l x lt (holds_was p q i e t d k x h);
    held_first = λ k l lt h z.
        a.helds l ∙ r.held_first k l lt (sym (a.helds k) ∙ h) (sym (a.jobs l) ∙ z ∙ a.jobs k);
    held_runs = λ k l h.
        rw (a.jobs k) (same_starts p q a l (job (at p k)) ∙ r.held_runs k l (sym (a.helds k) ∙ h));
  }
    where
      r : Rules p
      r = w.rules

      was : (k j : ℕ) → starts (at q k) j ≡ true → starts (at p k) j ≡ true
      was k j h = sym (same_starts p q a k j) ∙ h

  well_formed_kept : WellFormed S q
  well_formed_kept = record {
    few = omega (arith, a.long, w.few);
    lines = λ k h. line_kept k (omega (arith, a.long));
    rules = rules_kept;
    started = λ m k h n.
        rw (a.jobs k)
        (same_any (λ l. starts l (job (at p k))) p q a.long (λ x. same_starts p q a x (job (at p k)))
        ∙ w.started m k (omega (arith, a.long)) (λ z. n (a.jobs k ∙ z)));
  }

-- ---- of the edited plan itself

pub own_elsewhere : (p : List ℕ) → Rules p → (i e k : ℕ) → is_take (at p i) ≡ true → e < held_from → k ≢ i
    → has k (under p i) ≡ false
    → own (edited p i e) k ≡ own p k
own_elsewhere p rules i e k t s = others_own p (edited p i e) i e t (edit p i e t s) rules k

-- The theorem: where the plan is well-formed, the edited one is.
pub edited_well_formed : (S : Settings) (p : List ℕ) (i e : ℕ) → WellFormed S p → is_take (at p i) ≡ true
    → e < S.devices → S.devices ≤ held_from → WellFormed S (edited p i e)
edited_well_formed S p i e w t b small = well_formed_kept S p (edited p i e) i e w t b (edit p i e t (omega arith))
