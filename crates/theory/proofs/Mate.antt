-- A take or a held line, its mate, and the lines between. All of them are of one job, every take between has its mate
-- before that mate, so no lasting take stands between a take and its give; and in a well-formed plan a mate names its
-- take's device. The order hands out a pair in one turn, and a move rewrites a pair, on the strength of this. Below,
-- the open takes of a job are its open held lines too.
use Prim.Native.Nat.{ℕ, zero, suc, ◌+◌, ◌-◌, ◌<◌, ◌≤◌}
use mathlib.Core.Bool.{Bool, true, false, ◌&&◌}
use mathlib.Core.List.{List, [], ◌∷◌, map, tail}
use mathlib.Core.Logic.{◌⊎◌, inl, inr}
use mathlib.Core.Option.{none, some, some-injective}
use mathlib.Core.Path.{◌≡◌, refl, sym, ◌∙◌, ap}
use native.Mathlib.Omega.{arith}
use lib.Dec.{eqb}
use lib.ListN.{length, drop, length-drop, drop_of_length-le, get_elem?}
use lib.Seq.{get_or-drop, drop-drop, drop-cons}
use borrow.Author.Tests.{eqb-true, eq-eqb, eqb-false, ne_eqb}
use Rattle.model.specs.Lists.{has}
use Rattle.model.specs.Line.{job, opens, is_take, is_give, operand, device_of, at}
use Rattle.model.specs.Mate.{device_at, holds_already, takes_at, takes, grips, mate_in, mate, is_none, lasting_at}
use Rattle.model.specs.WellFormed.{before, held_by, is_last, Rules}
use Rattle.theory.proofs.Tests.{clash, no_some, test, and_left, and_right, le_or_lt}
use Rattle.theory.proofs.Lists.{has_head, has_tail}
use Rattle.theory.proofs.Line.{take_opens, opens_no_give, own_device, give_no_held, take_line, give_line}
use Rattle.theory.proofs.Claims.{outermost, takes_parts}
use Rattle.theory.proofs.Grips.{grips_parts}
use Rattle.theory.proofs.Successors.{jobs_grow}

-- ---- the search for a mate

-- what a line does to the search
pub data Seen (j l : ℕ) (ls : List ℕ) : Type 0 where
  foreign : (job l ≡ j → ⊥) → ((d a : ℕ) → mate_in j d a (l ∷ ls) ≡ none) → Seen j l ls
  deeper : job l ≡ j → opens l ≡ true → ((d a : ℕ) → mate_in j d a (l ∷ ls) ≡ mate_in j (suc d) (suc a) ls)
      → Seen j l ls
  level : job l ≡ j → opens l ≡ false → is_give l ≡ false
      → ((d a : ℕ) → mate_in j d a (l ∷ ls) ≡ mate_in j d (suc a) ls) → Seen j l ls
  back : job l ≡ j → opens l ≡ false → is_give l ≡ true → ((a : ℕ) → mate_in j 0 a (l ∷ ls) ≡ some a)
      → ((d a : ℕ) → mate_in j (suc d) a (l ∷ ls) ≡ mate_in j d (suc a) ls) → Seen j l ls

pub seen : (j l : ℕ) (ls : List ℕ) → Seen j l ls
unfolding mate_in
seen j l ls = go (eqb (job l) j) (opens l) (is_give l) refl refl refl
  where
    go : (x y z : Bool) → eqb (job l) j ≡ x → opens l ≡ y → is_give l ≡ z → Seen j l ls
    go false y z e f g = foreign (eqb-false (job l) j e) (λ d a. rw (e, mate_in))
    go true true z e f g = deeper (eqb-true (job l) j e) f (λ d a. rw (e, f, mate_in))
    go true false false e f g = level (eqb-true (job l) j e) f g (λ d a. rw (e, f, g, mate_in))
    go true false true e f g =
        back (eqb-true (job l) j e) f g (λ a. rw (e, f, g, mate_in)) (λ d a. rw (e, f, g, mate_in))

pub mate_below : (j d a : ℕ) (ls : List ℕ) (m : ℕ) → mate_in j d a ls ≡ some m → a ≤ m
unfolding mate_in
mate_below j d a [] m h = no_some h
mate_below j d a (l ∷ ls) m h = go d h (seen j l ls) (λ e g. mate_below j e (suc a) ls m g)
  where
    go : (d : ℕ) → mate_in j d a (l ∷ ls) ≡ some m → Seen j l ls
        → ((e : ℕ) → mate_in j e (suc a) ls ≡ some m → suc a ≤ m) → a ≤ m
    go d h (foreign n e) ih = no_some (sym (e d a) ∙ h)
    go d h (deeper q t e) ih = omega (arith, ih (suc d) (sym (e d a) ∙ h))
    go d h (level q t g e) ih = omega (arith, ih d (sym (e d a) ∙ h))
    go zero h (back q t g z e) ih = omega (arith, some-injective a m (sym (z a) ∙ h))
    go (suc d) h (back q t g z e) ih = omega (arith, ih d (sym (e d a) ∙ h))

-- from a lesser depth the search ends sooner
record Sooner (j e a : ℕ) (ls : List ℕ) (m : ℕ) : Type 0 where
  by : ℕ
  found : mate_in j e a ls ≡ some by
  sooner : by < m

shallower : (j e d a : ℕ) (ls : List ℕ) (m : ℕ) → e < d → mate_in j d a ls ≡ some m → Sooner j e a ls m
unfolding mate_in
shallower j e d a [] m lt h = no_some h
shallower j e d a (l ∷ ls) m lt h = go e d lt h (seen j l ls) (λ e d g k. shallower j e d (suc a) ls m g k)
  where
    on : (e f : ℕ) → mate_in j e a (l ∷ ls) ≡ mate_in j f (suc a) ls → Sooner j f (suc a) ls m → Sooner j e a (l ∷ ls) m
    on e f q r = record { by = r.by; found = q ∙ r.found; sooner = r.sooner }

    go : (e d : ℕ) → e < d → mate_in j d a (l ∷ ls) ≡ some m → Seen j l ls
        → ((e d : ℕ) → e < d → mate_in j d (suc a) ls ≡ some m → Sooner j e (suc a) ls m) → Sooner j e a (l ∷ ls) m
    go e d lt h (foreign n q) ih = no_some (sym (q d a) ∙ h)
    go e d lt h (deeper s t q) ih = on e (suc e) (q e a) (ih (suc e) (suc d) (omega arith) (sym (q d a) ∙ h))
    go e d lt h (level s t g q) ih = on e e (q e a) (ih e d lt (sym (q d a) ∙ h))
    go e zero lt h (back s t g z q) ih = absurd (omega arith)
    go zero (suc d) lt h (back s t g z q) ih =
        record { by = a; found = z a; sooner = mate_below j d (suc a) ls m (sym (q d a) ∙ h) }
    go (suc e) (suc d) lt h (back s t g z q) ih = on (suc e) e (q e a) (ih e d (omega arith) (sym (q d a) ∙ h))

-- the lines up to the mate are of one job, the mate is a give, and takes before it have their mates before it
record Span (j a : ℕ) (ls : List ℕ) (m : ℕ) : Type 0 where
  inside : m < a + length ls
  same_job : (o : ℕ) → a + o ≤ m → job (at ls o) ≡ j
  ends : (o : ℕ) → a + o ≡ m → is_give (at ls o) ≡ true
  inner : (o k : ℕ) → k ≡ a + o → k < m → opens (at ls o) ≡ true → Sooner j 0 (suc k) (drop (suc o) ls) m

one_more : (j a l : ℕ) (ls : List ℕ) (m : ℕ) → suc a ≤ m → Span j (suc a) ls m → job l ≡ j
    → (opens l ≡ true → Sooner j 0 (suc a) ls m) → Span j a (l ∷ ls) m
one_more j a l ls m lt s q f =
    record { inside = omega (arith, s.inside); same_job = same_job'; ends = ends'; inner = inner' }
  where
    same_job' : (o : ℕ) → a + o ≤ m → job (at (l ∷ ls) o) ≡ j
    same_job' zero h = q
    same_job' (suc o) h = s.same_job o (omega arith)

    ends' : (o : ℕ) → a + o ≡ m → is_give (at (l ∷ ls) o) ≡ true
    ends' zero h = absurd (omega arith)
    ends' (suc o) h = s.ends o (omega arith)

    inner' : (o k : ℕ) → k ≡ a + o → k < m → opens (at (l ∷ ls) o) ≡ true
        → Sooner j 0 (suc k) (drop (suc o) (l ∷ ls)) m
    inner' zero k e h t = let z : k ≡ a = omega arith in rw z (f t)
    inner' (suc o) k e h t = s.inner o k (omega arith) h t

span : (j d a : ℕ) (ls : List ℕ) (m : ℕ) → mate_in j d a ls ≡ some m → Span j a ls m
unfolding mate_in
span j d a [] m h = no_some h
span j d a (l ∷ ls) m h = go d h (seen j l ls) (λ e g. span j e (suc a) ls m g)
  where
    -- the search goes on past the line
    past : (e : ℕ) → mate_in j e (suc a) ls ≡ some m → job l ≡ j → (opens l ≡ true → Sooner j 0 (suc a) ls m)
        → ((e : ℕ) → mate_in j e (suc a) ls ≡ some m → Span j (suc a) ls m) → Span j a (l ∷ ls) m
    past e g q f ih = one_more j a l ls m (mate_below j e (suc a) ls m g) (ih e g) q f

    go : (d : ℕ) → mate_in j d a (l ∷ ls) ≡ some m → Seen j l ls
        → ((e : ℕ) → mate_in j e (suc a) ls ≡ some m → Span j (suc a) ls m)
        → Span j a (l ∷ ls) m
    go d h (foreign n e) ih = no_some (sym (e d a) ∙ h)
    go d h (deeper q t e) ih =
        let g : mate_in j (suc d) (suc a) ls ≡ some m = sym (e d a) ∙ h in
        past (suc d) g q (λ u. shallower j 0 (suc d) (suc a) ls m (omega arith) g) ih
    go d h (level q t n e) ih = past d (sym (e d a) ∙ h) q (λ u. clash (opens l) u t) ih
    go (suc d) h (back q t g z e) ih = past d (sym (e d a) ∙ h) q (λ u. clash (opens l) u t) ih
    go zero h (back q t g z e) ih = let eq : a ≡ m = some-injective a m (sym (z a) ∙ h) in record {
      inside = omega arith;
      same_job = same_job' eq;
      ends = ends' eq;
      inner = λ o k y lt u. absurd (omega arith);
    }
      where
        same_job' : a ≡ m → (o : ℕ) → a + o ≤ m → job (at (l ∷ ls) o) ≡ j
        same_job' eq zero le = q
        same_job' eq (suc o) le = absurd (omega arith)

        ends' : a ≡ m → (o : ℕ) → a + o ≡ m → is_give (at (l ∷ ls) o) ≡ true
        ends' eq zero le = g
        ends' eq (suc o) le = absurd (omega arith)

-- ---- pairs, by positions of the plan

-- line m is the mate of line i
pub record Pair (p : List ℕ) (i m : ℕ) : Type 0 where
  pub below : i < m
  pub in_plan : m < length p
  pub same_job : (k : ℕ) → i ≤ k → k ≤ m → job (at p k) ≡ job (at p i)
  pub gives : is_give (at p m) ≡ true
  pub mates : (k : ℕ) → i < k → k ≤ m → opens (at p k) ≡ true → (n : ℕ) × (mate p k ≡ some n) × (n < m) × (k < n)

pub pair : (p : List ℕ) (i m : ℕ) → mate p i ≡ some m → Pair p i m
unfolding mate
pair p i m h =
    record {
      below = under;
      in_plan = omega (arith, s.inside, under, length-drop (suc i) p);
      same_job = same_job';
      gives = gives';
      mates = mates';
    }
  where
    ls : List ℕ
    ls = drop (suc i) p

    s : Span (job (at p i)) (suc i) ls m
    s = span (job (at p i)) 0 (suc i) ls m h

    under : suc i ≤ m
    under = mate_below (job (at p i)) 0 (suc i) ls m h

    there : (k : ℕ) → i < k → at ls (k - suc i) ≡ at p k
    there k lt = let q : suc i + (k - suc i) ≡ k = omega arith in get_or-drop (suc i) p (k - suc i) 0 ∙ ap (at p) q

    same_job' : (k : ℕ) → i ≤ k → k ≤ m → job (at p k) ≡ job (at p i)
    same_job' k a b = go (test (eqb k i))
      where
        go : (eqb k i ≡ true) ⊎ (eqb k i ≡ false) → job (at p k) ≡ job (at p i)
        go (inl e) = ap (λ (x : ℕ). job (at p x)) (eqb-true k i e)
        go (inr e) =
            let ne = eqb-false k i e in
            let lt : i < k = omega arith in rw (there k lt) at (s.same_job (k - suc i) (omega arith))

    gives' : is_give (at p m) ≡ true
    gives' = rw (there m under) at (s.ends (m - suc i) (omega (arith, under)))

    rest : (k : ℕ) → i < k → drop (suc (k - suc i)) ls ≡ drop (suc k) p
    rest k lt =
        let q : suc i + suc (k - suc i) ≡ suc k = omega arith in
        drop-drop (suc (k - suc i)) (suc i) p ∙ ap (λ (n : ℕ). drop n p) q

    at_take : (k : ℕ) → i < k → k < m → opens (at p k) ≡ true → (n : ℕ) × (mate p k ≡ some n) × (n < m) × (k < n)
    at_take k lt le t =
        let r = s.inner (k - suc i) k (omega arith) le (rw (there k lt) t) in
        let f : mate_in (job (at p k)) 0 (suc k) (drop (suc k) p) ≡ some r.by =
        rw (same_job' k (omega arith) (omega arith), ← rest k lt) r.found in
        (r.by, f, r.sooner, mate_below (job (at p k)) 0 (suc k) (drop (suc k) p) r.by f)

    mates' : (k : ℕ) → i < k → k ≤ m → opens (at p k) ≡ true → (n : ℕ) × (mate p k ≡ some n) × (n < m) × (k < n)
    mates' k lt le t = go (test (eqb k m))
      where
        go : (eqb k m ≡ true) ⊎ (eqb k m ≡ false) → (n : ℕ) × (mate p k ≡ some n) × (n < m) × (k < n)
        go (inl e) = clash (is_give (at p m)) gives' (opens_no_give (at p m) (rw (eqb-true k m e) at t))
        go (inr e) = let ne = eqb-false k m e in at_take k lt (omega arith) t

-- no lasting take stands between a take and its give
pub none_lasts_between : (p : List ℕ) (i m k : ℕ) → mate p i ≡ some m → i < k → k ≤ m → lasting_at p k ≡ false
unfolding lasting_at is_none
none_lasts_between p i m k h a b = go (test (takes_at p k))
  where
    go : (takes_at p k ≡ true) ⊎ (takes_at p k ≡ false) → (takes_at p k && is_none (mate p k)) ≡ false
    go (inl t) =
        let r = (pair p i m h).mates k a b (take_opens (at p k) (outermost p k t).0) in
        and_right (takes_at p k) (is_none (mate p k)) (ap is_none r.1)
    go (inr t) = and_left (takes_at p k) (is_none (mate p k)) t

-- ---- the takes that are open, by positions

-- the positions of the takes of job j that are open before line i, the latest first
unfoldable pub open_takes : List ℕ → ℕ → ℕ → List ℕ
open_takes p j zero = []
open_takes p j (suc i) =
    elim (eqb (job (at p i)) j) [
      | false ↦ open_takes p j i
      | true ↦ elim (opens (at p i)) [
        | true ↦ i ∷ open_takes p j i
        | false ↦ elim (is_give (at p i)) [ true ↦ tail (open_takes p j i) | false ↦ open_takes p j i ]
      ]
    ]

map_tail : (f : ℕ → ℕ) (xs : List ℕ) → tail (map f xs) ≡ map f (tail xs)
map_tail f [] = refl
map_tail f (x ∷ xs) = refl

-- the devices held are those of the open takes
pub held_open : (p : List ℕ) (j i : ℕ) → held_by j (before p i) ≡ map (device_at p) (open_takes p j i)
unfolding held_by before open_takes device_at
held_open p j zero = refl
held_open p j (suc i) = go (eqb (job (at p i)) j) (opens (at p i)) (is_give (at p i)) (held_open p j i)
  where
    go : (x y z : Bool) → held_by j (before p i) ≡ map (device_at p) (open_takes p j i)
        → elim x [
          | false ↦ held_by j (before p i)
          | true ↦ elim y [
            | true ↦ device_of (at p i) ∷ held_by j (before p i)
            | false ↦ elim z [ true ↦ tail (held_by j (before p i)) | false ↦ held_by j (before p i) ]
          ]
        ]
        ≡ map (device_at p)
        (elim x [
          | false ↦ open_takes p j i
          | true ↦ elim y [
            | true ↦ i ∷ open_takes p j i
            | false ↦ elim z [ true ↦ tail (open_takes p j i) | false ↦ open_takes p j i ]
          ]
        ])
    go false y z ih = ih
    go true true z ih = ap {B = List ℕ} (λ xs. device_of (at p i) ∷ xs) ih
    go true false false ih = ih
    go true false true ih = ap tail ih ∙ map_tail (device_at p) (open_takes p j i)

-- the open takes after line i, by what the line is
open_take : (p : List ℕ) (j i : ℕ) → job (at p i) ≡ j → opens (at p i) ≡ true
    → open_takes p j (suc i) ≡ i ∷ open_takes p j i
unfolding open_takes
open_take p j i e t = rw (eq-eqb (job (at p i)) j e, t, open_takes)

pub open_give : (p : List ℕ) (j i : ℕ) → job (at p i) ≡ j → opens (at p i) ≡ false → is_give (at p i) ≡ true
    → open_takes p j (suc i) ≡ tail (open_takes p j i)
unfolding open_takes
open_give p j i e t g = rw (eq-eqb (job (at p i)) j e, t, g, open_takes)

open_level : (p : List ℕ) (j i : ℕ) → job (at p i) ≡ j → opens (at p i) ≡ false → is_give (at p i) ≡ false
    → open_takes p j (suc i) ≡ open_takes p j i
unfolding open_takes
open_level p j i e t g = rw (eq-eqb (job (at p i)) j e, t, g, open_takes)

open_foreign : (p : List ℕ) (j i : ℕ) → (job (at p i) ≡ j → ⊥) → open_takes p j (suc i) ≡ open_takes p j i
unfolding open_takes
open_foreign p j i n = rw (ne_eqb (job (at p i)) j n, open_takes)

-- what a line does to the open takes
pub data Stacked (p : List ℕ) (j i : ℕ) : Type 0 where
  pushes : job (at p i) ≡ j → opens (at p i) ≡ true → open_takes p j (suc i) ≡ i ∷ open_takes p j i → Stacked p j i
  pops : open_takes p j (suc i) ≡ tail (open_takes p j i) → Stacked p j i
  stays : open_takes p j (suc i) ≡ open_takes p j i → Stacked p j i

pub stacked : (p : List ℕ) (j i : ℕ) → Stacked p j i
stacked p j i = go (seen j (at p i) [])
  where
    go : Seen j (at p i) [] → Stacked p j i
    go (foreign n q) = stays (open_foreign p j i n)
    go (deeper e t q) = pushes e t (open_take p j i e t)
    go (level e t g q) = stays (open_level p j i e t g)
    go (back e t g z q) = pops (open_give p j i e t g)

pub nth_tail : (xs : List ℕ) (n : ℕ) → get_elem? (tail xs) n ≡ get_elem? xs (suc n)
nth_tail [] n = refl
nth_tail (x ∷ xs) n = refl

pub drop_tail : (xs : List ℕ) (n : ℕ) → drop n (tail xs) ≡ drop (suc n) xs
drop_tail [] zero = refl
drop_tail [] (suc n) = refl
drop_tail (x ∷ xs) n = refl

-- what lies n deep before line k is a take or a held line of the job and stands before it; what lies below it in the
-- stack is what was open before it
pub record Open (p : List ℕ) (j k n t : ℕ) : Type 0 where
  pub opening : opens (at p t) ≡ true
  pub of_job : job (at p t) ≡ j
  pub above : t < k
  pub below : open_takes p j t ≡ drop (suc n) (open_takes p j k)

pub open_is : (p : List ℕ) (j k n t : ℕ) → get_elem? (open_takes p j k) n ≡ some t → Open p j k n t
unfolding open_takes
open_is p j zero n t h = no_some h
open_is p j (suc k) n t h = go n h (stacked p j k) (λ n. open_is p j k n t)
  where
    still : (m n : ℕ) → Open p j k m t → drop (suc m) (open_takes p j k) ≡ drop (suc n) (open_takes p j (suc k))
        → Open p j (suc k) n t
    still m n o e =
        record { opening = o.opening; of_job = o.of_job; above = omega (arith, o.above); below = o.below ∙ e }

    go : (n : ℕ) → get_elem? (open_takes p j (suc k)) n ≡ some t → Stacked p j k
        → ((n : ℕ) → get_elem? (open_takes p j k) n ≡ some t → Open p j k n t) → Open p j (suc k) n t
    go n h (stays q) ih = still n n (ih n (rw q at h)) (rw q)
    go n h (pops q) ih =
        still (suc n) n (ih (suc n) (sym (nth_tail (open_takes p j k) n) ∙ (rw q at h)))
        (sym (drop_tail (open_takes p j k) (suc n)) ∙ rw q)
    go (suc n) h (pushes e u q) ih = still n (suc n) (ih n (rw q at h)) (rw q)
    go zero h (pushes e u q) ih =
        let z : k ≡ t = some-injective k t (rw q at h) in
        record { opening = rw z at u; of_job = rw z at e; above = omega arith; below = rw (q, ← z) }

-- a take that lies n deep before line k, and whose mate by that depth is m, is the latest open take before m
latest : (f : ℕ) (p : List ℕ) (j n k t m : ℕ) → length p ≤ k + f → get_elem? (open_takes p j k) n ≡ some t
    → mate_in j n k (drop k p) ≡ some m → get_elem? (open_takes p j m) 0 ≡ some t
unfolding mate_in
latest zero p j n k t m le o h = no_some (sym (ap (mate_in j n k) (drop_of_length-le p {i = k} (omega arith))) ∙ h)
latest (suc f) p j n k t m le o h =
    ends (le_or_lt (length p) k) (λ e a b. latest f p j e (suc k) t m (omega arith) a b)
  where
    go : (n : ℕ) → get_elem? (open_takes p j k) n ≡ some t → mate_in j n k (at p k ∷ drop (suc k) p) ≡ some m
        → Seen j (at p k) (drop (suc k) p)
        → ((e : ℕ) → get_elem? (open_takes p j (suc k)) e ≡ some t → mate_in j e (suc k) (drop (suc k) p) ≡ some m
        → get_elem? (open_takes p j m) 0 ≡ some t)
        → get_elem? (open_takes p j m) 0 ≡ some t
    go n o h (foreign x q) ih = no_some (sym (q n k) ∙ h)
    go n o h (deeper e u q) ih = ih (suc n) (rw (open_take p j k e u) o) (sym (q n k) ∙ h)
    go n o h (level e u v q) ih = ih n (rw (open_level p j k e u v) o) (sym (q n k) ∙ h)
    go zero o h (back e u v z q) ih = rw (some-injective k m (sym (z k) ∙ h)) at o
    go (suc n) o h (back e u v z q) ih =
        ih n (rw (open_give p j k e u v) (nth_tail (open_takes p j k) n ∙ o)) (sym (q n k) ∙ h)

    ends : (length p ≤ k) ⊎ (k < length p)
        → ((e : ℕ) → get_elem? (open_takes p j (suc k)) e ≡ some t → mate_in j e (suc k) (drop (suc k) p) ≡ some m
        → get_elem? (open_takes p j m) 0 ≡ some t)
        → get_elem? (open_takes p j m) 0 ≡ some t
    ends (inl x) ih = no_some (sym (ap (mate_in j n k) (drop_of_length-le p {i = k} x)) ∙ h)
    ends (inr x) ih = go n o (sym (ap (mate_in j n k) (drop-cons p k 0 x)) ∙ h) (seen j (at p k) (drop (suc k) p)) ih

-- a take is the latest open take before its mate
pub take_open_at_mate : (p : List ℕ) (i m : ℕ) → opens (at p i) ≡ true → mate p i ≡ some m
    → get_elem? (open_takes p (job (at p i)) m) 0 ≡ some i
unfolding mate
take_open_at_mate p i m t h =
    latest (length p) p (job (at p i)) 0 (suc i) i m (omega arith) (rw (open_take p (job (at p i)) i refl t)) h

-- the latest open take of a job has the device held last
last_device : (p xs : List ℕ) (d i : ℕ) → get_elem? xs 0 ≡ some i → is_last d (map (device_at p) xs) ≡ true
    → d ≡ device_at p i
unfolding is_last
last_device p [] d i o h = no_some o
last_device p (x ∷ xs) d i o h = eqb-true d (device_at p x) h ∙ ap (device_at p) (some-injective x i o)

latest_of : (p xs : List ℕ) (d : ℕ) → is_last d (map (device_at p) xs) ≡ true → (i : ℕ) × (get_elem? xs 0 ≡ some i)
unfolding is_last
latest_of p [] d h = clash false h refl
latest_of p (x ∷ xs) d h = (x, refl)

pub mapped_has : (f : ℕ → ℕ) (xs : List ℕ) (n x : ℕ) → get_elem? xs n ≡ some x → has (f x) (map f xs) ≡ true
mapped_has f [] n x h = no_some h
mapped_has f (y ∷ ys) zero x h = rw (some-injective y x h) (has_head (f x) (map f ys))
mapped_has f (y ∷ ys) (suc n) x h = has_tail (f x) (f y) (map f ys) (mapped_has f ys n x h)

module _ (p : List ℕ) (rules : Rules p) where
  -- what a give's rule says of the open takes
  pub give_of_open : (m : ℕ) → is_give (at p m) ≡ true
      → is_last (operand (at p m)) (map (device_at p) (open_takes p (job (at p m)) m)) ≡ true
  give_of_open m g = rw (held_open p (job (at p m)) m) at (rules.give m g)

  -- a mate names its take's device
  pub mate_names_device : (i m : ℕ) → opens (at p i) ≡ true → mate p i ≡ some m → device_at p m ≡ device_at p i
  unfolding device_at
  mate_names_device i m t h =
      let r = pair p i m h in
      own_device (at p m) (give_no_held (at p m) r.gives)
      ∙ last_device p (open_takes p (job (at p i)) m) (operand (at p m)) i (take_open_at_mate p i m t h)
      (rw (r.same_job m (omega (arith, r.below)) (omega arith)) at (give_of_open m r.gives))

  -- before the first line of a job nothing is open
  none_open : (j i : ℕ) → ((k : ℕ) → k < i → job (at p k) ≡ j → ⊥) → open_takes p j i ≡ []
  unfolding open_takes
  none_open j zero f = refl
  none_open j (suc i) f = open_foreign p j i (f i (omega arith)) ∙ none_open j i (λ k h. f k (omega arith))

  -- before a line of job j, a take that lies n deep has the mate that the search at that depth finds
  pub open_mates : (i j n t : ℕ) → i < length p → job (at p i) ≡ j → get_elem? (open_takes p j i) n ≡ some t
      → mate p t ≡ mate_in j n i (drop i p)
  unfolding mate open_takes
  open_mates zero j n t h e o = no_some o
  open_mates (suc i) j n t h e o =
      go (test (eqb (job (at p i)) j)) (λ q k x. open_mates i j k t (omega arith) q x)
    where
      here : drop i p ≡ at p i ∷ drop (suc i) p
      here = drop-cons p i 0 (omega arith)

      step : (n : ℕ) → get_elem? (open_takes p j (suc i)) n ≡ some t → Seen j (at p i) (drop (suc i) p)
          → job (at p i) ≡ j
          → ((k : ℕ) → get_elem? (open_takes p j i) k ≡ some t → mate p t ≡ mate_in j k i (drop i p))
          → mate p t ≡ mate_in j n (suc i) (drop (suc i) p)
      step n o (foreign x q) q' ih = absurd (x q')
      step zero o (deeper e u q) q' ih =
          let z : i ≡ t = some-injective i t (rw (open_take p j i e u) at o) in
          rw (← z) (ap (λ (x : ℕ). mate_in x 0 (suc i) (drop (suc i) p)) e)
      step (suc n) o (deeper e u q) q' ih = ih n (rw (open_take p j i e u) at o) ∙ ap (mate_in j n i) here ∙ q n i
      step n o (level e u v q) q' ih = ih n (rw (open_level p j i e u v) at o) ∙ ap (mate_in j n i) here ∙ q n i
      step n o (back e u v z q) q' ih =
          ih (suc n) (sym (nth_tail (open_takes p j i) n) ∙ (rw (open_give p j i e u v) at o))
          ∙ ap (mate_in j (suc n) i) here ∙ q n i

      -- the job before is another, so job j begins here
      begins : (job (at p i) ≡ j → ⊥) → open_takes p j (suc i) ≡ []
      begins x = none_open j (suc i)
          (λ k lt q. omega (
            arith,
            jobs_grow p rules k i (omega arith) (omega arith),
            jobs_grow p rules i (suc i)
                (omega arith) h,
            x,
          ))

      go : (eqb (job (at p i)) j ≡ true) ⊎ (eqb (job (at p i)) j ≡ false)
          → (job (at p i) ≡ j → (k : ℕ) → get_elem? (open_takes p j i) k ≡ some t → mate p t ≡ mate_in j k i (drop i p))
          → mate p t ≡ mate_in j n (suc i) (drop (suc i) p)
      go (inl q) ih = let q' = eqb-true (job (at p i)) j q in step n o (seen j (at p i) (drop (suc i) p)) q' (ih q')
      go (inr q) ih = no_some (rw (begins (eqb-false (job (at p i)) j q)) at o)

  -- a give has a take, the latest that is open, and is its mate
  pub give_has_take : (m : ℕ) → is_give (at p m) ≡ true
      → (t : ℕ) × (get_elem? (open_takes p (job (at p m)) m) 0 ≡ some t) × (mate p t ≡ some m)
  unfolding mate_in
  give_has_take m g = (
    r.0,
    r.1,
    open_mates m (job (at p m)) 0 r.0 in_plan refl r.1
        ∙ found (seen (job (at p m)) (at p m) (drop (suc m) p)),
  )
    where
      r : (t : ℕ) × (get_elem? (open_takes p (job (at p m)) m) 0 ≡ some t)
      r = latest_of p (open_takes p (job (at p m)) m) (operand (at p m)) (give_of_open m g)

      in_plan : m < length p
      in_plan = give_line p m g

      found : Seen (job (at p m)) (at p m) (drop (suc m) p) → mate_in (job (at p m)) 0 m (drop m p) ≡ some m
      found (foreign x q) = absurd (x refl)
      found (deeper e u q) = clash (is_give (at p m)) g (opens_no_give (at p m) u)
      found (level e u v q) = clash (is_give (at p m)) g v
      found (back e u v z q) = ap (mate_in (job (at p m)) 0 m) (drop-cons p m 0 in_plan) ∙ z m

  -- further down, and at the plan's end, what is taken or held has its mate behind it, or is open there
  pub mated_or_open : (n i k j : ℕ) → k ≡ suc i + n → k ≤ length p → opens (at p i) ≡ true → job (at p i) ≡ j
      → ((m : ℕ) × (mate p i ≡ some m) × (m < k)) ⊎ ((o : ℕ) × (get_elem? (open_takes p j k) o ≡ some i))
  mated_or_open zero i k j e h t a = let z : k ≡ suc i = omega arith in inr (0, rw (z, open_take p j i a t))
  mated_or_open (suc n) i k j e h t a = rw z (go (mated_or_open n i x j refl (omega arith) t a))
    where
      x : ℕ
      x = suc i + n

      z : k ≡ suc x
      z = omega arith

      deep : (o : ℕ) → get_elem? (open_takes p j x) o ≡ some i → Seen j (at p x) (drop (suc x) p)
          → ((m : ℕ) × (mate p i ≡ some m) × (m < suc x)) ⊎ ((o : ℕ) × (get_elem? (open_takes p j (suc x)) o ≡ some i))
      deep o q (foreign f y) = inr (o, rw (open_foreign p j x f) q)
      deep o q (deeper c u y) = inr (suc o, rw (open_take p j x c u) q)
      deep o q (level c u v y) = inr (o, rw (open_level p j x c u v) q)
      deep zero q (back c u v y w) =
          inl (
            x,
            open_mates x j 0 i (omega arith) c q ∙ ap (mate_in j 0 x) (drop-cons p x 0 (omega arith))
                ∙ y x,
            omega arith,
          )
      deep (suc o) q (back c u v y w) = inr (o, rw (open_give p j x c u v) (nth_tail (open_takes p j x) o ∙ q))

      go : ((m : ℕ) × (mate p i ≡ some m) × (m < x)) ⊎ ((o : ℕ) × (get_elem? (open_takes p j x) o ≡ some i))
          → ((m : ℕ) × (mate p i ≡ some m) × (m < suc x)) ⊎ ((o : ℕ) × (get_elem? (open_takes p j (suc x)) o ≡ some i))
      go (inl r) = inl (r.0, r.1, omega (arith, r.2))
      go (inr r) = deep r.0 r.1 (seen j (at p x) (drop (suc x) p))

  -- where a job takes a device as an outermost take, it has given back between what it took or held of it before
  pub given_between : (i k d : ℕ) → grips p i d ≡ true → takes p k d ≡ true → job (at p i) ≡ job (at p k) → i < k
      → (m : ℕ) × (mate p i ≡ some m) × (m < k)
  unfolding holds_already
  given_between i k d gi tk e lt =
      go
      (mated_or_open (k - suc i) i k (job (at p k)) (omega arith) (omega (arith, take_line p k ok.0))
      gi'.0 e)
    where
      gi' : (opens (at p i) ≡ true) × (device_at p i ≡ d)
      gi' = grips_parts p i d gi

      sk : (takes_at p k ≡ true) × (device_at p k ≡ d)
      sk = takes_parts p k d tk

      ok : (is_take (at p k) ≡ true) × (holds_already p k ≡ false)
      ok = outermost p k sk.0

      go : ((m : ℕ) × (mate p i ≡ some m) × (m < k))
          ⊎ ((o : ℕ) × (get_elem? (open_takes p (job (at p k)) k) o ≡ some i))
          → (m : ℕ) × (mate p i ≡ some m) × (m < k)
      go (inl r) = r
      go (inr r) =
          clash (holds_already p k)
          (rw (held_open p (job (at p k)) k, sk.1 ∙ sym gi'.1)
          (mapped_has (device_at p) (open_takes p (job (at p k)) k) r.0 i r.1))
          ok.1
