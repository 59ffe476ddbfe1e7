-- While a line is undone, (a) or (b) finds a line, if no device is kept by two lines and none leads back to itself.
-- For otherwise every job that can go on stands at a lasting take whose device another undone line takes; that line
-- is reached from some standing line, so every standing device lies in the row of a standing device; and going back
-- from row to row there would be more devices than there are.
use Prim.Native.Nat.{ℕ, zero, suc, ◌+◌, ◌<◌, ◌≤◌}
use mathlib.Core.Bool.{Bool, true, false, not, ◌&&◌}
use mathlib.Core.List.{List, [], ◌∷◌}
use mathlib.Core.Logic.{◌⊎◌, inl, inr, ◌≢◌}
use mathlib.Core.Option.{Option, none, some}
use mathlib.Core.Path.{◌≡◌, refl, sym, ◌∙◌, subst}
use native.Mathlib.Omega.{arith}
use lib.Dec.{eqb}
use lib.ListN.{length, get_or}
use borrow.Author.Tests.{eq-eqb, eqb-false, not-true, not-false}
use Rattle.model.specs.Lists.{any, has, those, first_of, least_by, or_else, positions}
use Rattle.model.specs.Sets.{member}
use Rattle.model.specs.Line.{Settings, is_give, opens, at}
use Rattle.model.specs.Mate.{takes_at, device_at, takes, grips, mate, is_none, lasting_at, lasting}
use Rattle.model.specs.WellFormed.{WellFormed}
use Rattle.model.specs.Legal.{precedes}
use Rattle.model.specs.Claims.{table, beyond}
use Rattle.model.specs.Rows.{rows, Leads, once, more}
use Rattle.model.specs.Handed.{undone, standing, going_on, alone, lasting_next}
use Rattle.theory.specs.Verdict.{LastsTwice}
use Rattle.theory.proofs.Tests.{test, or_left, and_split, and_both}
use Rattle.theory.proofs.Lists.{has_none, has_head, has_tail, has_cases, has_position, position_has, has_those}
use Rattle.theory.proofs.Lists.{those_has}
use Rattle.theory.proofs.Lists.{any_found, Answer, first_answer, Least, least_answer}
use Rattle.theory.proofs.Lists.{left, left_lt, left_none, among}
use Rattle.theory.specs.Claims.{Reach, here, step}
use Rattle.theory.proofs.Claims.{reached_claimed, beyond_in, takes_parts}
use Rattle.theory.proofs.Successors.{precedes_reaches}
use Rattle.theory.proofs.OnlyIf.{row_in_lem}
use Rattle.theory.proofs.Places.{lasting_parts, lasting_keeps}
use Rattle.theory.proofs.Line.{device_line}
use Rattle.theory.proofs.Grips.{takes_grips, grips_line, grips_parts}

-- ---- undone and standing lines

pub has_undone : (p done : List ℕ) (k : ℕ) → has k (undone p done) ≡ true → (k < length p) × (has k done ≡ false)
unfolding undone
has_undone p done k h =
    let r = has_those (λ i. not (has i done)) (positions p) k h in
    (has_position p k r.0, not-true (has k done) r.1)

pub undone_has : (p done : List ℕ) (k : ℕ) → k < length p → has k done ≡ false → has k (undone p done) ≡ true
unfolding undone
undone_has p done k h e = those_has (λ i. not (has i done)) (positions p) k (position_has p k h) (rw e)

pub has_standing : (p u : List ℕ) (i : ℕ) → has i (standing p u) ≡ true
    → (has i u ≡ true) × (any (λ k. precedes p k i) u ≡ false)
unfolding standing
has_standing p u i h =
    let r = has_those (λ i. not (any (λ k. precedes p k i) u)) u i h in
    (r.0, not-true (any (λ k. precedes p k i) u) r.1)

pub standing_has : (p u : List ℕ) (i : ℕ) → has i u ≡ true → any (λ k. precedes p k i) u ≡ false
    → has i (standing p u) ≡ true
unfolding standing
standing_has p u i h e = those_has (λ i. not (any (λ k. precedes p k i) u)) u i h (rw e)

-- what a turn's choice tells
pub data Picked (p u : List ℕ) : Option ℕ → Type 0 where
  stuck : ((i : ℕ) → has i (standing p u) ≡ true → (lasting_at p i ≡ true) × (alone p u i ≡ false)) → Picked p u none
  goes : (i : ℕ) → has i (standing p u) ≡ true → (lasting_at p i ≡ false) ⊎ (alone p u i ≡ true) → Picked p u (some i)

pub picked : (p u : List ℕ) → Picked p u (or_else (going_on p u) (lasting_next p u))
unfolding or_else going_on lasting_next
picked p u =
    go (first_of (λ i. not (lasting_at p i)) (standing p u)) (first_answer (λ i. not (lasting_at p i)) (standing p u))
    (least_by (device_at p) (those (λ i. lasting_at p i && alone p u i) (standing p u)))
    (least_answer (device_at p) (those (λ i. lasting_at p i && alone p u i) (standing p u)))
  where
    waits : Answer (λ i. not (lasting_at p i)) (standing p u) none
        → those (λ i. lasting_at p i && alone p u i) (standing p u) ≡ []
        → (i : ℕ) → has i (standing p u) ≡ true → (lasting_at p i ≡ true) × (alone p u i ≡ false)
    waits h k i s = (lasts, go (test (alone p u i)))
      where
        lasts : lasting_at p i ≡ true
        lasts = not-false (lasting_at p i) (h i s)

        go : (alone p u i ≡ true) ⊎ (alone p u i ≡ false) → alone p u i ≡ false
        go (inr e) = e
        go (inl e) =
            has_none i
            (rw k at (those_has (λ i. lasting_at p i && alone p u i) (standing p u) i s
            (and_both (lasting_at p i) (alone p u i) lasts e)))

    go : (a : Option ℕ) → Answer (λ i. not (lasting_at p i)) (standing p u) a
        → (b : Option ℕ) → Least (device_at p) (those (λ i. lasting_at p i && alone p u i) (standing p u)) b
        → Picked p u (or_else a b)
    go (some i) h b k = goes i h.0 (inl (not-true (lasting_at p i) h.1))
    go none h none k = stuck (waits h k)
    go none h (some i) k =
        let r = has_those (λ i. lasting_at p i && alone p u i) (standing p u) i k.0 in
        goes i r.0 (inr (and_split (lasting_at p i) (alone p u i) r.1).1)

-- ---- takes, devices, rows

-- a lasting take is one of its own device
pub lasting_own : (p : List ℕ) (i : ℕ) → lasting_at p i ≡ true → lasting p i (device_at p i) ≡ true
unfolding lasting_at lasting takes
lasting_own p i h =
    let s = and_split (takes_at p i) (is_none (mate p i)) h in
    and_both (takes_at p i && eqb (device_at p i) (device_at p i)) (is_none (mate p i))
    (and_both (takes_at p i) (eqb (device_at p i) (device_at p i)) s.0 (eq-eqb (device_at p i) (device_at p i) refl))
    s.1

-- a take has one device
pub device_is : (p : List ℕ) (i d : ℕ) → takes p i d ≡ true → device_at p i ≡ d
device_is p i d t = (takes_parts p i d t).1

-- which the board has
pub grips_below : (S : Settings) (p : List ℕ) → WellFormed S p → (i d : ℕ) → grips p i d ≡ true → d < S.devices
unfolding device_at
grips_below S p w i d g =
    let r = grips_parts p i d g in
    subst (λ (x : ℕ). x < S.devices) r.1
    (device_line S (at p i) (w.lines i (grips_line p i d g)) (or_left (opens (at p i)) (is_give (at p i)) r.0))

pub device_below : (S : Settings) (p : List ℕ) → WellFormed S p → (i d : ℕ) → takes p i d ≡ true → d < S.devices
device_below S p w i d t = grips_below S p w i d (takes_grips p i d t)

-- a take reached from a line is its own, or claimed past it
past_reach : (p : List ℕ) (i k d : ℕ) → Reach p i k → takes p k d ≡ true
    → (i ≡ k) ⊎ (member (beyond p (table p) i) d ≡ true)
past_reach p i k d (here a) t = inl refl
past_reach p i k d (step a o b h r) t = inr (beyond_in p a o d h (reached_claimed p (suc a + o) b d r t))

join : (p : List ℕ) (i b k : ℕ) → Reach p i b → Reach p b k → Reach p i k
join p i b k (here a) r = r
join p i b k (step a o c h q) r = step a o k h (join p (suc a + o) c k q r)

module _ (S : Settings) (p : List ℕ) (w : WellFormed S p) (no_two : (d : ℕ) → LastsTwice p d → ⊥)
    (no_circle : (d : ℕ) → Leads (rows S.devices p) d d → ⊥) (done : List ℕ) where
  abbrev u : List ℕ
  u = undone p done

  abbrev Stands : ℕ → Type 0
  Stands i = has i (standing p u) ≡ true

  -- an undone line is reached from one that stands next
  from_standing : (n k : ℕ) → k < n → has k u ≡ true → (i : ℕ) × Stands i × Reach p i k
  from_standing zero k h m = absurd (omega arith)
  from_standing (suc n) k h m = go (any (λ b. precedes p b k) u) refl (λ b lt. from_standing n b (omega arith))
    where
      go : (c : Bool) → any (λ b. precedes p b k) u ≡ c
          → ((b : ℕ) → b < k → has b u ≡ true → (i : ℕ) × Stands i × Reach p i b) → (i : ℕ) × Stands i × Reach p i k
      go false e ih = (k, standing_has p u k m e, here k)
      go true e ih =
          let b = any_found (λ b. precedes p b k) u e in
          let r = precedes_reaches p w.rules b.0 k (has_undone p done b.0 b.1).0
          (has_undone p done k m).0 b.2 in
          let a = ih b.0 r.0 b.1 in (a.0, a.1, join p a.0 b.0 k a.2 r.1)

  module _ (waits : (i : ℕ) → has i (standing p u) ≡ true → (lasting_at p i ≡ true) × (alone p u i ≡ false)) where
    lasts : (i : ℕ) → Stands i → lasting p i (device_at p i) ≡ true
    lasts i s = lasting_own p i (waits i s).0

    on_board_lem : (i : ℕ) → Stands i → device_at p i < S.devices
    on_board_lem i s = device_below S p w i (device_at p i) (lasting_parts p i (device_at p i) (lasts i s)).0

    -- another undone take of its device
    other : (i : ℕ) → Stands i → (k : ℕ) × (has k u ≡ true) × (k ≢ i) × (takes p k (device_at p i) ≡ true)
    unfolding alone
    other i s =
        let r = any_found (λ k. not (eqb k i) && takes p k (device_at p i)) u
        (not-false (any (λ k. not (eqb k i) && takes p k (device_at p i)) u) (waits i s).1) in
        let q = and_split (not (eqb r.0 i)) (takes p r.0 (device_at p i)) r.2 in
        (r.0, r.1, eqb-false r.0 i (not-true (eqb r.0 i) q.0), q.1)

    -- a standing device is in the row of a standing device
    behind : (i : ℕ) → Stands i
        → (j : ℕ) × Stands j × (member (get_or (rows S.devices p) (device_at p j) 0) (device_at p i) ≡ true)
    behind i s =
        let k = other i s in
        let b = from_standing (suc k.0) k.0 (omega arith) k.1 in
        (b.0, b.1, go b.0 b.1 k.0 k.2 k.3 (past_reach p b.0 k.0 (device_at p i) b.2 k.3))
      where
        go : (j : ℕ) → Stands j → (k : ℕ) → k ≢ i → takes p k (device_at p i) ≡ true
            → (j ≡ k) ⊎ (member (beyond p (table p) j) (device_at p i) ≡ true)
            → member (get_or (rows S.devices p) (device_at p j) 0) (device_at p i) ≡ true
        go j t k n h (inr m) = row_in_lem S.devices p (device_at p j) (device_at p i) j (on_board_lem j t) (lasts j t) m
        go j t k n h (inl e) =
            let same : device_at p j ≡ device_at p i = device_is p j (device_at p i) (rw e h) in
            absurd
            (no_two (device_at p i)
            (record {
              i = i;
              k = j;
              apart = λ q. n (sym e ∙ sym q);
              i_lasts = lasting_keeps p i (device_at p i) (lasts i s);
              k_lasts = lasting_keeps p j (device_at p i) (rw same at (lasts j t));
            }))

    -- every device seen is that of line i, or is led to from it
    abbrev LedFrom : List ℕ → ℕ → Type 0
    LedFrom seen i = (e : ℕ) → has e seen ≡ true → (e ≡ device_at p i) ⊎ Leads (rows S.devices p) (device_at p i) e

    led : (i j : ℕ) (seen : List ℕ) → LedFrom seen i → member (get_or (rows S.devices p) (device_at p j) 0)
        (device_at p i) ≡ true
        → (e : ℕ) → has e seen ≡ true → Leads (rows S.devices p) (device_at p j) e
    led i j seen f m e h = go (f e h)
      where
        go : (e ≡ device_at p i) ⊎ Leads (rows S.devices p) (device_at p i) e → Leads (rows S.devices p)
            (device_at p j) e
        go (inl q) = once (device_at p j) e (rw q m)
        go (inr q) = more (device_at p j) (device_at p i) e m q

    -- going back from device to device, each new, n at most are left
    round : (n : ℕ) (seen : List ℕ) (i : ℕ) → Stands i → left (among seen) S.devices ≤ n → LedFrom seen i → ⊥
    round zero seen i s le f =
        let b = behind i s in
        no_circle (device_at p b.0)
        (led i b.0 seen f b.2 (device_at p b.0)
        (left_none (among seen) S.devices le (device_at p b.0) (on_board_lem b.0 b.1)))
    round (suc n) seen i s le f =
        let b = behind i s in
        go b.0 b.1 (led i b.0 seen f b.2) (test (has (device_at p b.0) seen)) (round n)
      where
        go : (j : ℕ) → Stands j → ((e : ℕ) → has e seen ≡ true → Leads (rows S.devices p) (device_at p j) e)
            → (has (device_at p j) seen ≡ true) ⊎ (has (device_at p j) seen ≡ false)
            → ((seen : List ℕ) (i : ℕ) → Stands i → left (among seen) S.devices ≤ n → LedFrom seen i → ⊥) → ⊥
        go j t l (inl e) ih = no_circle (device_at p j) (l (device_at p j) e)
        go j t l (inr e) ih =
            ih (device_at p j ∷ seen) j t (omega (arith, fewer)) (λ x h. split x (has_cases x (device_at p j) seen h))
          where
            fewer : left (among (device_at p j ∷ seen)) S.devices < left (among seen) S.devices
            fewer =
                left_lt (among seen) (among (device_at p j ∷ seen)) (λ k h. has_tail k (device_at p j) seen h)
                (device_at p j) e
                (has_head (device_at p j) seen) S.devices (on_board_lem j t)

            split : (x : ℕ) → (x ≡ device_at p j) ⊎ (has x seen ≡ true)
                → (x ≡ device_at p j) ⊎ Leads (rows S.devices p) (device_at p j) x
            split x (inl q) = inl q
            split x (inr q) = inr (l x q)

    -- The theorem: nothing is left undone where nothing can go.
    pub never_stuck : (k : ℕ) → has k u ≡ true → ⊥
    never_stuck k h =
        let b = from_standing (suc k) k (omega arith) h in
        round (left (among []) S.devices) [] b.0 b.1 (omega arith) (λ e m. has_none e m)
