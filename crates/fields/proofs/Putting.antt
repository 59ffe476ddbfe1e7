-- Bytes put into a lent buffer (01, "The plan as text" and "Plans with their verdicts"): what a put that fits leaves,
-- and one put behind another. The place past a chain is always that past its bytes joined; what the chain leaves is
-- what one put of them leaves, where the last place is within the buffer.
use Prim.Native.Nat.{ℕ, suc, ◌+◌, ◌-◌, ◌≤◌, ◌<◌}
use mathlib.Core.List.{List, [], ◌∷◌, ◌++◌, append_assoc, append-nil}
use mathlib.Core.Logic.{◌⊎◌, inl, inr}
use mathlib.Core.Path.{◌≡◌, refl, sym, ◌∙◌, ap}
use native.Mathlib.Omega.{arith}
use lib.ListN.{length, take, drop, set, length-append, length-drop}
use lib.Seq.{length-take-le, take_at, drop_at, drop-drop, sets, sets-eq, paste-zero}
use borrow.Author.Tests.{le-leb, lt-leb}
use Rattle.model.specs.Lists.{over}
use Rattle.theory.proofs.Tests.{le_or_lt}
use Rattle.fields.specs.Puts.{PutsAs, place_after, with_bytes}

-- ---- the place past

module _ (room at count : ℕ) where
  pub within : at + count ≤ room → place_after room at count ≡ at + count
  unfolding place_after
  within h = rw (le-leb (at + count) room h)

  pub beyond : room < at + count → place_after room at count ≡ suc room
  unfolding place_after
  beyond h = rw (lt-leb (at + count) room h)

  -- a place within the room is past bytes that fit
  pub fits : (past : ℕ) → past ≡ place_after room at count → past ≤ room → (at + count ≤ room) × (past ≡ at + count)
  fits past e h = go (le_or_lt (at + count) room)
    where
      go : (at + count ≤ room) ⊎ (room < at + count) → (at + count ≤ room) × (past ≡ at + count)
      go (inl g) = (g, e ∙ within g)
      go (inr g) = absurd (omega (arith, beyond g))

-- so many bytes and more behind them
pub place_then : (room at m n : ℕ) → place_after room (place_after room at m) n ≡ place_after room at (m + n)
place_then room at m n = go (le_or_lt (at + m) room) (le_or_lt (at + m + n) room)
  where
    go : (at + m ≤ room) ⊎ (room < at + m) → (at + m + n ≤ room) ⊎ (room < at + m + n)
        → place_after room (place_after room at m) n ≡ place_after room at (m + n)
    go (inr h) g =
        rw (beyond room at m h, beyond room (suc room) n (omega arith), beyond room at (m + n) (omega arith))
    go (inl h) (inl g) =
        rw (within room at m h, within room (at + m) n g, within room at (m + n) (omega arith)) (omega arith)
    go (inl h) (inr g) = rw (within room at m h, beyond room (at + m) n g, beyond room at (m + n) (omega arith))

pub places_joined : (room at : ℕ) (new more : List ℕ) {a past m n : ℕ} → a ≡ place_after room at m
    → past ≡ place_after room a n → m ≡ length new → n ≡ length more
    → past ≡ place_after room at (length (new ++ more))
places_joined room at new more {a} {past} {m} {n} e f g h =
    f ∙ rw (e, g, h, length-append new more) (place_then room at (length new) (length more))

-- ---- one put

-- what a put that fits leaves
pub record Fits (new : List ℕ) (at : ℕ) (old : List ℕ) (past : ℕ) (made : List ℕ) : Type 0 where
  pub room : at + length new ≤ length old
  pub moved : past ≡ at + length new
  pub leaves : made ≡ take at old ++ new ++ drop (at + length new) old

module _ {new : List ℕ} {at : ℕ} {old : List ℕ} {past : ℕ} where
  pub put : {made : List ℕ} → Fits new at old past made → PutsAs new at old past made
  unfolding with_bytes
  put x = record {
    answers = x.moved ∙ sym (within (length old) at (length new) x.room);
    leaves = x.leaves ∙ rw (le-leb (at + length new) (length old) x.room);
  }

  pub unput : past ≡ place_after (length old) at (length new) → length old < past → PutsAs new at old past old
  unfolding with_bytes
  unput e h = record { answers = e; leaves = go (le_or_lt (at + length new) (length old)) }
    where
      go : (at + length new ≤ length old) ⊎ (length old < at + length new) → old ≡ with_bytes new at old
      go (inl g) = absurd (omega (arith, within (length old) at (length new) g))
      go (inr g) = rw (lt-leb (at + length new) (length old) g)

  module _ {made : List ℕ} (x : PutsAs new at old past made) where
    pub fitted : past ≤ length old → Fits new at old past made
    unfolding with_bytes
    fitted h =
        let f = fits (length old) at (length new) past x.answers h in
        record {
          room = f.0;
          moved = f.1;
          leaves = x.leaves ∙ rw (le-leb (at + length new) (length old) f.0);
        }

    pub unfitted : length old < past → (length old < at + length new) × (made ≡ old)
    unfolding with_bytes
    unfitted h = go (le_or_lt (at + length new) (length old))
      where
        go : (at + length new ≤ length old) ⊎ (length old < at + length new)
            → (length old < at + length new) × (made ≡ old)
        go (inl g) = absurd (omega (arith, x.answers, within (length old) at (length new) g))
        go (inr g) = (g, x.leaves ∙ rw (lt-leb (at + length new) (length old) g))

    -- the buffer stays as long as it was
    pub kept : length made ≡ length old
    unfolding with_bytes
    kept = go (le_or_lt (at + length new) (length old))
      where
        go : (at + length new ≤ length old) ⊎ (length old < at + length new) → length made ≡ length old
        go (inl g) =
            rw (x.leaves, le-leb (at + length new) (length old) g)
            (simp (length-append, length-drop) (omega (arith, length-take-le at old (omega arith))))
        go (inr g) = rw (x.leaves, lt-leb (at + length new) (length old) g)

    -- where the bytes fit, the place past them
    pub moves : at + length new ≤ length old → past ≡ at + length new
    moves h = x.answers ∙ within (length old) at (length new) h

-- no bytes
pub put_none : (at : ℕ) (old : List ℕ) → at ≤ length old → PutsAs [] at old at old
put_none at old h = put (record { room = omega arith; moved = omega arith; leaves = paste-zero old at [] })

-- bytes stored one behind another
pub put_run : (new : List ℕ) (at past : ℕ) (old : List ℕ) → at + length new ≤ length old → past ≡ at + length new
    → PutsAs new at old past (sets old at new)
put_run new at past old h e = put (record { room = h; moved = e; leaves = sets-eq new old at h })

pub put_one : (at b : ℕ) (old : List ℕ) → at < length old → PutsAs (b ∷ []) at old (at + 1) (set old at b)
put_one at b old h = put_run (b ∷ []) at (at + 1) old (omega arith) (omega arith)

-- from the start of the buffer on
module _ {new old : List ℕ} {past : ℕ} {made : List ℕ} (x : PutsAs new 0 old past made) (h : past ≤ length old) where
  pub put_at_start : (past ≡ length new) × (made ≡ over new old)
  unfolding over
  put_at_start =
      let f = fitted x h in
      let z : 0 + length new ≡ length new = omega arith in
      (f.moved ∙ z, f.leaves ∙ ap (λ (n : ℕ). new ++ drop n old) z)

  pub front_at_start : take past made ≡ new
  unfolding over
  front_at_start = rw put_at_start.1 (take_at new (drop (length new) old) past (sym put_at_start.0))

-- ---- one put behind another

-- where the first has bytes to spare, the second is put over them
module _ (new spare : List ℕ) {more : List ℕ} {at : ℕ} {old : List ℕ} {p : ℕ} {mid : List ℕ} {q : ℕ} {made : List ℕ}
    (x : PutsAs (new ++ spare) at old p mid) (y : PutsAs more (at + length new) mid q made)
    (short : length spare ≤ length more) (h : at + length (new ++ more) ≤ length old) where
  -- how far the first goes with its spare bytes, and how far both
  abbrev wide_past : ℕ
  wide_past = at + length (new ++ spare)

  both_past : at + length new + length more ≡ at + length (new ++ more)
  both_past = rw (length-append new more) (omega arith)

  wide_fits : wide_past ≤ length old
  wide_fits = omega (arith, length-append new spare, both_past)

  filled : mid ≡ take at old ++ (new ++ spare) ++ drop wide_past old
  filled = (fitted x (omega (arith, wide_fits, moves x wide_fits))).leaves

  long : length (take at old) ≡ at
  long = length-take-le at old (omega arith)

  before : take (at + length new) mid ≡ take at old ++ new
  before =
      let d = drop wide_past old in
      rw (filled, append_assoc (take at old) (new ++ spare) d, append_assoc new spare d)
      (rw (← append_assoc (take at old) new (spare ++ d))
      (take_at (take at old ++ new) (spare ++ d) (at + length new)
      (length-append (take at old) new ∙ omega (arith, long))))

  behind : drop (at + length new + length more) mid ≡ drop (at + length (new ++ more)) old
  behind =
      let n = length more - length spare in
      let rest : wide_past + n ≡ at + length new + length more = omega (arith, length-append new spare) in
      rw (← both_past, ← rest, ← drop-drop n wide_past mid, ← drop-drop n wide_past old)
      (ap (drop n)
      (rw filled (drop_at (take at old ++ (new ++ spare)) (drop wide_past old) wide_past
      (length-append (take at old) (new ++ spare) ∙ omega (arith, long)))))

  pub put_over : PutsAs (new ++ more) at old q made
  put_over =
      let room : at + length new + length more ≤ length mid = omega (arith, kept x, both_past) in
      let g = fitted y (omega (arith, moves y room)) in
      put (record {
        room = h;
        moved = g.moved ∙ both_past;
        leaves = g.leaves ∙ rw (before, behind, append_assoc (take at old) new more);
      })

module _ {new more : List ℕ} {at : ℕ} {old : List ℕ} {p : ℕ} {mid : List ℕ} {q : ℕ} {made : List ℕ}
    (x : PutsAs new at old p mid) (y : PutsAs more p mid q made) where
  pub then_place : q ≡ place_after (length old) at (length (new ++ more))
  then_place = places_joined (length old) at new more x.answers (y.answers ∙ rw (kept x)) refl refl

  -- where it is known that they fit
  pub put_both : at + length (new ++ more) ≤ length old → PutsAs (new ++ more) at old q made
  put_both h =
      let e : p ≡ at + length new = moves x (omega (arith, length-append new more)) in
      let z : PutsAs (new ++ []) at old p mid = rw (append-nil new) x in
      put_over new [] z (rw e at y) (omega arith) h

  -- where the last place tells it
  pub put_then : q ≤ length old → PutsAs (new ++ more) at old q made
  put_then h = put_both (fits (length old) at (length (new ++ more)) q then_place h).0
