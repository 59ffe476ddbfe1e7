-- A plan in which no job takes again what it holds, as 01's fifth rule had it before 02, request 2: every take is an
-- outermost one, so what is said of takes is said of all of them, as in 01; and a move between two such plans rewrites
-- what 01 says it does, so that no set off the way changes.
use Prim.Native.Nat.{ℕ, suc, ◌<◌}
use mathlib.Core.Bool.{true, false, cond}
use mathlib.Core.List.{List}
use mathlib.Core.Logic.{◌⊎◌, inl, inr, ◌≢◌}
use mathlib.Core.Path.{◌≡◌, sym, ◌∙◌}
use lib.ListN.{length, get_or, take}
use Rattle.model.specs.Lists.{has}
use Rattle.model.specs.Sets.{empty, only}
use Rattle.model.specs.Line.{is_take, at, held_from}
use Rattle.model.specs.WellFormed.{Rules}
use Rattle.model.specs.Mate.{device_at, holds_already, takes_at}
use Rattle.model.specs.Claims.{own, table}
use Rattle.model.specs.Move.{edited, way, from_last, rewritten}
use Rattle.theory.proofs.Tests.{clash, test}
use Rattle.theory.proofs.Line.{take_line, take_opens}
use Rattle.theory.proofs.Edited.{EditOf, edit, same_take, take_kept}
use Rattle.theory.proofs.Way.{falls_further, way_falls, line_on_way, off_way_stays_off}
use Rattle.theory.proofs.Move.{rewritten_off, rewritten_is, sets_are}

-- no take is of a device that its job holds there
abbrev pub NoneAgain : List ℕ → Type 0
NoneAgain p = (i : ℕ) → is_take (at p i) ≡ true → holds_already p i ≡ false

-- The theorem: then every take is outermost.
pub all_outermost : (p : List ℕ) → NoneAgain p → (i : ℕ) → takes_at p i ≡ is_take (at p i)
unfolding takes_at
all_outermost p none i = go (test (is_take (at p i)))
  where
    go : (is_take (at p i) ≡ true) ⊎ (is_take (at p i) ≡ false) → takes_at p i ≡ is_take (at p i)
    go (inl t) = rw (none i t, t)
    go (inr t) = rw t

module _ (p t : List ℕ) (i e : ℕ) (rules : Rules p) (mine : take (length p) t ≡ table p)
    (taken : is_take (at p i) ≡ true) (small : e < held_from) (before : NoneAgain p)
    (after : NoneAgain (edited p i e)) where
  -- one own claim alone differs
  own_kept : (k : ℕ) → k ≢ i → own (edited p i e) k ≡ own p k
  unfolding own device_at
  own_kept k n = rw (all_outermost (edited p i e) after k, all_outermost p before k) (go (test (is_take (at p k))))
    where
      d : EditOf p i e (edited p i e)
      d = edit p i e taken small

      go : (is_take (at p k) ≡ true) ⊎ (is_take (at p k) ≡ false)
          → cond (is_take (at (edited p i e) k)) (only (device_at (edited p i e) k)) empty
          ≡ cond (is_take (at p k)) (only (device_at p k)) empty
      go (inl v) = rw (take_kept p (edited p i e) i e taken d k n (take_opens (at p k) v))
      go (inr v) = rw (same_take p (edited p i e) d.alike k, v)

  -- The theorem: such a move leaves what rewriting along the way leaves.
  pub as_along_way : rewritten (edited p i e) t (from_last p i) ≡ rewritten (edited p i e) t (way p i)
  as_along_way =
      sets_are p t i e rules mine taken small
      ∙ sym (rewritten_is p (edited p i e) t mine (edit p i e taken small).alike (way p i)
      (falls_further (suc i) (length p) (way p i) (take_line p i taken) (way_falls p i)) (off_way_stays_off p rules i)
      (λ k m. own_kept k (λ z. clash (has i (way p i)) (line_on_way p i) (rw z at m))))

  pub off_way_stays : (k : ℕ) → has k (way p i) ≡ false
      → get_or (rewritten (edited p i e) t (from_last p i)) k 0 ≡ get_or t k 0
  off_way_stays k m = rw as_along_way (rewritten_off (edited p i e) t (way p i) k m)
