-- Where a plan is known, with its table and its scan (specs/Known.antt), the walk is its way, the line found is its
-- nearest stale one, and the sets are rewritten as 01 says.
use Prim.Native.Nat.{ℕ, suc, ◌-◌, ◌<◌, ◌≤◌}
use mathlib.Core.Bool.{true}
use mathlib.Core.List.{List, [], ◌∷◌}
use mathlib.Core.Path.{◌≡◌, refl}
use native.Mathlib.Omega.{arith}
use lib.ListN.{length, set, length-set}
use borrow.Author.Tests.{lt-ltb, le-leb}
use Rattle.model.specs.Lists.{up_from, has, first_of}
use Rattle.model.specs.Board.{board_at}
use Rattle.model.specs.Line.{at}
use Rattle.model.specs.WellFormed.{WellFormed}
use Rattle.model.specs.Move.{way, under, rejoined, stale, rewritten}
use Rattle.plan.specs.Jobs.{first_lines}
use Rattle.plan.specs.Again.{again_flags}
use Rattle.theory.proofs.Line.{line_parts}
use Rattle.theory.specs.Move.{Falls, ends, falls}
use Rattle.theory.proofs.Lists.{has_head, has_tail, has_up_from}
use Rattle.theory.proofs.Way.{falls_below, way_falls}
use Rattle.mates.specs.Found.{found}
use Rattle.std.specs.Prelude.{Option}
use Rattle.mates.proofs.Spans.{Spans}
use Rattle.way.specs.Back.{begin_of, way_by, under_by}
use Rattle.way.specs.Join.{stale_by, mended_by}
use Rattle.way.specs.Known.{Known}
use Rattle.way.proofs.OnWay.{walk_is}
use Rattle.way.proofs.Joins.{rejoined_is}

-- ---- along any lines

module _ (p : List ℕ) (w : WellFormed (board_at true) p) where
  stale_is : (t : List ℕ) → length p ≤ length t → (is : List ℕ) → ((k : ℕ) → has k is ≡ true → k < length p)
      → first_of (stale_by p (again_flags p) (first_lines p) t) is ≡ first_of (stale p t) is
  unfolding first_of stale_by stale
  stale_is t room [] h = refl
  stale_is t room (x ∷ xs) h =
      cc (
        rejoined_is p t w room x (h x (has_head x xs)),
        stale_is t room xs (λ k m. h k (has_tail k x xs m)),
      )

  mended_is : (t : List ℕ) → length p ≤ length t → (n : ℕ) → n ≤ length p → (is : List ℕ) → Falls n is
      → mended_by p (again_flags p) (first_lines p) t is ≡ rewritten p t is
  unfolding mended_by rewritten
  mended_is t room n h is (ends m) = refl
  mended_is t room n h is (falls m x xs lt f) =
      rw (rejoined_is p t w room x (omega arith))
      (mended_is (set t x (rejoined p t x)) (omega (arith, length-set t x (rejoined p t x))) x (omega arith) xs f)

-- ---- along the way of the line at i

module _ {p t first starter again : List ℕ} (k : Known p t first starter again) (i : ℕ) (h : i < length p) where
  pub way_known : way_by p t starter i ≡ way p i
  unfolding way_by begin_of
  way_known =
      rw (k.scan.starts, lt-ltb i (length p) h, lt-ltb i (length t) (omega (arith, k.room)))
      (walk_is p k.scan.well_formed.rules
      (λ i lt. (line_parts (board_at true) (at p i) (k.scan.well_formed.lines i lt)).1) (suc i) (suc i) (omega arith) h)

  pub stale_known : (r : Option ℕ) → r ≡ found (first_of (stale_by p again first t) (way_by p t starter i))
      → r ≡ found (first_of (stale p t) (way p i))
  stale_known r e =
      rw (
        ← stale_is p k.scan.well_formed t k.room (way p i)
            (λ x m. omega (arith, falls_below (suc i) x (way p i) (way_falls p i) m)),
        ← way_known,
        ← k.scan.firsts,
        ← k.scan.agains,
      )
      e

  pub mended_known : mended_by p again first t (way_by p t starter i) ≡ rewritten p t (way p i)
  mended_known =
      rw (way_known, k.scan.firsts, k.scan.agains)
      (mended_is p k.scan.well_formed t k.room (suc i) h (way p i) (way_falls p i))

-- ---- under the take at i, whose span ends at stop

pub under_known : {p t first starter again : List ℕ} → Known p t first starter again → (i stop : ℕ) → Spans p i stop
    → (r : Option ℕ) → r ≡ found (first_of (stale_by p again first t) (under_by p t i stop))
    → r ≡ found (first_of (stale p t) (under p i))
unfolding under_by
under_known {p} {t} {first} {starter} {again} k i stop s r e =
    rw (s.under_is, ← stale_is p k.scan.well_formed t k.room lines in_plan, ← k.scan.firsts, ← k.scan.agains)
    (rw (le-leb stop (length p) s.high, le-leb stop (length t) (omega (arith, s.high, k.room))) at e)
  where
    lines : List ℕ
    lines = up_from (suc i) (stop - suc i)

    in_plan : (x : ℕ) → has x lines ≡ true → x < length p
    in_plan x m = omega (arith, (has_up_from (suc i) (stop - suc i) x m).1, s.low, s.high)
