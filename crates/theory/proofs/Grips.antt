-- Held lines (02, request 5): which lines make a job hold a device, which lines are done before the first step, and, in
-- a plan that obeys the rules, that whatever has to come before a held line is a held line.
use Prim.Native.Nat.{ℕ, ◌<◌}
use mathlib.Core.Bool.{true, false, ◌||◌}
use mathlib.Core.List.{List}
use mathlib.Core.Logic.{◌⊎◌, inl, inr}
use mathlib.Core.Path.{◌≡◌, refl}
use lib.Dec.{eqb}
use lib.ListN.{length}
use borrow.Author.Tests.{eqb-true}
use Rattle.model.specs.Lists.{has, positions}
use Rattle.model.specs.Line.{job, opens, is_held, device_of, holds, starts, at}
use Rattle.model.specs.Mate.{takes_at, held_at, device_at, takes, held_lines, grips}
use Rattle.model.specs.WellFormed.{Rules}
use Rattle.model.specs.Legal.{precedes}
use Rattle.theory.proofs.Tests.{clash, test, or_split, or_left, or_right, and_split, and_both}
use Rattle.theory.proofs.Lists.{has_those, those_has, has_position, position_has}
use Rattle.theory.proofs.Line.{inside, take_opens, held_opens, take_no_held, held_line}
use Rattle.theory.proofs.Claims.{taking}
use Rattle.theory.proofs.Successors.{Why, same_job, starter, why}

-- ---- what makes a job hold a device

pub takes_grips : (p : List ℕ) (i d : ℕ) → takes p i d ≡ true → grips p i d ≡ true
unfolding takes grips
takes_grips p i d t =
    let s = and_split (takes_at p i) (eqb (device_at p i) d) t in
    and_both (takes_at p i || held_at p i) (eqb (device_at p i) d) (or_left (takes_at p i) (held_at p i) s.0) s.1

pub holds_grips : (p : List ℕ) (i d : ℕ) → holds (at p i) d ≡ true → grips p i d ≡ true
unfolding holds grips held_at device_at
holds_grips p i d t =
    let s = and_split (is_held (at p i)) (eqb (device_of (at p i)) d) t in
    and_both (takes_at p i || held_at p i) (eqb (device_at p i) d) (or_right (takes_at p i) (held_at p i) s.0) s.1

-- a take, or a held line
pub data Grips (p : List ℕ) (i d : ℕ) : Type 0 where
  by_take : takes p i d ≡ true → Grips p i d
  by_held : held_at p i ≡ true → holds (at p i) d ≡ true → Grips p i d

pub gripping : (p : List ℕ) (i d : ℕ) → grips p i d ≡ true → Grips p i d
unfolding grips takes holds held_at device_at
gripping p i d g = let s = and_split (takes_at p i || held_at p i) (eqb (device_at p i) d) g in
    go (or_split (takes_at p i) (held_at p i) s.0) s.1
  where
    go : (takes_at p i ≡ true) ⊎ (held_at p i ≡ true) → eqb (device_at p i) d ≡ true → Grips p i d
    go (inl a) e = by_take (and_both (takes_at p i) (eqb (device_at p i) d) a e)
    go (inr a) e = by_held a (and_both (held_at p i) (eqb (device_at p i) d) a e)

pub takes_no_held : (p : List ℕ) (i d : ℕ) → takes p i d ≡ true → held_at p i ≡ false
unfolding held_at
takes_no_held p i d t = take_no_held (at p i) (taking p i d t)

pub grips_opens : (p : List ℕ) (i d : ℕ) → grips p i d ≡ true → opens (at p i) ≡ true
unfolding held_at
grips_opens p i d g = go (gripping p i d g)
  where
    go : Grips p i d → opens (at p i) ≡ true
    go (by_take t) = take_opens (at p i) (taking p i d t)
    go (by_held h e) = held_opens (at p i) h

pub grips_parts : (p : List ℕ) (i d : ℕ) → grips p i d ≡ true → (opens (at p i) ≡ true) × (device_at p i ≡ d)
unfolding grips
grips_parts p i d g = (
  grips_opens p i d g,
  eqb-true (device_at p i) d
      (and_split (takes_at p i || held_at p i) (eqb (device_at p i) d) g).1,
)

-- they are lines of the plan
pub grips_line : (p : List ℕ) (i d : ℕ) → grips p i d ≡ true → i < length p
unfolding opens
grips_line p i d g = inside opens p i refl (grips_opens p i d g)

pub holds_line : (p : List ℕ) (i d : ℕ) → holds (at p i) d ≡ true → i < length p
holds_line p i d h = grips_line p i d (holds_grips p i d h)

-- what is not held grips by taking
pub grips_takes : (p : List ℕ) (i d : ℕ) → held_at p i ≡ false → grips p i d ≡ true → takes p i d ≡ true
grips_takes p i d n g = go (gripping p i d g)
  where
    go : Grips p i d → takes p i d ≡ true
    go (by_take t) = t
    go (by_held h e) = clash (held_at p i) h n

-- ---- the held lines

pub has_held : (p : List ℕ) (k : ℕ) → has k (held_lines p) ≡ true → (k < length p) × (held_at p k ≡ true)
unfolding held_lines
has_held p k h = let r = has_those (held_at p) (positions p) k h in (has_position p k r.0, r.1)

pub held_has : (p : List ℕ) (k : ℕ) → held_at p k ≡ true → has k (held_lines p) ≡ true
unfolding held_lines held_at
held_has p k h = those_has (held_at p) (positions p) k (position_has p k (held_line p k h)) h

module _ (p : List ℕ) (rules : Rules p) where
  -- what has to come before a held line is held
  pub before_held : (k i : ℕ) → precedes p k i ≡ true → held_at p i ≡ true → held_at p k ≡ true
  unfolding held_at
  before_held k i b h = go (why p k i b)
    where
      go : Why p k i → is_held (at p k) ≡ true
      go (same_job lt e) = rules.held_first i k lt h e
      go (starter a) = clash (starts (at p k) (job (at p i))) a (rules.held_runs i k h)

  -- so what has to come after a step is a step
  pub after_step : (k i : ℕ) → precedes p k i ≡ true → held_at p k ≡ false → held_at p i ≡ false
  after_step k i b n = go (test (held_at p i))
    where
      go : (held_at p i ≡ true) ⊎ (held_at p i ≡ false) → held_at p i ≡ false
      go (inl h) = clash (held_at p k) (before_held k i b h) n
      go (inr h) = h
