-- What the code of the order reads off its lists is what the definitions say.
use Rattle.std.proofs.Common.{◌≡◌, ℕ, suc, ◌+◌, ◌-◌, ◌<◌, ◌≤◌, Bool, true, false, cond, not, ◌&&◌, eqb, ltb, lt-ltb}
use Rattle.std.proofs.Common.{le-ltb, List, length, get_or, set, Some, None, unwrap_or, refl, add-one}
use Rattle.std.proofs.Common.{arith, length-set}
use Rattle.std.specs.Bool.{then_some}
use Rattle.std.proofs.Math.Option as found
use Rattle.model.specs.Line.{job, operand, at, is_start, max_job}
use Rattle.model.specs.Mate.{lasting_at}
use Rattle.model.specs.WellFormed.{WellFormed, fault}
use Rattle.model.specs.Board.{board}
use Rattle.model.specs.declared.Refusal.{Refusal}
use Rattle.theory.specs.Outer.{plain, plain_at}
use Rattle.theory.proofs.WellFormed.{no_fault_exactly}
use Rattle.std.specs.Result.{is_ok}
use Rattle.plan.specs.Checked.{checked}
use Rattle.plan.specs.Again.{again_flags}
use Rattle.plan.specs.Jobs.{first_lines}
use Rattle.rows.specs.Lasting.{lasting_flag, lasting_flags}
use Rattle.rows.proofs.Wanted.{flag_at}
use Rattle.rows.proofs.Counted.{counts_as}
use Rattle.verdict.specs.declared.waiting.Waiting.{Waiting}
use Rattle.verdict.specs.Waiting.{is_sound, all_places, waiting_place, place_at, taken, arrived, placed}
use Rattle.verdict.specs.Waiting.{followed, goes_on, lasting_after, as_line, started_line, tallied, CanRise}
use Rattle.verdict.specs.Waiting.{settled, passed, replaced}
use Rattle.verdict.proofs.Counts.{tallied_small, tallied_none, tallied_more}
use Rattle.verdict.proofs.Standing.{followed_parts, job_fits, place_below, the_start}

-- ---- what is known of a plan

pub sound_of : (p : List ℕ) → is_sound p ≡ true → fault board p ≡ found.none
sound_of p h = go (fault board p) h
  where
    go : (o : found.Option Refusal) → is_ok (checked o) ≡ true → o ≡ found.none
    go found.none e = refl
    go (found.some r) e = cc

pub sound_is : (p : List ℕ) → fault board p ≡ found.none → is_sound p ≡ true
sound_is p e = rw e

pub formed : (p : List ℕ) → is_sound p ≡ true → WellFormed board p
formed p h = (no_fault_exactly board p).0 (sound_of p h)

-- ---- one line

pub job_from_1 : (p : List ℕ) (i : ℕ) → is_sound p ≡ true → i < length p → 1 ≤ job (at p i)
job_from_1 p i h l = (job_fits (formed p h) i l).0

pub operand_small : (l : ℕ) → operand l ≤ 255
unfolding operand
operand_small l = omega arith

-- it counts as its flag says
pub plain_is : (p again : List ℕ) (i : ℕ) → is_sound p ≡ true → again ≡ again_flags p → i < length p
    → plain (eqb (get_or again i 0) 1) (at p i) ≡ plain_at p i
plain_is p again i h a l = counts_as p again i (sound_of p h, a) l

module _ (p lasting : List ℕ) (i : ℕ) (h : is_sound p ≡ true) (m : lasting ≡ lasting_flags p) (l : i < length p) where
  mark : get_or lasting i 0 ≡ cond (lasting_at p i) 1 0
  unfolding lasting_flag
  mark = let w = formed p h in flag_at p lasting i m (omega (arith, w.few))

  pub marked : eqb (get_or lasting i 0) 1 ≡ lasting_at p i
  marked = rw mark (go (lasting_at p i))
    where
      go : (b : Bool) → eqb (cond b 1 0) 1 ≡ b
      go true = refl
      go false = refl

  pub unmarked : eqb (get_or lasting i 0) 0 ≡ not (lasting_at p i)
  unmarked = rw mark (go (lasting_at p i))
    where
      go : (b : Bool) → eqb (cond b 1 0) 0 ≡ not b
      go true = refl
      go false = refl

  -- its place is the one that its mark says
  pub place_is : cond (eqb (get_or lasting i 0) 1) (max_job + operand (at p i)) (job (at p i) - 1) ≡ place_at p i
  unfolding place_at waiting_place
  place_is = rw marked

-- it can be counted
pub can_rise : (p : List ℕ) (i : ℕ) → is_sound p ≡ true → i < length p → CanRise (tallied p i) (plain_at p i)
can_rise p i h l = let w = formed p h in tallied_small p w i (omega (arith, w.few, l))

pub place_small : (p : List ℕ) (i : ℕ) → is_sound p ≡ true → i < length p → place_at p i < all_places
place_small p i h l = place_below (formed p h) i l

pub ruleset place_steps = (job_from_1, operand_small, place_is, place_small)

pub ruleset tally_steps = (tallied_none, tallied_more, can_rise)

-- ---- the lines that it lets stand next

pub after_is : (p : List ℕ) (i : ℕ)
    → as_line p (lasting_after p i) ≡ then_some (followed p i && lasting_at p (suc i)) (suc i)
unfolding lasting_after
after_is p i = go (followed p i) refl (lasting_at p (suc i))
  where
    past : then_some (ltb (length p) (length p)) (length p) ≡ None
    past = rw (le-ltb (length p) (length p) (omega arith))

    go : (b : Bool) → followed p i ≡ b → (l : Bool)
        → as_line p (cond (b && l) (suc i) (length p)) ≡ then_some (b && l) (suc i)
    go true e true = rw (lt-ltb (suc i) (length p) (followed_parts p i e).0)
    go true e false = past
    go false e l = past

-- a start's job has a first line, which is listed
module _ (p first : List ℕ) (i : ℕ) (h : is_sound p ≡ true) (f : first ≡ first_lines p)
    (s : is_start (at p i) ≡ true) where
  pub a_job : operand (at p i) ≤ max_job
  a_job = (the_start (formed p h) i s).a_job

  pub first_is : get_or first (operand (at p i)) 0 ≡ started_line p i + 1
  first_is = rw (f, add-one (started_line p i)) (the_start (formed p h) i s).listed

  pub start_is : as_line p (started_line p i) ≡ Some (started_line p i)
  start_is =
      rw (lt-ltb (started_line p i) (length p) (the_start (formed p h) i s).begun.line)

pub no_start_is : (p : List ℕ) (i : ℕ) → is_start (at p i) ≡ false → as_line p (started_line p i) ≡ None
unfolding started_line
no_start_is p i e = rw (e, le-ltb (length p) (length p) (omega arith))

pub ruleset start_steps = (a_job, first_is, start_is, no_start_is)

-- A number that is no line's comes to no place.
module _ (p : List ℕ) (t : ℕ) where
  arrived_is : (w : Waiting) → arrived p w (unwrap_or (as_line p t) (length p)) ≡ arrived p w t
  unfolding arrived
  arrived_is w = go (ltb t (length p)) refl
    where
      go : (b : Bool) → ltb t (length p) ≡ b
          → cond (ltb (unwrap_or (then_some b t) (length p)) (length p))
          (taken w (place_at p (unwrap_or (then_some b t) (length p)))) w
          ≡ cond b (taken w (place_at p t)) w
      go true e = rw e
      go false e = rw (le-ltb (length p) (length p) (omega arith))

  placed_is : (places : List ℕ) → placed p places (unwrap_or (as_line p t) (length p)) ≡ placed p places t
  unfolding placed
  placed_is places = go (ltb t (length p)) refl
    where
      go : (b : Bool) → ltb t (length p) ≡ b
          → cond (ltb (unwrap_or (then_some b t) (length p)) (length p))
          (set places (place_at p (unwrap_or (then_some b t) (length p))) (unwrap_or (then_some b t) (length p)))
          places
          ≡ cond b (set places (place_at p t) t) places
      go true e = rw e
      go false e = rw (le-ltb (length p) (length p) (omega arith))

module _ (p : List ℕ) (i : ℕ) where
  abbrev after : ℕ
  after = unwrap_or (as_line p (lasting_after p i)) (length p)

  abbrev begun : ℕ
  begun = unwrap_or (as_line p (started_line p i)) (length p)

  pub passed_is : (counts : List ℕ) (w : Waiting)
      → passed p counts w i ≡ arrived p (arrived p (settled counts w (plain_at p i)) after) begun
  unfolding passed
  passed_is counts w =
      rw (
        arrived_is p (started_line p i) (arrived p (settled counts w (plain_at p i)) after),
        arrived_is p (lasting_after p i) (settled counts w (plain_at p i)),
      )

  pub replaced_is : (places : List ℕ) → replaced p places i ≡ placed p (placed p places after) begun
  unfolding replaced
  replaced_is places =
      rw (placed_is p (started_line p i) (placed p places after), placed_is p (lasting_after p i) places)

pub ruleset pass_steps = (passed_is, replaced_is)

-- where there is a next line, it is the one after
pub next_is : (b : Bool) (x y : ℕ) → then_some b x ≡ Some y → (b ≡ true) × (y ≡ x)
next_is true x y e = (refl, cc)
next_is false x y e = cc

module _ (p lasting : List ℕ) (i next : ℕ) (h : is_sound p ≡ true) (m : lasting ≡ lasting_flags p)
    (e : then_some (followed p i) (i + 1) ≡ Some next) where
  follows : (followed p i ≡ true) × (next ≡ i + 1)
  follows = next_is (followed p i) (i + 1) next e

  in_plan : i + 1 < length p
  in_plan = omega (arith, (followed_parts p i follows.0).0)

  -- at a line that is no lasting take the job goes on, at a lasting take it stands
  pub goes_is : then_some (eqb (get_or lasting next 0) 0) next ≡ then_some (goes_on p i) (i + 1)
  unfolding goes_on
  goes_is = rw (follows.1, unmarked p lasting (i + 1) h m in_plan, follows.0, add-one i)

  pub stands_is : then_some (eqb (get_or lasting next 0) 1) next ≡ as_line p (lasting_after p i)
  stands_is = rw (follows.1, marked p lasting (i + 1) h m in_plan, after_is p i, follows.0, add-one i)

-- the list of places is as long as it was
pub length_placed : (p places : List ℕ) (i : ℕ) → length (placed p places i) ≡ length places
unfolding placed
length_placed p places i = go (ltb i (length p))
  where
    go : (b : Bool) → length (cond b (set places (place_at p i) i) places) ≡ length places
    go true = length-set places (place_at p i) i
    go false = refl
