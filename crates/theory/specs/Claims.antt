-- The words in which theory says what a claim set is (01, "Claims and rows"): the devices whose outermost takes are
-- reached from the line by successors.
use Rattle.std.specs.Prelude.{ℕ, suc, ◌+◌, true, List, ◌≡◌, get_or, drop}
use Rattle.model.specs.Lists.{has}
use Rattle.model.specs.Line.{at}
use Rattle.model.specs.Mate.{takes}
use Rattle.model.specs.Claims.{successors, table}

-- the claim set of the line at i
abbrev pub claim : List ℕ → ℕ → ℕ
claim p i = get_or (table p) i 0

-- line j is reached from line i by successors, in none or more steps
pub data Reach (p : List ℕ) : ℕ → ℕ → Type 0 where
  here : (i : ℕ) → Reach p i i
  step : (i o j : ℕ) → has o (successors (at p i) (drop (suc i) p)) ≡ true → Reach p (suc i + o) j → Reach p i j

-- an outermost take of d is reached from line i
pub record Reached (p : List ℕ) (i d : ℕ) : Type 0 where
  pub j : ℕ
  pub way : Reach p i j
  pub taken : takes p j d ≡ true
