-- 01, "The plan as text": the verbs as they are listed, each the front of its five bytes.
use Prim.Native.Nat.{ℕ, zero, suc, ◌≤◌, ◌<◌}
use mathlib.Core.List.{[], ◌++◌}
use mathlib.Core.Path.{◌≡◌, refl}
use native.Mathlib.Omega.{arith}
use lib.ListN.{length, get_or}
use Rattle.model.specs.Text.{verb}
use Rattle.writing.specs.Verbs.{spare}
use Rattle.writing.specs.declared.TheConstants.{VERBS}
use Rattle.writing.specs.declared.Verb.{Verb}

-- what is listed of a verb
pub record Row (k : ℕ) (row : Verb) : Type 0 where
  pub low : 2 ≤ length (verb k)
  pub high : length (verb k) ≤ 5
  pub five : row.bytes ≡ verb k ++ spare (verb k)
  pub count : row.length ≡ length (verb k)

-- past the last of them
abbrev pub no_verb : Verb
no_verb = record { bytes = []; length = 0 }

pub row_of : (k : ℕ) → k < 5 → Row k (get_or VERBS k no_verb)
unfolding verb
row_of zero h = record { low = omega arith; high = omega arith; five = refl; count = refl }
row_of (suc zero) h = record { low = omega arith; high = omega arith; five = refl; count = refl }
row_of (suc (suc zero)) h = record { low = omega arith; high = omega arith; five = refl; count = refl }
row_of (suc (suc (suc zero))) h = record { low = omega arith; high = omega arith; five = refl; count = refl }
row_of (suc (suc (suc (suc zero)))) h = record { low = omega arith; high = omega arith; five = refl; count = refl }
row_of (suc (suc (suc (suc (suc k))))) h = absurd (omega arith)
