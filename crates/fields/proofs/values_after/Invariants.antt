-- From the place at hand on, bytes end where they end behind the numbers passed.
use Rattle.std.proofs.Common.{ℕ, ◌≡◌, ◌+◌, length}
use Rattle.fields.specs.Puts.{place_after, value_text}
use Rattle.fields.proofs.Pieces.{pieces}
use Rattle.fields.proofs.values_after.Given as goal

abbrev pub invariant-loop-n : goal.invariant-loop-n
invariant-loop-n l =
    (k : ℕ) → place_after l.room l.at k ≡ place_after l.room l.from (length (pieces value_text l.values l.n-index) + k)
