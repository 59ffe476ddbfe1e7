-- What follows from what the screens' entry promises (01, "Plans with their verdicts", its last part): with room for
-- the screens it writes what is printed for the text, whole, and leaves what lies past it; with less it writes nothing,
-- and only then it answers 0.
use Prim.Native.Nat.{ℕ, ◌≤◌, ◌<◌}
use mathlib.Core.List.{List}
use mathlib.Core.Logic.{◌↔◌, ◌⊎◌, inl, inr}
use mathlib.Core.Path.{◌≡◌, ◌∙◌}
use native.Mathlib.Omega.{arith}
use lib.ListN.{length}
use borrow.Author.Tests.{lt-ltb, le-ltb}
use Rattle.model.specs.Lists.{over}
use Rattle.model.specs.Line.{Settings}
use Rattle.model.specs.Printed.{printed, screen_by, screening, screen_room}
use Rattle.theory.proofs.Tests.{le_or_lt}
use Rattle.theory.proofs.Printed.{printed_fits, printed_some}
use Rattle.promises.specs.Screen.{ScreensAs}

module _ (S : Settings) (text lent : List ℕ) (n : ℕ) (left : List ℕ) (s : ScreensAs S text lent n left) where
  pub written_whole : screen_room ≤ length lent
      → (n ≡ length (printed S text)) × (left ≡ over (printed S text) lent)
  unfolding screening screen_by
  written_whole h =
      (s.counts ∙ rw (le-ltb (length lent) screen_room h), s.leaves ∙ rw (le-ltb (length lent) screen_room h))

  pub nothing_written : length lent < screen_room → (n ≡ 0) × (left ≡ lent)
  unfolding screening screen_by
  nothing_written h =
      (s.counts ∙ rw (lt-ltb (length lent) screen_room h), s.leaves ∙ rw (lt-ltb (length lent) screen_room h))

  -- 0 exactly with too little room; and on a board of at most 99 devices never more than the room asked for
  pub nought_exactly : (n ≡ 0) ↔ (length lent < screen_room)
  nought_exactly = (λ e. go e (le_or_lt screen_room (length lent)), λ h. (nothing_written h).0)
    where
      go : n ≡ 0 → (screen_room ≤ length lent) ⊎ (length lent < screen_room) → length lent < screen_room
      go e (inl h) = absurd (omega (arith, (written_whole h).0, printed_some S text))
      go e (inr h) = h

  pub never_more : S.devices ≤ 99 → n ≤ screen_room
  never_more few = go (le_or_lt screen_room (length lent))
    where
      go : (screen_room ≤ length lent) ⊎ (length lent < screen_room) → n ≤ screen_room
      go (inl h) = omega (arith, (written_whole h).0, printed_fits S few text)
      go (inr h) = omega (arith, (nothing_written h).0)
