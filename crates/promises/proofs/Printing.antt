-- What `print` promises (01, "Plans with their verdicts", its last part) leaves one outcome per input; where there is
-- room for the screens, what it wrote is what is printed for the text.
use Prim.Native.Nat.{ℕ, ◌≤◌, ◌<◌}
use mathlib.Core.List.{List}
use mathlib.Core.Logic.{◌⊎◌, inl, inr}
use mathlib.Core.Path.{◌≡◌, sym, ◌∙◌}
use lib.ListN.{length, take, drop}
use lib.Seq.{take_at}
use Rattle.model.specs.Lists.{over}
use Rattle.model.specs.Line.{Settings}
use Rattle.model.specs.Printed.{printed, screen_room}
use Rattle.theory.proofs.Tests.{le_or_lt}
use Rattle.promises.specs.Screen.{ScreensAs, PrintsAs}
use Rattle.promises.proofs.Tight.{one_screen}
use Rattle.promises.proofs.Screen.{written_whole}

pub one_print : (S : Settings) (text plan order lent : List ℕ) (m n : ℕ)
    (plan' order' left plan'' order'' other : List ℕ)
    → PrintsAs S text plan order lent m plan' order' left → PrintsAs S text plan order lent n plan'' order'' other
    → (m ≡ n) × (plan' ≡ plan'') × (order' ≡ order'') × (left ≡ other)
one_print S text plan order lent m n plan' order' left plan'' order'' other x y =
    let s = one_screen S text lent m n left other x.screens y.screens in
    let w = go (le_or_lt screen_room (length lent)) in
    (s.0, w.0, w.1, s.1)
  where
    go : (screen_room ≤ length lent) ⊎ (length lent < screen_room) → (plan' ≡ plan'') × (order' ≡ order'')
    go (inl h) =
        let p : plan' ≡ plan'' = x.reads h ∙ sym (y.reads h) in (p, x.orders h ∙ rw p (sym (y.orders h)))
    go (inr h) = ((x.idle h).0 ∙ sym (y.idle h).0, (x.idle h).1 ∙ sym (y.idle h).1)

-- where there is room for the screens, the bytes counted are those printed
pub front_printed : (S : Settings) (text lent : List ℕ) (n : ℕ) (left : List ℕ) → ScreensAs S text lent n left
    → screen_room ≤ length lent → take n left ≡ printed S text
unfolding over
front_printed S text lent n left s h =
    let w = written_whole S text lent n left s h in
    rw w.1 (take_at (printed S text) (drop (length (printed S text)) lent) n (sym w.0))
