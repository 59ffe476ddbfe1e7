-- 01, "Plans with their verdicts", its last part: what is printed for a text, and bytes in the front of a lent buffer,
-- where there is room for all of them. That there always is, whatever is printed, is `theory/proofs/Printed`'s.
use Rattle.std.specs.Prelude.{ℕ, ◌≤◌, List, Result, Ok, Err, IfOk, ◌≡◌, length, take}
use Rattle.model.specs.Board.{board}
use Rattle.model.specs.Line.{max_lines}
use Rattle.model.specs.Lists.{over}
use Rattle.model.specs.Entries.{reading}
use Rattle.model.specs.Printed.{printed_order, printed_refusal, printed}
use Rattle.model.specs.declared.Refusal.{Refusal}
use Rattle.promises.specs.Screen.{order_after}
use Rattle.screen.specs.declared.Ordered.{Ordered}

abbrev pub ShowsAs : List ℕ → List ℕ → ℕ → List ℕ → Type 0
ShowsAs bytes lent count left = length bytes ≤ length lent → (count ≡ length bytes) × (left ≡ over bytes lent)

-- an order that was made, in front of the list, or why there is none
abbrev pub shown_by : Result Ordered Refusal → List ℕ → List ℕ
shown_by (Ok made) order = printed_order (take made.lines order) made.held
shown_by (Err r) order = printed_refusal r

-- what reading a text and making its order find is what is printed for it; and what the two lent lists are left as
pub record OrdersText (text plan order : List ℕ) (answer : Result Ordered Refusal) (plan' order' : List ℕ)
    : Type 0 where
  pub few : IfOk answer (λ made. made.lines ≤ max_lines)
  pub shows : shown_by answer order' ≡ printed board text
  pub reads : plan' ≡ (reading board text plan).left
  pub orders : order' ≡ order_after board (reading board text plan).answer plan' order
