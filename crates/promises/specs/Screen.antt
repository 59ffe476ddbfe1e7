-- What printing and the screens' entry promise (01, "Plans with their verdicts", its last part). Of a text and a lent
-- buffer, the count and the buffer left are those of the outcome that `model` defines.
use Rattle.std.specs.Prelude.{ℕ, ◌≤◌, ◌<◌, List, ◌≡◌, length, take}
use Rattle.std.specs.Prelude.{Result, Ok, Err}
use Rattle.model.specs.declared.Refusal.{Refusal}
use Rattle.model.specs.Line.{Settings}
use Rattle.model.specs.Entries.{reading, ordering}
use Rattle.model.specs.Printed.{screening, screen_room}

pub record ScreensAs (S : Settings) (text lent : List ℕ) (count : ℕ) (left : List ℕ) : Type 0 where
  pub counts : count ≡ (screening S text lent).count
  pub leaves : left ≡ (screening S text lent).out

-- Printing is lent a plan's list and an order's too, to work in. The order's is left as the verdict on what was read
-- leaves it, if a plan was read. The plan's is left as reading leaves it: a plan that is read and then refused, by 9 or
-- 10, stays in it. Beside the screens' buffer, which gets the refusal's line, this is a second list that does not keep
-- its contents where a plan is refused. No caller in C or Rust meets it: `print` is not exported.
abbrev pub order_after : Settings → Result ℕ Refusal → List ℕ → List ℕ → List ℕ
order_after S (Ok n) plan order = (ordering S (take n plan) order).left
order_after S (Err r) plan order = order

-- with a buffer under 4,027 bytes both stay as they were
pub record PrintsAs (S : Settings) (text plan order lent : List ℕ) (count : ℕ) (plan' order' left : List ℕ)
    : Type 0 where
  pub screens : ScreensAs S text lent count left
  pub idle : length lent < screen_room → (plan' ≡ plan) × (order' ≡ order)
  pub reads : screen_room ≤ length lent → plan' ≡ (reading S text plan).left
  pub orders : screen_room ≤ length lent → order' ≡ order_after S (reading S text plan).answer plan' order
