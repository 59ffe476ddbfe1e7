-- Which lines of an edited plan take again what their job holds, or give such a take back, worked out line by line from
-- those of the plan (02, request 2): a move carries these marks along instead of asking the stacks again. Only the
-- lines under the moved take need work, and of them only those that name the device that it had or the one that it
-- gets. No held line stands there (02, request 5): before one in its job are held lines alone.
use Rattle.std.specs.Prelude.{ℕ, suc, ◌-◌, Bool, true, cond, ◌&&◌, ◌||◌, eqb, leb}
use Rattle.model.specs.Line.{operand, is_take, is_give}

-- the line takes or gives device d
unfoldable pub names : ℕ → ℕ → Bool
unfolding is_take is_give operand
names l d = (is_take l || is_give l) && eqb (operand l) d

-- A line under the moved take, after the edit. Takes and gives of the new device e are within the moved take. Those of
-- the old one are counted, where the moved take was the outermost of it and leaves it (`fresh`), by the takes of it
-- that are open under the moved one. All else is marked as it was.
unfoldable pub again_after : ℕ → Bool → ℕ → ℕ → Bool → ℕ → Bool
unfolding names is_take
again_after l was old e fresh deep =
    cond (names l e) true (cond (fresh && names l old) (cond (is_take l) (leb 1 deep) (leb 2 deep)) was)

-- how many takes of the old device are open under the moved one after the line
unfoldable pub open_after : ℕ → ℕ → Bool → ℕ → ℕ
unfolding names is_take
open_after l old fresh deep = cond (fresh && names l old) (cond (is_take l) (suc deep) (deep - 1)) deep
