-- How many bytes were read: no more than there was room for. What a read brought is not said: what an outside function
-- does with the bytes is assumed, not shown.
use Rattle.std.specs.Prelude.{ℕ, ◌≤◌, List, Result, IfOk, length}

-- so many bytes stand in the front of the room
abbrev pub Within : {E : Type 0} → Result ℕ E → List ℕ → Type 0
Within r room = IfOk r (λ n. n ≤ length room)
