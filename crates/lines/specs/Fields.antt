-- 01, "The plan as text" (numbers): what the code answers as it joins an operand's digits from left to right.
use Rattle.std.specs.Prelude.{ℕ, ◌+◌, ◌-◌, ◌*◌, cond}
use Rattle.model.specs.Text.{is_digit}

-- the value v with one digit more; over 255 if the byte is none
unfoldable pub joined_by : ℕ → ℕ → ℕ
unfolding is_digit
joined_by v b = cond (is_digit b) (v * 10 + (b - 48)) 256
