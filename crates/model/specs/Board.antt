-- 01, "The plan as text": the board in force has 32 devices. No other definition says this number. And what the readers
-- on this board go by: at midday or in the morning (02, request 5). `board` is the morning's.
use Rattle.std.specs.Prelude.{ℕ, Bool, false}
use Rattle.model.specs.Line.{Settings}

abbrev pub devices : ℕ
devices = 32

abbrev pub board_at : Bool → Settings
board_at midday = record { devices = devices; midday = midday }

abbrev pub board : Settings
board = board_at false
