-- What is known of a move that has passed its tests: its take, and how far what that takes is held.
use Rattle.std.specs.Prelude.{◌≡◌, ℕ, List}
use Rattle.mates.specs.Span.{span_of}
use Rattle.moving.specs.Tested.{Take}
use Rattle.moving.specs.declared.Move.{Move}

pub record IsMoveOf (p : List ℕ) (m : Move) : Type 0 where
  pub take : Take p m.at m.device
  pub spans : m.span ≡ span_of p m.at
