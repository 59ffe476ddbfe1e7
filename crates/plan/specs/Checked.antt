-- A definition's option as the code's answer, for a fault that a plan may have.
use Rattle.std.specs.Prelude.{Result, Ok, Err}
use Rattle.std.proofs.Math.Option.{Option, none, some}
use Rattle.model.specs.declared.Refusal.{Refusal}

abbrev pub checked : Option Refusal → Result (Unit {0}) Refusal
checked none = Ok tt
checked (some r) = Err r
