-- What a check's answer says of the fault that it was proved to tell, and what a `?` passes up: for the rooms that
-- call a check.
use Rattle.std.proofs.Common.{◌≡◌, Result, Ok, Err, refl, ◌∙◌, ap}
use Rattle.std.specs.Result.{IsErrAnd}
use Rattle.std.proofs.lemmas.Result.{err_from_is_err_and}
use mathlib.Core.Option.{Option, none, some}
use Rattle.model.specs.declared.Refusal.{Refusal}
use Rattle.plan.specs.Checked.{checked}

pub told : (o : Option Refusal) (r : Refusal) → Err r ≡ checked o → o ≡ some r
told none r e = cc
told (some q) r e = cc

pub untold : (o : Option Refusal) → Ok tt ≡ checked o → o ≡ none
untold none e = refl
untold (some q) e = cc

-- a `?` passes a refusal up as it is
pub passed_up : {T : Type 0} (answer : Result T Refusal) (r : Refusal) → IsErrAnd answer (λ e. e ≡ r) → answer ≡ Err r
passed_up answer r h = let p = err_from_is_err_and answer h in p.1 ∙ ap Err p.2
