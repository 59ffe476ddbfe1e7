-- The take, and its mate where it has one.
use Rattle.std.proofs.Common.{◌≡◌, ℕ, List, sym, ◌∙◌}
use mathlib.Core.Option.{none, some}
use Rattle.model.specs.Mate.{mate}
use Rattle.model.specs.Move.{with_device, also_mate, edited}
use Rattle.moving.proofs.Answers.{span_given, span_kept}
use Rattle.moving.proofs.Move.edit.Goals as goal

module _ (p q : List ℕ) (i e : ℕ) (given : q ≡ with_device p e i) where
  with_mate : (m : ℕ) (r : List ℕ) → mate p i ≡ some m → r ≡ with_device q e m → r ≡ edited p i e
  unfolding edited also_mate
  with_mate m r h g = rw (h, ← given) g

  alone : mate p i ≡ none → q ≡ edited p i e
  unfolding edited also_mate
  alone h = rw h given

pub returns-in-Given : goal.returns-in-Given
returns-in-Given c =
    let a = c.args in
    with_mate a.plan.now _ a.self.at _ c.give_device.ensures _ _
    (span_given a.plan.now a.self.at _ (sym c.in-Given.is ∙ c.requires)) c.give_device-in-Given.ensures

pub returns-in_default : goal.returns-in_default
returns-in_default c =
    let a = c.args in
    alone a.plan.now _ a.self.at _ c.give_device.ensures
    (span_kept a.plan.now a.self.at _ (sym c.in_default.is ∙ c.requires))
