-- `plan::Standing::misheld` meets its contract: the tests pick the case of `held_fault`.
use Rattle.std.proofs.Common.{◌≡◌, ℕ, ◌+◌, Bool, true, false, List, sym, ap, ◌∙◌, add-one}
use mathlib.Core.Option.{none, some}
use Rattle.model.specs.Answers.{first_refusal, refuse_if}
use Rattle.model.specs.Line.{is_held, line_number}
use Rattle.model.specs.Sets.{member}
use Rattle.model.specs.declared.Refusal.TheVariants.{HeldTwice, HeldLate}
use Rattle.line.specs.Device.{device_bits}
use Rattle.plan.specs.Checked.{checked}
use Rattle.plan.specs.Walk.{late_by, held_fault}
use Rattle.plan.proofs.Standing.misheld.Goals as goal

module _ (n i prev named : ℕ) (early : Bool) (starter : List ℕ) where
  unheld : is_held n ≡ false → held_fault n i prev named early starter ≡ none
  unfolding held_fault
  unheld u = rw u

  module _ (h : is_held n ≡ true) where
    twice : member named (device_bits n) ≡ true → held_fault n i prev named early starter ≡ some (HeldTwice (i + 1))
    unfolding held_fault first_refusal refuse_if line_number
    twice m = rw (h, m, add-one)

    module _ (m : member named (device_bits n) ≡ false) where
      late : late_by n prev early starter ≡ true → held_fault n i prev named early starter ≡ some (HeldLate (i + 1))
      unfolding held_fault first_refusal refuse_if line_number
      late e = rw (h, m, e, add-one)

      in_time : late_by n prev early starter ≡ false → held_fault n i prev named early starter ≡ none
      unfolding held_fault first_refusal refuse_if
      in_time e = rw (h, m, e)

-- 16
pub returns-then-member : goal.returns-then-member
returns-then-member c =
    let u = c.args.self.now in
    ap checked (sym (twice c.args.n u.lines u.job u.named u.early c.args.starter.now
    (sym c.is_held.ensures ∙ c.if-is_held.true) (rw c.device.ensures at (sym c.member.ensures ∙ c.if-member.true))))

-- 17
pub returns-then-j-self : goal.returns-then-j-self
returns-then-j-self c =
    let u = c.args.self.now in
    ap checked (sym (late c.args.n u.lines u.job u.named u.early c.args.starter.now
    (sym c.is_held.ensures ∙ c.if-is_held.true) (rw c.device.ensures at (sym c.member.ensures ∙ c.if-member.false))
    (rw c.job-j.ensures at c.if-j-self.true)))

-- neither
pub returns-else-j-self : goal.returns-else-j-self
returns-else-j-self c =
    let u = c.args.self.now in
    ap checked (sym (in_time c.args.n u.lines u.job u.named u.early c.args.starter.now
    (sym c.is_held.ensures ∙ c.if-is_held.true) (rw c.device.ensures at (sym c.member.ensures ∙ c.if-member.false))
    (rw c.job-j.ensures at c.if-j-self.false)))

-- not held
pub returns-else-is_held : goal.returns-else-is_held
returns-else-is_held c =
    let u = c.args.self.now in
    ap checked (sym (unheld c.args.n u.lines u.job u.named u.early c.args.starter.now
    (sym c.is_held.ensures ∙ c.if-is_held.false)))
