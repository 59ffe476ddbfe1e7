-- `lines::operand_at` meets its contract: what is picked is what `fields` finds.
use Rattle.std.proofs.Common.{◌∙◌, refl, sym, arith}
use Rattle.lines.proofs.Fields.{joined_small, front_small, byte_there, Picked, operand_picked, too_large, spelt}
use Rattle.lines.proofs.Fields.{unended}
use Rattle.lines.proofs.operand_at.Goals as goal
use Rattle.lines.proofs.operand_at.Goals.{After-choose-digits}

pub joined-two-requires : goal.joined-two-requires
joined-two-requires c = omega (arith, front_small _ c.joined-one.ensures c.choose.ensures)

pub joined-three-requires : goal.joined-three-requires
joined-three-requires c =
    omega (
      arith,
      front_small _ c.joined-one.ensures c.choose.ensures,
      c.joined-two.ensures,
      joined_small c.choose.result c.byte_at-b.result,
    )

-- what the code picked
picked : (c : After-choose-digits) → Picked c.args.text.now c.args.from c.choose-value.result c.choose-digits.result
picked c =
    operand_picked _ _ _ refl c.byte_at.ensures c.byte_at-b.ensures c.byte_at-c.ensures
    c.joined-one.ensures c.choose.ensures c.joined-two.ensures c.joined-three.ensures c.choose-2.ensures
    c.choose-value.ensures c.choose-3.ensures c.choose-digits.ensures

pub returns-then-value-gt-LAST_OPERAND : goal.returns-then-value-gt-LAST_OPERAND
returns-then-value-gt-LAST_OPERAND c =
    too_large _ _ (picked (goal.at.returns-then-value-gt-LAST_OPERAND c).After-choose-digits)
    c.if-value-gt-LAST_OPERAND.true

-- the line does not end behind its digits
pub returns-then-byte_at-ne-LINE_END : goal.returns-then-byte_at-ne-LINE_END
returns-then-byte_at-ne-LINE_END c =
    unended _ _ (picked (goal.at.returns-then-byte_at-ne-LINE_END c).After-choose-digits)
    c.if-value-gt-LAST_OPERAND.false
    (λ e. c.if-byte_at-ne-LINE_END.true
    (c.byte_at-2.ensures ∙ byte_there c.args.text.now _ c.args.from refl c.choose-digits.result ∙ e))

-- an operand
pub returns : goal.returns
returns c =
    spelt _ _ (picked (goal.at.returns c).After-choose-digits) c.if-value-gt-LAST_OPERAND.false
    (sym (byte_there c.args.text.now _ c.args.from refl c.choose-digits.result) ∙ sym c.byte_at-2.ensures
    ∙ c.if-byte_at-ne-LINE_END.false)
