-- `lines::joined` meets its contract: of a digit's byte, the last four bits are its value.
use Rattle.std.proofs.Common.{◌∙◌}
use Rattle.model.specs.Text.{is_digit}
use Rattle.lines.proofs.Fields.{joined_bits}
use Rattle.lines.proofs.joined.Goals as goal

pub returns : goal.returns
unfolding is_digit
returns c =
    c.choose.ensures ∙ rw (c.is_ascii_digit.ensures.value, c.from.ensures) (joined_bits c.args.v c.args.b)
