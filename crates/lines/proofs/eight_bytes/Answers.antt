-- `lines::eight_bytes` meets its contract: eight bytes of the text, or those that are left of it and noughts behind.
use Rattle.std.proofs.Common.{drop, ◌∙◌}
use Rattle.std.proofs.lemmas.List.{take_rest}
use Rattle.lines.proofs.Numbers.{eight_first, eight_read}
use Rattle.lines.proofs.eight_bytes.Goals as goal

pub returns-in-Some : goal.returns-in-Some
returns-in-Some c =
    c.from_le_bytes.ensures
    ∙ rw (c.in-Some.ensures.cases.same, take_rest c.args.text.now c.args.at)
    (eight_first (drop c.args.at c.args.text.now))

pub returns : goal.returns
returns c =
    c.from_le_bytes-2.ensures
    ∙ eight_read _ (drop c.args.at c.args.text.now)
    (rw (take_rest c.args.text.now c.args.at) at c.put_last.ensures)
