-- `lines::few_bytes` meets its contract: all eight bytes are put.
use Rattle.std.proofs.Common.{◌∙◌}
use Rattle.lines.proofs.Numbers.{eight_read}
use Rattle.lines.proofs.few_bytes.Goals as goal

pub returns : goal.returns
returns c = c.from_le_bytes.ensures ∙ eight_read _ c.args.word.now c.put_few.ensures
