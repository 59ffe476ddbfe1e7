-- `lines::list_verb` meets its contract: one entry of each list.
use Rattle.std.proofs.Common.{take_all, arith}
use Rattle.lines.specs.Verbs.{highest_of}
use Rattle.lines.proofs.list_verb.Goals as goal

pub returns-clause-bytes : goal.returns-clause-bytes
unfolding highest_of
returns-clause-bytes c =
    rw (c.few_bytes.ensures, take_all 8 c.args.word.now (omega arith))
