-- `writing::put_verb` meets its contract: the five bytes that are listed, of which the verb is the front.
use Rattle.std.proofs.Common.{◌+◌, ap}
use Rattle.writing.proofs.Verbs.{row_of}
use Rattle.writing.proofs.put_verb.Goals as goal

pub returns : goal.returns
returns c =
    let row = row_of c.args.k c.requires.0 in
    record { answers = ap (λ n. c.args.at + n) row.count; leaves = rw row.five at c.put_word.ensures.leaves }
