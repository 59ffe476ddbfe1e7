-- `shows::put_refusal` meets its contract: the refusal's values behind the place of the word, and then the word.
use Rattle.std.proofs.Common.{arith}
use Rattle.model.specs.Printed.{refused_word}
use Rattle.fields.proofs.Putting.{kept}
use Rattle.shows.proofs.Shown.{refusal_shown, no_room}
use Rattle.shows.proofs.put_refusal.Goals as goal

pub returns-then-out-past : goal.returns-then-out-past
unfolding refused_word
returns-then-out-past c =
    no_room c.args.r c.values.ensures c.put_values-past.ensures
    (omega (arith, c.if-out-past.true, kept c.put_values-past.ensures))

pub returns : goal.returns
unfolding refused_word
returns c =
    refusal_shown c.args.r c.values.ensures c.put_values-past.ensures
    (omega (arith, c.if-out-past.false, kept c.put_values-past.ensures)) c.put_word.ensures
