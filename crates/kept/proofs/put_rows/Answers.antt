use Rattle.std.proofs.Common.{arith}
use Rattle.kept.specs.Keeping.{rows_over}
use Rattle.kept.proofs.Lists.{put_on, all_put, all_new}
use Rattle.kept.proofs.put_rows.Goals as goal

pub loop-d-preserved : goal.loop-d-preserved
loop-d-preserved c =
    put_on c.args.these c.args.made.now c.args.rows.now c.requires c.loop-d.invariant (omega arith) c.member.ensures
    c.choose.ensures

pub returns : goal.returns
unfolding rows_over
returns c =
    all_put c.loop-d.invariant
    (omega (arith, all_new c.args.these c.args.made.now c.args.rows.now))
