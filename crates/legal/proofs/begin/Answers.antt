-- `legal::begin` meets its contract: with nothing done the jobs stand as the notes tell, and at midday the held lines
-- are done then.
use Rattle.std.proofs.Common.{◌∙◌}
use Rattle.legal.proofs.Begins.{runs_first, morning_begins}
use Rattle.legal.proofs.begin.Goals as goal

pub do_held-requires : goal.do_held-requires
do_held-requires c = record {
  tabled = rw c.if-midday.true at c.requires.tabled;
  standing = runs_first c.requires.tabled c.run.ensures.next;
  held = rw c.run.ensures.held c.requires.held;
}

-- in the morning
pub returns-else-midday : goal.returns-else-midday
returns-else-midday c =
    let r = morning_begins (rw c.if-midday.false at c.requires.tabled.sound)
    (runs_first c.requires.tabled c.run.ensures.next) (c.run.ensures.held ∙ c.requires.held) in
    record { begins = r.0; counted = r.1 }
