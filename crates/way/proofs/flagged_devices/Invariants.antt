-- What is found, with what the lines that are left add, is the whole.
use Rattle.std.specs.Prelude.{◌≡◌}
use Rattle.model.specs.Sets.{empty}
use Rattle.way.specs.Back.{way_by}
use Rattle.way.specs.Flagged.{flagged_by}
use Rattle.way.specs.Way.{lines_left}
use Rattle.way.proofs.Walks.{Within}
use Rattle.way.proofs.flagged_devices.Given as goal

abbrev pub invariant-loop-k : goal.invariant-loop-k
invariant-loop-k l = record {
  within : Within l.plan l.sets (lines_left l.k-iterator);
  left : flagged_by l.plan l.flags (way_by l.plan l.sets l.starter l.i) empty
      ≡ flagged_by l.plan l.flags (lines_left l.k-iterator) l.found;
}
