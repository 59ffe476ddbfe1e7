-- `line::fits_kind` meets its contract: the tests are those of the kind.
use mathlib.Core.Path.{◌∙◌}
use Prim.Native.Nat.{◌%◌}
use native.Mathlib.Omega.{arith}
use Rattle.model.specs.Line.{max_job}
use Rattle.line.proofs.Ranges.{within, fits_kind}
use Rattle.line.proofs.fits_kind.Goals as goal

pub returns : goal.returns
returns c =
    let a = c.args in
    let job = c.new.ensures in
    let kind = c.operands.ensures in
    rw (
      c.contains.ensures.value ∙ within _ 1 max_job a.j job.start job.end job.exhausted,
      c.contains-2.ensures.value ∙ within _ _ _ a.o kind.low kind.high kind.whole,
    )
    (fits_kind a.j (a.k % 4) a.o (omega arith))
