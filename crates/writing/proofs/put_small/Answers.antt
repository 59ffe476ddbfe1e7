-- `writing::put_small` meets its contract: as many digits as the number has.
use Rattle.std.proofs.Common.{arith, length-set}
use Rattle.writing.proofs.Making.{digits_asked, put_three}
use Rattle.writing.proofs.put_small.Goals as goal

pub bounds-made-at : goal.bounds-made-at
bounds-made-at c = omega (arith, digits_asked c.args.n c.requires.0)

pub bounds-made-a : goal.bounds-made-a
bounds-made-a c = simp length-set (omega (arith, digits_asked c.args.n c.requires.0))

pub bounds-made-b : goal.bounds-made-b
bounds-made-b c = simp length-set (omega (arith, digits_asked c.args.n c.requires.0))

pub returns : goal.returns
returns c =
    rw (c.from.ensures, c.from-2.ensures) (put_three c.args.n c.args.at c.args.made.now c.requires.0 c.requires.1)
