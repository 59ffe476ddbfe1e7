-- `screen::put_order`: behind the first line stand the numbers so far.
use Rattle.screen.proofs.Shown.{Listed}
use Rattle.screen.proofs.put_order.Given as goal

abbrev pub invariant-loop-line : goal.invariant-loop-line
invariant-loop-line l = Listed l.order l.line-index l.initial.at l.initial.out l.at l.out
