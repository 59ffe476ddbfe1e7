-- `screen::print` meets its contract: too little room; an order; or why there is none.
use Rattle.screen.proofs.Shown.{shown}
use Rattle.screen.proofs.Screened.{prints_none, prints}
use Rattle.screen.proofs.print.Goals as goal

pub returns-then-out-lt-ROOM : goal.returns-then-out-lt-ROOM
returns-then-out-lt-ROOM c = prints_none c.if-out-lt-ROOM.true

pub returns-in-Ok : goal.returns-in-Ok
returns-in-Ok c = prints c.in-Ok.ensures c.if-out-lt-ROOM.false c.put_order.ensures

pub returns-in-Err : goal.returns-in-Err
returns-in-Err c = prints c.in-Err.ensures c.if-out-lt-ROOM.false (shown c.put_refusal.ensures)
