-- `order::run` stays within its arrays, and what it hands to be written is what is printed for the bytes that it read.
use Rattle.std.proofs.Common.{◌≡◌, ◌≤◌, ℕ, List, length, sym, arith}
use Rattle.std.proofs.lemmas.List.{length-take-le}
use Rattle.model.specs.Board.{board}
use Rattle.model.specs.Printed.{screen_room}
use Rattle.promises.specs.Screen.{ScreensAs}
use Rattle.promises.proofs.Screen.{never_more}
use Rattle.promises.proofs.Printing.{front_printed}
use Rattle.order.proofs.run.Goals as goal

-- with room for the screens, the bytes printed fit into the output, which stays as long as it was
fits : (text lent : List ℕ) (n : ℕ) (left : List ℕ) → ScreensAs board text lent n left → length lent ≡ screen_room
    → length left ≡ length lent → n ≤ length left
fits text lent n left s room kept = omega (arith, never_more board text lent n left s (omega arith))

pub slice_bounds-out-end : goal.slice_bounds-out-end
slice_bounds-out-end g c =
    let p = c.print-m in fits _ _ p.result p.new.out p.ensures.screens (omega arith) p.auto.out

pub slice_bounds-write_printed-end : goal.slice_bounds-write_printed-end
slice_bounds-write_printed-end g c =
    let p = c.print-m in
    sym (length-take-le _ _ (fits _ _ p.result p.new.out p.ensures.screens (omega arith) p.auto.out))

pub write_printed-requires : goal.write_printed-requires
write_printed-requires g c =
    let p = c.print-m in front_printed board _ _ p.result p.new.out p.ensures.screens (omega arith)
