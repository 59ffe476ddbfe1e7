-- The job of a line has its place.
use Rattle.std.proofs.Common.{◌≡◌, ℕ, Bool, true, false, ◌&&◌, ltb, List, get_or, set, refl, ap, lt-ltb}
use Rattle.model.specs.Board.{devices, board}
use Rattle.model.specs.Line.{job, operand, opens, is_take, is_give, is_line}
use Rattle.theory.proofs.Tests.{or_left}
use Rattle.theory.proofs.Line.{device_line, own_device, take_no_held, take_opens}
use Rattle.claims.specs.Claim.{claim_of}
use Rattle.claims.proofs.Claimed.{job_place}
use Rattle.rows.specs.Lasting.{row_joined}
use Rattle.rows.specs.Holds.{JoinedOn}
use Rattle.rows.proofs.join_line.Goals as goal

pub bounds-claimed-j : goal.bounds-claimed-j
bounds-claimed-j c = rw c.job-j.ensures (job_place board c.args.l c.requires.on_board)

pub bounds-claimed-j-2 : goal.bounds-claimed-j-2
bounds-claimed-j-2 c = rw c.job-j.ensures (job_place board c.args.l c.requires.on_board)

-- the board has the device of a take
on_board_lem : (l : ℕ) (lasts : Bool) → is_line board l ≡ true → (lasts ≡ true → is_take l ≡ true)
    → (lasts && ltb (operand l) devices) ≡ lasts
on_board_lem l true line take =
    let t = take refl in
    lt-ltb (operand l) devices
    (rw (own_device l (take_no_held l t)) at
    (device_line board l line (or_left (opens l) (is_give l) (take_opens l t))))
on_board_lem l false line take = refl

joined_on : {l j s : ℕ} {lasts : Bool} {rs claimed rs' : List ℕ} → is_line board l ≡ true
    → (lasts ≡ true → is_take l ≡ true) → j ≡ job l → s ≡ claim_of l (get_or claimed j 0) claimed
    → rs' ≡ row_joined l (lasts && ltb (operand l) devices) (get_or claimed j 0) rs
    → JoinedOn l lasts rs claimed s rs' (set claimed j s)
joined_on {l} {j} {s} {lasts} {rs} {claimed} line take e es er =
    let b = on_board_lem l lasts line take in
    record { set_is = cc; rows_are = cc; claimed_is = ap (λ (k : ℕ). set claimed k s) e }

pub returns : goal.returns
returns c =
    joined_on c.requires.on_board c.requires.takes c.job-j.ensures c.claim-s.ensures c.join_row.ensures
