-- `lines::VerbTable::verb_at` meets its contract: what is compared is whether the verb that the first letter tells
-- stands there.
use Rattle.std.proofs.Common.{arith, get_or, ◌<◌, ◌%◌, ℕ}
use Rattle.model.specs.Text.{verbs}
use Rattle.lines.specs.Verbs.{letter_kind}
use Rattle.lines.proofs.Verbs.{verb_none, Tells, no_entry, entry_at, tells_long, tells_below, other, found, lost}
use Rattle.lines.proofs.VerbTable.verb_at.Goals as goal
use Rattle.lines.proofs.VerbTable.verb_at.Goals.{After-from}

-- the text ends first
pub returns-in_err-first : goal.returns-in_err-first
returns-in_err-first c = rw c.from_residual.ensures (verb_none _ _ c.in_err-first.ensures.lookup.3)

bytes : (c : After-from) (k : ℕ) → get_or c.args.text.now k 0 < 256
bytes c k = omega (arith, c.type_inv.text k)

-- what is listed of the first letter
told : (c : After-from)
    → Tells (get_or c.args.self.now.by_first (c.from.result % 32) no_entry)
    (letter_kind (get_or c.args.text.now c.args.at 0 % 32))
told c =
    rw (c.args.self.now.first, c.from.ensures, c.in_ok-first.ensures.lookup.3.1 0) (entry_at no_entry _ (omega arith))

-- no verb begins with it
pub returns-then-length-eq0 : goal.returns-then-length-eq0
returns-then-length-eq0 c =
    let m = (goal.at.returns-then-length-eq0 c).After-from in
    other _ (bytes m) _ c.in_ok-first.ensures.lookup.3.0 (told m) (rw c.from-length.ensures at c.if-length-eq0.true)

pub overflow_mul-length : goal.overflow_mul-length
overflow_mul-length c =
    omega (arith, c.from-length.ensures, tells_long (told (goal.at.overflow_mul-length c).After-from))

pub overflow_sub-length : goal.overflow_sub-length
overflow_sub-length c =
    omega (arith, c.from-length.ensures, tells_long (told (goal.at.overflow_sub-length c).After-from))

pub offset_bounds-self-from-2 : goal.offset_bounds-self-from-2
unfolding verbs
offset_bounds-self-from-2 c =
    omega (arith, c.from-2.ensures, tells_below (told (goal.at.offset_bounds-self-from-2 c).After-from))

pub bounds-self-from-2 : goal.bounds-self-from-2
unfolding verbs
bounds-self-from-2 c = rw c.from-2.ensures (tells_below (told (goal.at.bounds-self-from-2 c).After-from))

pub overflow_add-result : goal.overflow_add-result
overflow_add-result c =
    omega (
      arith,
      c.in_ok-first.ensures.lookup.3.0,
      c.from-length.ensures,
      tells_long (told (goal.at.overflow_add-result c).After-from),
    )

-- the verb does not stand there
pub returns-then-eight_bytes-length : goal.returns-then-eight_bytes-length
returns-then-eight_bytes-length c =
    let m = (goal.at.returns-then-eight_bytes-length c).After-from in
    lost _ (bytes m) _ c.in_ok-first.ensures.lookup.3.0 (told m)
    (rw (c.eight_bytes.ensures, c.from-length.ensures, c.from-2.ensures, c.args.self.now.bytes)
    at c.if-eight_bytes-length.true)

-- it does
pub returns : goal.returns
returns c =
    let m = (goal.at.returns c).After-from in
    rw (c.from-3.ensures, c.from-length.ensures)
    (found _ (bytes m) _ c.in_ok-first.ensures.lookup.3.0 (told m) (rw c.from-length.ensures at c.if-length-eq0.false)
    (rw (c.eight_bytes.ensures, c.from-length.ensures, c.from-2.ensures, c.args.self.now.bytes)
    at c.if-eight_bytes-length.false))
