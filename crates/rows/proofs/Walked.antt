-- The walk back over a plan without a fault (01, "Claims and rows"): where it stands the two sets, the rows, the flags
-- and the table are those of the lines from there on.
use Rattle.std.proofs.Common.{◌≡◌, ℕ, suc, ◌<◌, ◌≤◌, Bool, true, false, cond, List, length, set, replicate, sym, refl}
use Rattle.std.proofs.Common.{◌∙◌, arith, length-set}
use mathlib.Core.Option.{none}
use lib.ListN.{length-replicate, get_or-replicate}
use mir.Val.{bool_byte}
use Rattle.model.specs.Board.{devices, board}
use Rattle.model.specs.Line.{is_take, is_line, at, max_lines}
use Rattle.model.specs.Mate.{lasting_at}
use Rattle.model.specs.WellFormed.{fault}
use Rattle.theory.specs.Outer.{again_at, plain_at}
use Rattle.theory.proofs.Claims.{outermost}
use Rattle.theory.proofs.Outer.{plain_line, plain_take}
use Rattle.theory.proofs.Line.{take_line}
use Rattle.theory.proofs.WellFormed.{no_fault_exactly, no_held_in_morning}
use Rattle.claims.specs.Claim.{operands, table_in}
use Rattle.claims.proofs.Written.{EndOf, end_on, end_whole, none_written, one_written}
use Rattle.rows.specs.declared.Passed.{Passed}
use Rattle.rows.specs.Lasting.{lasting_flag, lasting_flags}
use Rattle.rows.specs.Holds.{PassedOn, JoinedOn, WalkedAs}
use Rattle.rows.proofs.Entries.{length_entries}
use Rattle.rows.proofs.Wanted.{flag_at}
use Rattle.rows.proofs.Counted.{Counted, Knows, none_passed, none_counted, none_known, lasts_made, known_on, counted_on}
use Rattle.rows.proofs.Counted.{lasting_takes_lem, all_counted}
use Rattle.rows.proofs.RowsFrom.{RowsFrom, none_from, set_made, from_on, all_from}

pub record Walked (p lent rs flags table claimed : List ℕ) (passed : Passed) (i : ℕ) : Type 0 where
  pub counted : Counted p passed i
  pub known : Knows p passed i
  pub rows_from : RowsFrom p rs claimed i
  pub flagged : EndOf (lasting_flags p) flags i
  pub written : EndOf (table_in p lent) table i
  pub same : length table ≡ length lent

-- ---- the flags

pub length_flags : (p : List ℕ) → length (lasting_flags p) ≡ max_lines
unfolding lasting_flags
length_flags p = length_entries (lasting_flag p) 0 0 max_lines

pub none_flagged : (p : List ℕ) → EndOf (lasting_flags p) (replicate max_lines 0) (length p)
unfolding lasting_flag
none_flagged p = record {
  long = length-replicate {A = ℕ} max_lines 0 ∙ sym (length_flags p);
  is = λ k h b.
      let on_board_lem : k < max_lines = omega (arith, length_flags p) in
      get_or-replicate {A = ℕ} max_lines k 0 0 on_board_lem
      ∙ sym (flag_at p (lasting_flags p) k refl on_board_lem ∙ rw (none_past k h));
}
  where
    none_past : (k : ℕ) → length p ≤ k → lasting_at p k ≡ false
    none_past k h = go (lasting_at p k) refl
      where
        go : (b : Bool) → lasting_at p k ≡ b → b ≡ false
        go false e = refl
        go true e = absurd (omega (arith, take_line p k (outermost p k (lasting_takes_lem p k e)).0))

pub one_flagged : (p flags : List ℕ) (k : ℕ) (b : Bool) → b ≡ lasting_at p k → EndOf (lasting_flags p) flags (suc k)
    → EndOf (lasting_flags p) (set flags k (bool_byte b)) k
unfolding lasting_flag
one_flagged p flags k b e m =
    end_on (lasting_flags p) flags k (bool_byte b)
    (λ h. byte b ∙ rw e (sym (flag_at p (lasting_flags p) k refl (omega (arith, length_flags p))))) m
  where
    byte : (b : Bool) → bool_byte b ≡ cond b 1 0
    byte true = refl
    byte false = refl

-- ---- the walk

pub none_walked : (p lent : List ℕ)
    → Walked p lent (replicate devices 0) (replicate max_lines 0) lent (replicate operands 0)
    none_passed (length p)
none_walked p lent = record {
  counted = none_counted p;
  known = none_known p;
  rows_from = none_from p;
  flagged = none_flagged p;
  written = none_written p lent;
  same = refl;
}

-- one line further back
module _ {p lent rs flags table claimed : List ℕ} {old new : Passed} {k : ℕ} (fine : fault board p ≡ none)
    (m : Walked p lent rs flags table claimed old (suc k)) (n : PassedOn new old (at p k) (plain_at p k)) where
  few : length p ≤ max_lines
  few = ((no_fault_exactly board p).0 fine).few

  is_line_lem : is_line board (at p k) ≡ true
  is_line_lem = ((no_fault_exactly board p).0 fine).lines k m.counted.in_plan

  pub counts_line : is_line board (plain_at p k) ≡ true
  counts_line = plain_line (again_at p k) (at p k) board is_line_lem

  lasts_here : new.lasts ≡ lasting_at p k
  lasts_here = lasts_made p few old new k m.counted m.known n

  pub is_take_lem : new.lasts ≡ true → is_take (plain_at p k) ≡ true
  is_take_lem e = plain_take p k ∙ lasting_takes_lem p k (sym lasts_here ∙ e)

  pub one_walked : {rs' claimed' : List ℕ} {s : ℕ} → JoinedOn (plain_at p k) new.lasts rs claimed s rs' claimed'
      → Walked p lent rs' (set flags k (bool_byte new.lasts)) (set table k s) claimed' new k
  one_walked {rs'} {claimed'} {s} j =
      let i = rw lasts_here at j in
      let h = m.counted.in_plan in record {
        counted = counted_on p few old new k m.counted m.known n;
        known = known_on p few old new k m.counted m.known n;
        rows_from = from_on p rs claimed k m.rows_from h is_line_lem rs' claimed' s i;
        flagged = one_flagged p flags k new.lasts lasts_here m.flagged;
        written = one_written p lent table k s h (set_made p rs claimed k m.rows_from h is_line_lem rs' claimed' s i)
            m.written;
        same = length-set table k s ∙ m.same;
      }

-- at the front all is the plan's
pub all_walked : {p lent rs flags table claimed : List ℕ} {passed : Passed}
    → fault board p ≡ none → Walked p lent rs flags table claimed passed 0
    → WalkedAs p lent passed.holds rs flags table
all_walked {p} {lent} {rs} {flags} {table} {claimed} {passed} fine m = record {
  held = all_counted p (no_held_in_morning devices p ((no_fault_exactly board p).0 fine)) passed m.counted;
  rows_are = all_from p rs claimed m.rows_from;
  flags_are = end_whole (lasting_flags p) flags m.flagged;
  table_is = end_whole (table_in p lent) table m.written;
}
