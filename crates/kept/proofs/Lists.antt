-- A list that is written into the front of a lent one, entry by entry, in a loop that counts up; and the new rows, a
-- list of this kind.
use Rattle.std.proofs.Common.{◌≡◌, ℕ, suc, ◌+◌, ◌<◌, ◌≤◌, Bool, cond, List, ◌++◌, sym, ◌∙◌, add-one, arith}
use Rattle.std.proofs.Common.{length, get_or, take, drop, set, length-set, length-take-le, take_all, take-suc}
use Rattle.std.proofs.Common.{drop-cons}
use Rattle.std.proofs.Math.Seq.{append_snoc, set_at, get_or_at}
use Rattle.model.specs.Board.{devices}
use Rattle.model.specs.Lists.{over}
use Rattle.model.specs.Sets.{member}
use Rattle.rows.proofs.Entries.{entry_of, length_entries}
use Rattle.kept.specs.Keeping.{row_over, new_rows}

-- it is written as far as place d; from there on the lent entries stand
pub record PutTo (new lent out : List ℕ) (d : ℕ) : Type 0 where
  pub within : d ≤ length new
  pub long : length out ≡ length lent
  pub is : out ≡ take d new ++ drop d lent

module _ {new lent out : List ℕ} {d : ℕ} (m : PutTo new lent out d) where
  module _ (in_new : d < length new) (in_lent : d < length lent) where
    -- where the next entry goes the lent one still stands
    pub still_lent : get_or out d 0 ≡ get_or lent d 0
    still_lent =
        rw (m.is, drop-cons lent d 0)
        (get_or_at (take d new) (get_or lent d 0) (drop (suc d) lent) 0 d (length-take-le d new m.within))

    -- one entry more
    pub one_put : {v : ℕ} → v ≡ get_or new d 0 → PutTo new lent (set out d v) (d + 1)
    one_put {v} e = record {
      within = omega arith;
      long = length-set out d v ∙ m.long;
      is = rw (m.is, add-one d, drop-cons lent d 0, take-suc new d 0, e)
          (set_at (take d new) (get_or lent d 0) (drop (suc d) lent) (get_or new d 0) d
          (length-take-le d new m.within)
          ∙ sym (append_snoc (take d new) (get_or new d 0) (drop (suc d) lent)));
    }

  -- all of it
  pub all_put : length new ≤ d → out ≡ over new lent
  unfolding over
  all_put h = let e : d ≡ length new = omega (arith, m.within) in m.is ∙ rw (take_all d new h, e)

-- ---- the new rows: one for each device

module _ (these : ℕ) (made lent : List ℕ) where
  pub all_new : length (new_rows these made lent) ≡ devices
  all_new = length_entries (row_over these made lent) 0 0 devices

  pub new_row : (d : ℕ) → d < devices → get_or (new_rows these made lent) d 0 ≡ row_over these made lent d
  new_row d h = entry_of (row_over these made lent) 0 devices d h

-- what the code puts is the new row
pub put_on : (these : ℕ) (made lent : List ℕ) {out : List ℕ} {d r : ℕ} {b : Bool} → devices ≤ length lent
    → PutTo (new_rows these made lent) lent out d → d < devices → b ≡ member these d
    → r ≡ cond b (get_or made d 0) (get_or out d 0) → PutTo (new_rows these made lent) lent (set out d r) (d + 1)
unfolding row_over
put_on these made lent {out} {d} room m h e q =
    let in_new : d < length (new_rows these made lent) = omega (arith, all_new these made lent) in
    let in_lent : d < length lent = omega arith in
    one_put m in_new in_lent (q ∙ rw (e, still_lent m in_new in_lent) (sym (new_row these made lent d h)))
