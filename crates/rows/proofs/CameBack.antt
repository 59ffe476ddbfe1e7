-- A walk along the rows (02, request 3): all that it passed lead to where it is, so that a device that comes again
-- leads back. Over any number of devices.
use Rattle.std.proofs.Common.{◌≡◌, ℕ, ◌^◌, ◌<◌, true, false, not, ◌⊎◌, List, length, sym, refl, ◌∙◌, inl, inr, arith}
use Rattle.std.proofs.Common.{eq-eqb}
use Rattle.model.specs.Sets.{member, lowest_of}
use Rattle.model.specs.Rows.{Leads, once}
use Rattle.theory.proofs.Tests.{clash, test, and_split, falsely}
use Rattle.theory.proofs.Sets.{member_past}
use Rattle.sets.specs.Only.{only_of}
use Rattle.sets.specs.Both.{both, without}
use Rattle.sets.proofs.Members.{Lowest, found, nothing, lowest, member_without, member_only_of, without_below}
use Rattle.rows.specs.declared.search.Ended.{Ended}
use Rattle.rows.specs.Search.{row_at, WalkEnds}
use Rattle.rows.proofs.Smaller.{taken_out_less}
use Rattle.rows.proofs.Looked.{on_board_lem, no_other, some_device, in_both, both_in}
use Rattle.rows.proofs.Reaching.{leads_on}

module _ (rs : List ℕ) (left : ℕ) where
  -- a device that is left has none of those left in its row
  abbrev pub Stuck : Type 0
  Stuck = (d : ℕ) × (member left d ≡ true) × ((e : ℕ) → member (row_at rs d) e ≡ true → member left e ≡ false)

  -- On the way: where the walk is, and the devices that it has not passed.
  pub record Walking (at rest : ℕ) : Type 0 where
    pub left_below : left < 2 ^ length rs
    pub rest_below : rest < 2 ^ length rs
    pub lead : member left at ≡ true → (d : ℕ) → member left d ≡ true → member rest d ≡ false → Leads rs d at
    pub rest_in : (d : ℕ) → member rest d ≡ true → member left d ≡ true
    pub stuck : member left at ≡ false → Stuck

  pub walking_begins : left < 2 ^ length rs → 0 < left → Walking (lowest_of (length rs) left) left
  walking_begins below h = record {
    left_below = below;
    rest_below = below;
    lead = λ a d m k. clash (member left d) m k;
    rest_in = λ d m. m;
    stuck = λ q. go (lowest_of (length rs) left) (lowest (length rs) left) q;
  }
    where
      go : (m : ℕ) → Lowest (length rs) left m → member left m ≡ false → Stuck
      go m (found d l e low) q = clash (member left d) e q
      go m (nothing f) q =
          let r = some_device (length rs) left below h in
          clash (member left r.0) r.1 (f r.0 (on_board_lem (length rs) left r.0 below r.1))

  module _ (at rest : ℕ) (w : Walking at rest) (here : member rest at ≡ true) where
    abbrev rest_now : ℕ
    rest_now = without rest (only_of (length rs) at)

    -- what is passed now: the device here, or what was passed
    passed : (d : ℕ) → member left d ≡ true → member rest_now d ≡ false → (d ≡ at) ⊎ (member rest d ≡ false)
    passed d m k = go (test (member rest d)) (test (member (only_of (length rs) at) d))
      where
        go : (member rest d ≡ true) ⊎ (member rest d ≡ false)
            → (member (only_of (length rs) at) d ≡ true) ⊎ (member (only_of (length rs) at) d ≡ false)
            → (d ≡ at) ⊎ (member rest d ≡ false)
        go (inr q) o = inr q
        go (inl q) (inl o) = inl (no_other (length rs) at d o)
        go (inl q) (inr o) =
            clash (member rest_now d) (member_without rest (only_of (length rs) at) d ∙ rw (q, o)) k

    pub walking_on : Walking (lowest_of (length rs) (both (row_at rs at) left)) rest_now
    walking_on = record {
      left_below = w.left_below;
      rest_below = without_below (length rs) rest (only_of (length rs) at) w.rest_below;
      lead = λ a.
          leads
          (to (lowest_of (length rs) (both (row_at rs at) left)) (lowest (length rs) (both (row_at rs at) left)) a);
      rest_in = λ d m.
          w.rest_in d
          (and_split (member rest d) (not (member (only_of (length rs) at) d))
          (sym (member_without rest (only_of (length rs) at) d) ∙ m)).0;
      stuck = λ q.
          none (lowest_of (length rs) (both (row_at rs at) left)) (lowest (length rs) (both (row_at rs at) left)) q;
    }
      where
        -- the next one is in the row
        to : (m : ℕ) → Lowest (length rs) (both (row_at rs at) left) m → member left m ≡ true
            → member (row_at rs at) m ≡ true
        to m (found d l e low) a = (in_both (row_at rs at) left d e).0
        to m (nothing f) a =
            clash (member left (length rs)) a (member_past (length rs) left (length rs) w.left_below (omega arith))

        leads : {next : ℕ} → member (row_at rs at) next ≡ true → (d : ℕ) → member left d ≡ true
            → member rest_now d ≡ false → Leads rs d next
        leads {next} k d m n = go (passed d m n)
          where
            go : (d ≡ at) ⊎ (member rest d ≡ false) → Leads rs d next
            go (inl q) = let o : Leads rs at next = once at next k in rw q o
            go (inr q) = leads_on rs d at next (w.lead (w.rest_in at here) d m q) k

        none : (m : ℕ) → Lowest (length rs) (both (row_at rs at) left) m → member left m ≡ false → Stuck
        none m (found d l e low) q = clash (member left d) (in_both (row_at rs at) left d e).1 q
        none m (nothing f) q = (
          at,
          w.rest_in at here,
          λ e k. falsely (member left e) (λ a.
              clash (member (both (row_at rs at) left) e) (both_in (row_at rs at) left e k a)
              (f e (on_board_lem (length rs) left e w.left_below a))),
        )

    pub walking_less : rest_now < rest
    walking_less =
        taken_out_less (length rs) rest (only_of (length rs) at) at w.rest_below here
        (member_only_of (length rs) at at (on_board_lem (length rs) rest at w.rest_below here) ∙ eq-eqb at at refl)

  pub walking_ends : (r : Ended) → Walking r.at r.rest → member r.rest r.at ≡ false → WalkEnds rs left r
  walking_ends r w q = record { lead = w.lead; again = λ a. q; stuck = w.stuck }
