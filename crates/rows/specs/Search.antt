-- The circle search (01, "Claims and rows"; 02, request 3): what its parts find, for any rows and over any number of
-- devices. No contract of an entry speaks of it.
use Rattle.std.specs.Prelude.{◌≡◌, ℕ, ◌^◌, ◌<◌, Bool, true, false, cond, not, ◌⊎◌, List, map, length, ◌==◌, slice_index}
use Rattle.model.specs.Lists.{up_from}
use Rattle.model.specs.Sets.{empty, union_of, member, devices_where}
use Rattle.model.specs.Rows.{Leads}
use Rattle.sets.specs.Both.{both}
use Rattle.rows.specs.declared.search.Ended.{Ended}
use Rattle.rows.specs.declared.search.Search.{Search}

-- two sets have a device in common
unfoldable pub meet : ℕ → ℕ → Bool
unfolding both empty
meet s t = not (both s t == empty)

-- the row of a device
abbrev pub row_at : List ℕ → ℕ → ℕ
row_at rs d = slice_index rs d

-- the devices that stand in a row
unfoldable pub in_rows : List ℕ → ℕ
unfolding union_of up_from
in_rows rs = union_of (map (row_at rs) (up_from 0 (length rs)))

-- the row of a device of a set; of another, nothing
unfoldable pub row_in : List ℕ → ℕ → ℕ → ℕ
unfolding member empty
row_in rs s d = cond (member s d) (row_at rs d) empty

-- the devices of a set with a member of s in their row
unfoldable pub lead_into : List ℕ → ℕ → ℕ → ℕ
unfolding devices_where meet row_in
lead_into rs within s = devices_where (length rs) (λ d. meet (row_in rs within d) s)

-- Devices each of which has one of them in its row and stands in a row of one of them.
pub record Linked (rs : List ℕ) (these : ℕ → Bool) : Type 0 where
  pub leads : (d : ℕ) → these d ≡ true → (e : ℕ) × (member (row_at rs d) e ≡ true) × (these e ≡ true)
  pub led : (d : ℕ) → these d ≡ true → (e : ℕ) × (member (row_at rs e) d ≡ true) × (these e ≡ true)

-- What stays of a set when the others are taken away: linked devices, and all linked devices of the set.
pub record Trimmed (rs : List ℕ) (left r : ℕ) : Type 0 where
  pub below : r < 2 ^ length rs
  pub in_left : (d : ℕ) → member r d ≡ true → member left d ≡ true
  pub linked : Linked rs (member r)
  pub keeps : (these : ℕ → Bool) → Linked rs these → ((d : ℕ) → these d ≡ true → member left d ≡ true)
      → (d : ℕ) → these d ≡ true → member r d ≡ true

-- Where a walk ended: at a device that is left, which it passed before, and to which all that it passed lead; or at no
-- such device, because one that is left has none of those left in its row.
pub record WalkEnds (rs : List ℕ) (left : ℕ) (w : Ended) : Type 0 where
  pub lead : member left w.at ≡ true → (d : ℕ) → member left d ≡ true → member w.rest d ≡ false
      → Leads rs d w.at
  pub again : member left w.at ≡ true → member w.rest w.at ≡ false
  pub stuck : member left w.at ≡ false
      → (d : ℕ) × (member left d ≡ true) × ((e : ℕ) → member (row_at rs d) e ≡ true → member left e ≡ false)

-- A device, and others of a set that it leads to; if none of them is in `stop`, all that it leads to by way of the set.
pub record Reached (rs : List ℕ) (within stop from r : ℕ) : Type 0 where
  pub below : r < 2 ^ length rs
  pub self : member r from ≡ true
  pub led : (e : ℕ) → member r e ≡ true → (e ≡ from) ⊎ (Leads rs from e × (member within e ≡ true))
  pub closed : ((e : ℕ) → member r e ≡ true → member stop e ≡ false) → (d e : ℕ) → member r d ≡ true
      → member (row_at rs d) e ≡ true → member within e ≡ true → member r e ≡ true

-- These devices, and others that lead to them; all of a set that do so by way of it.
pub record LeadTo (rs : List ℕ) (within these r : ℕ) : Type 0 where
  pub selves : (d : ℕ) → member these d ≡ true → member r d ≡ true
  pub lead : (d : ℕ) → member r d ≡ true
      → (member these d ≡ true) ⊎ ((e : ℕ) × (member these e ≡ true) × Leads rs d e)
  pub closed : (d e : ℕ) → member within d ≡ true → member (row_at rs d) e ≡ true → member r e ≡ true
      → member r d ≡ true

-- The circle of a device that leads back: all that it leads to and that lead to it. A set has it whole.
abbrev pub WholeIn : List ℕ → ℕ → ℕ → Type 0
WholeIn rs d s = (e : ℕ) → Leads rs d e → Leads rs e d → member s e ≡ true

-- a set has it and nothing else
pub record CircleOf (rs : List ℕ) (d s : ℕ) : Type 0 where
  pub below : s < 2 ^ length rs
  pub are : (e : ℕ) → member s e ≡ true → Leads rs d e × Leads rs e d
  pub whole : WholeIn rs d s

-- Under way: what is found leads back, and its circle is found with it; what leads back is found or left.
pub record Searching (rs : List ℕ) (left found : ℕ) : Type 0 where
  pub below : found < 2 ^ length rs
  pub back : (d : ℕ) → member found d ≡ true → Leads rs d d
  pub whole : (d : ℕ) → member found d ≡ true → WholeIn rs d found
  pub kept : (d : ℕ) → Leads rs d d → (member found d ≡ true) ⊎ (member left d ≡ true)
  pub apart : (d : ℕ) → member left d ≡ true → member found d ≡ false

pub record Underway (rs : List ℕ) (s : Search) : Type 0 where
  pub below : s.left < 2 ^ length rs
  pub searching : Searching rs s.left s.found

-- one step on, with less left
pub record LessLeft (rs : List ℕ) (left : ℕ) (r : Search) : Type 0 where
  pub on : Underway rs r
  pub less : r.left < left
