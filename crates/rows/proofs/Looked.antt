-- One look at the rows (02, request 3): what a device adds to the devices that lead into a set and to those that a
-- set's devices lead to, and the members of both. Over any number of devices, as many as there are rows.
use Rattle.std.proofs.Common.{◌≡◌, ℕ, ◌^◌, ◌<◌, ◌≤◌, true, false, cond, not, eqb, ◌⊎◌, List, length, map, sym, ap, ◌∙◌}
use Rattle.std.proofs.Common.{inl, inr, lt_of_le_of_lt, arith, eqb-true, ext_get_or}
use Rattle.std.specs.List.{fold}
use lib.Bits.{and_le_r, and_zero_l}
use borrow.Author.Tests.{eqb-false, not-true}
use Rattle.model.specs.Lists.{up_from}
use Rattle.model.specs.Sets.{empty, union, union_of, member, lowest_of}
use Rattle.model.specs.Rows.{onward}
use Rattle.theory.proofs.Tests.{clash, test, and_split, and_both, le_or_lt}
use Rattle.theory.proofs.Lists.{up_from_has}
use Rattle.theory.proofs.Sets.{member_empty, member_past, in_union_of, union_of_in, empty_below, same_members}
use Rattle.theory.proofs.Rows.{row_below}
use Rattle.sets.specs.Only.{only_of}
use Rattle.sets.specs.Both.{both}
use Rattle.sets.proofs.Members.{Lowest, found, nothing, lowest, member_both, member_asked, member_only_of}
use Rattle.sets.proofs.Members.{only_of_below}
use Rattle.model.specs.Sets.{only_if, devices_where}
use Rattle.rows.specs.Search.{meet, row_at, in_rows, row_in, lead_into}
use Rattle.theory.proofs.Where.{member_where, where_below}
use Rattle.rows.proofs.Entries.{entry_of, length_entries}
use Rattle.rows.proofs.Unions.{all_joined}
use Rattle.rows.proofs.Where.{one_where, joined_from, joined_whole}

-- a device of a set, where its row has a member of s
abbrev pub into_at : List ℕ → ℕ → ℕ → ℕ → ℕ
into_at rs within s d = only_if (meet (row_in rs within d) s) d

-- ---- sets with a device, and sets that meet

-- a member is a device of the board
pub on_board_lem : (D s d : ℕ) → s < 2 ^ D → member s d ≡ true → d < D
on_board_lem D s d h m = go (le_or_lt D d)
  where
    go : (D ≤ d) ⊎ (d < D) → d < D
    go (inl l) = clash (member s d) m (member_past D s d h l)
    go (inr l) = l

-- the set of one device has no other
pub no_other : (D d e : ℕ) → member (only_of D d) e ≡ true → e ≡ d
no_other D d e m =
    let l = on_board_lem D (only_of D d) e (only_of_below D d) m in
    sym (eqb-true d e (sym (member_only_of D d e l) ∙ m))

-- a set that is not empty has a device
pub some_device : (D s : ℕ) → s < 2 ^ D → 0 < s → (d : ℕ) × (member s d ≡ true)
unfolding empty
some_device D s h k = go (lowest_of D s) (lowest D s)
  where
    go : (m : ℕ) → Lowest D s m → (d : ℕ) × (member s d ≡ true)
    go m (found d l e low) = (d, e)
    go m (nothing f) =
        let z = same_members D s empty h (empty_below D) (λ d l. f d l ∙ sym (member_empty d)) in absurd (omega arith)

-- what is in both is no larger than the second
pub both_within : (D s t : ℕ) → t < 2 ^ D → both s t < 2 ^ D
unfolding both
both_within D s t h = lt_of_le_of_lt (and_le_r s t) h

pub in_both : (s t d : ℕ) → member (both s t) d ≡ true → (member s d ≡ true) × (member t d ≡ true)
in_both s t d m = and_split (member s d) (member t d) (sym (member_both s t d) ∙ m)

pub both_in : (s t d : ℕ) → member s d ≡ true → member t d ≡ true → member (both s t) d ≡ true
both_in s t d m k = member_both s t d ∙ and_both (member s d) (member t d) m k

-- where something is in both, the sets meet; and the other way
pub met : (s t d : ℕ) → member s d ≡ true → member t d ≡ true → meet s t ≡ true
unfolding meet
met s t d m k = go (test (eqb (both s t) empty))
  where
    go : (eqb (both s t) empty ≡ true) ⊎ (eqb (both s t) empty ≡ false) → not (eqb (both s t) empty) ≡ true
    go (inl e) =
        clash (member (both s t) d) (both_in s t d m k)
        (ap (λ (x : ℕ). member x d) (eqb-true (both s t) empty e) ∙ member_empty d)
    go (inr e) = rw e

pub meeting : (D s t : ℕ) → t < 2 ^ D → meet s t ≡ true → (d : ℕ) × (member s d ≡ true) × (member t d ≡ true)
unfolding meet empty
meeting D s t h m =
    let n = eqb-false (both s t) empty (not-true (eqb (both s t) empty) m) in
    let r = some_device D (both s t) (both_within D s t h) (omega arith) in
    let q = in_both s t r.0 r.1 in (r.0, q.0, q.1)

-- the set of one device meets those that have it
meet_only : (D s d : ℕ) → s < 2 ^ D → meet s (only_of D d) ≡ member s d
unfolding meet
meet_only D s d h = member_asked D true s d h

-- ---- members

-- below its lowest a set has no device
below_lowest : (D s d : ℕ) → d < lowest_of D s → member s d ≡ false
below_lowest D s d h = go (lowest_of D s) (lowest D s) h
  where
    go : (m : ℕ) → Lowest D s m → d < m → member s d ≡ false
    go m (found k l e low) b = low d b
    go m (nothing f) b = f d b

module _ (rs : List ℕ) where
  -- the rows one by one are all rows
  rows_all : rs ≡ map (row_at rs) (up_from 0 (length rs))
  rows_all =
      ext_get_or 0 rs (map (row_at rs) (up_from 0 (length rs))) (sym (length_entries (row_at rs) 0 0 (length rs)))
      (λ d h. sym (entry_of (row_at rs) 0 (length rs) d h))

  -- so that what is joined of them one after another are all that stand in them
  pub rows_joined : fold (λ stand row. union row stand) empty rs ≡ in_rows rs
  unfolding in_rows
  rows_joined = all_joined rs ∙ ap union_of rows_all

  -- standing in a row
  pub stands : (d e : ℕ) → member (row_at rs d) e ≡ true → member (in_rows rs) e ≡ true
  unfolding in_rows
  stands d e m =
      union_of_in (row_at rs) (up_from 0 (length rs)) d e
      (up_from_has 0 (length rs) d (omega arith) (omega (arith, row_below rs d e m))) m

  -- a device that is not in the set adds nothing
  no_row : (within d : ℕ) → member within d ≡ false → row_in rs within d ≡ empty
  unfolding row_in
  no_row within d m = rw m

  no_into : (within s d : ℕ) → member within d ≡ false → into_at rs within s d ≡ empty
  unfolding meet empty both only_if
  no_into within s d m = rw (no_row within d m, and_zero_l s)

  -- as the code makes it of the set of the device alone
  pub row_chosen : (D within d : ℕ) → within < 2 ^ D
      → cond (meet within (only_of D d)) (row_at rs d) empty ≡ row_in rs within d
  unfolding row_in
  row_chosen D within d h = rw (meet_only D within d h)

  pub into_chosen : (D within s d : ℕ) → d < D → (row : ℕ) → row ≡ row_in rs within d
      → cond (meet row s) (only_of D d) empty ≡ into_at rs within s d
  into_chosen D within s d h row e = rw e (one_where D d (meet (row_in rs within d) s) h)

  -- so that a look may end at the lowest device of the set
  module _ (D d within : ℕ) (n : length rs ≡ D) (h : d ≤ D) (k : d ≤ lowest_of D within) where
    outside : (e : ℕ) → e < d → member within e ≡ false
    outside e l = below_lowest D within e (omega arith)

    pub into_whole : (s : ℕ) → joined_from D (into_at rs within s) d ≡ lead_into rs within s
    unfolding lead_into devices_where
    into_whole s =
        rw n (joined_whole D d (into_at rs within s) h (λ e l. no_into within s e (outside e l)))

    pub onward_whole : joined_from D (row_in rs within) d ≡ onward rs within
    unfolding onward row_in
    onward_whole = rw n (joined_whole D d (row_in rs within) h (λ e l. no_row within e (outside e l)))

  -- the members of a row in a set
  in_row : (within d e : ℕ) → member (row_in rs within d) e ≡ true
      → (member within d ≡ true) × (member (row_at rs d) e ≡ true)
  unfolding row_in
  in_row within d e m = go (test (member within d))
    where
      go : (member within d ≡ true) ⊎ (member within d ≡ false)
          → (member within d ≡ true) × (member (row_at rs d) e ≡ true)
      go (inl q) = (q, rw q at m)
      go (inr q) = clash (member empty e) (rw q at m) (member_empty e)

  row_in_lem : (within d e : ℕ) → member within d ≡ true → member (row_at rs d) e ≡ true
      → member (row_in rs within d) e ≡ true
  unfolding row_in
  row_in_lem within d e w m = rw w m

  -- leading into a set
  pub into_below : (within s : ℕ) → lead_into rs within s < 2 ^ length rs
  unfolding lead_into
  into_below within s = where_below (λ x. meet (row_in rs within x) s) (length rs)

  pub in_into : (within s d : ℕ) → s < 2 ^ length rs → member (lead_into rs within s) d ≡ true
      → (member within d ≡ true) × ((e : ℕ) × (member (row_at rs d) e ≡ true) × (member s e ≡ true))
  unfolding lead_into
  in_into within s d below m =
      let h = on_board_lem (length rs) (lead_into rs within s) d (into_below within s) m in
      let r = meeting (length rs) (row_in rs within d) s below
      (sym (member_where (λ x. meet (row_in rs within x) s) (length rs) d h) ∙ m) in
      let q = in_row within d r.0 r.1 in (q.0, (r.0, q.1, r.2))

  pub into_in : (within s d e : ℕ) → member within d ≡ true → member (row_at rs d) e ≡ true → member s e ≡ true
      → member (lead_into rs within s) d ≡ true
  unfolding lead_into
  into_in within s d e w m k =
      member_where (λ x. meet (row_in rs within x) s) (length rs) d (row_below rs d e m)
      ∙ met (row_in rs within d) s e (row_in_lem within d e w m) k

  -- being led to from a set
  pub in_onward : (s e : ℕ) → member (onward rs s) e ≡ true
      → (d : ℕ) × (member (row_at rs d) e ≡ true) × (member s d ≡ true)
  unfolding onward row_in
  in_onward s e m =
      let r = in_union_of (row_in rs s) (up_from 0 (length rs)) e m in
      let q = in_row s r.0 e r.2 in (r.0, q.1, q.0)

  pub onward_in : (s d e : ℕ) → member s d ≡ true → member (row_at rs d) e ≡ true → member (onward rs s) e ≡ true
  unfolding onward row_in
  onward_in s d e k m =
      union_of_in (row_in rs s) (up_from 0 (length rs)) d e
      (up_from_has 0 (length rs) d (omega arith) (omega (arith, row_below rs d e m))) (row_in_lem s d e k m)
