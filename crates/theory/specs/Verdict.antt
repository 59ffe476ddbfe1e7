-- The words in which theory says why a plan without a fault has no legal order (01, "Claims and rows" and "Refusal
-- numbers", 9 and 10, and 02, request 5): two lines that keep a device, or a device that leads back to itself, and the
-- lowest such; or held lines that hinder, and the lowest device that one of them names.
use Rattle.std.specs.Prelude.{ℕ, ◌<◌, true, List, ◌⊎◌, ◌≢◌, ◌≡◌}
use Rattle.model.specs.Line.{holds, at}
use Rattle.model.specs.Mate.{held_at, takes, keeps}
use Rattle.model.specs.Rows.{rows, Leads}
use Rattle.model.specs.Verdict.{stays_open}
use Rattle.model.specs.declared.Refusal.{Refusal}
use Rattle.model.specs.declared.Refusal.TheVariants.{TwoLasting, LeadsBack}

-- two lines that keep a device to the end: lasting takes, or one of them a held line without a give
pub record LastsTwice (p : List ℕ) (d : ℕ) : Type 0 where
  pub i : ℕ
  pub k : ℕ
  pub apart : i ≢ k
  pub i_lasts : keeps p i d ≡ true
  pub k_lasts : keeps p k d ≡ true

-- why there is no order, going by some rows, and the lowest device for which
pub data NoOrderBy (D : ℕ) (p rs : List ℕ) : Refusal → Type 0 where
  twice : (d : ℕ) → d < D → LastsTwice p d → ((e : ℕ) → e < d → LastsTwice p e → ⊥) → NoOrderBy D p rs (TwoLasting d)
  back : (d : ℕ) → ((e : ℕ) → e < D → LastsTwice p e → ⊥) → d < D → Leads rs d d
      → ((e : ℕ) → e < d → Leads rs e e → ⊥) → NoOrderBy D p rs (LeadsBack d)

-- an outermost take of a device that a held line keeps to the end
pub record TakesKept (p : List ℕ) : Type 0 where
  pub h : ℕ
  pub i : ℕ
  pub d : ℕ
  pub is_held : held_at p h ≡ true
  pub stays : keeps p h d ≡ true
  pub taken : takes p i d ≡ true

-- held lines hinder: by such a take, or by a stretch that cannot be closed
abbrev pub Hindered : List ℕ → Type 0
Hindered p = TakesKept p ⊎ (stays_open p ≡ true)

-- some held line names the device
abbrev pub HeldDevice : List ℕ → ℕ → Type 0
HeldDevice p d = (h : ℕ) × (holds (at p h) d ≡ true)

-- why there is no order: by the plan's own rows, or else by its held lines
pub data NoOrder (D : ℕ) (p : List ℕ) : Refusal → Type 0 where
  by_rows : (r : Refusal) → NoOrderBy D p (rows D p) r → NoOrder D p r
  by_held : (d : ℕ) → ((e : ℕ) → e < D → LastsTwice p e → ⊥) → ((e : ℕ) → e < D → Leads (rows D p) e e → ⊥)
      → Hindered p → d < D → HeldDevice p d → ((e : ℕ) → e < d → HeldDevice p e → ⊥) → NoOrder D p (LeadsBack d)
