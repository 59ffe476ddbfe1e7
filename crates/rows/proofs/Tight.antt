-- The promises of `holds`, `tabled` and `pass_line` leave one outcome per input (01, "How tight the statements are"):
-- any two that meet one of them are equal. The other promises of this room are equations.
use Rattle.std.proofs.Common.{◌≡◌, ℕ, Bool, List, sym, ◌∙◌}
use Rattle.std.specs.Prelude.{Result}
use Rattle.model.specs.declared.Refusal.{Refusal}
use Rattle.plan.specs.declared.Notes.{Notes}
use Rattle.rows.specs.declared.Held.{Held}
use Rattle.rows.specs.declared.Passed.{Passed}
use Rattle.rows.specs.Holds.{PassedOn, HoldsAs, TabledAs}

-- notes by their parts
abbrev notes : List ℕ → List ℕ → List ℕ → List ℕ → Notes
notes first starter again holdings =
    record { first = first; starter = starter; again = again; holdings = holdings }

same_notes : {f f' s s' a a' h h' : List ℕ} → f ≡ f' → s ≡ s' → a ≡ a' → h ≡ h' → notes f s a h ≡ notes f' s' a' h'
same_notes e f g u = cc

module _ (p : List ℕ) (lent : Notes) (rs flags : List ℕ) where
  pub holds_one : (a b : Result Held Refusal) (left₁ left₂ : Notes) (rs₁ rs₂ flags₁ flags₂ : List ℕ)
      → HoldsAs p lent rs flags a left₁ rs₁ flags₁ → HoldsAs p lent rs flags b left₂ rs₂ flags₂
      → (a ≡ b) × (left₁ ≡ left₂) × (rs₁ ≡ rs₂) × (flags₁ ≡ flags₂)
  holds_one a b left₁ left₂ rs₁ rs₂ flags₁ flags₂ x y = (
    cc,
    same_notes (x.firsts_are ∙ sym y.firsts_are) (x.starts_are ∙ sym y.starts_are) (x.agains_are ∙ sym y.agains_are)
        (x.held_are ∙ sym y.held_are),
    cc,
    cc,
  )

pub tabled_one : (p rs table : List ℕ) (a b : Result Held Refusal) (rs₁ rs₂ table₁ table₂ : List ℕ)
    → TabledAs p rs table a rs₁ table₁ → TabledAs p rs table b rs₂ table₂ → (a ≡ b) × (rs₁ ≡ rs₂) × (table₁ ≡ table₂)
tabled_one p rs table a b rs₁ rs₂ table₁ table₂ x y = (cc, cc, cc)

-- a line passed, by the parts of what is known after it
abbrev passed : ℕ → ℕ → Bool → Held → Passed
passed j w l h = record { job = j; wanted = w; lasts = l; holds = h }

pub passed_one : (old : Passed) (l plain : ℕ) (a b : Passed) → PassedOn a old l plain → PassedOn b old l plain → a ≡ b
passed_one old l plain a b x y =
    let holds : a.holds ≡ b.holds = cc in
    same (x.job_is ∙ sym y.job_is) (x.wanted_is ∙ sym y.wanted_is) (x.lasts_is ∙ sym y.lasts_is) holds
  where
    same : {j j' w w' : ℕ} {m m' : Bool} {h h' : Held} → j ≡ j' → w ≡ w' → m ≡ m' → h ≡ h'
        → passed j w m h ≡ passed j' w' m' h'
    same e f g u = cc
