-- The promise of `move_through` leaves one outcome per input (01, "How tight the statements are"): any two that meet it
-- are equal.
use Prim.Native.Nat.{ℕ}
use mathlib.Core.List.{List}
use mathlib.Core.Path.{◌≡◌, sym, ◌∙◌}
use Rattle.std.specs.Prelude.{Result}
use Rattle.model.specs.declared.Refusal.{Refusal}
use Rattle.model.specs.Line.{Settings}
use Rattle.plan.specs.declared.Notes.{Notes}
use Rattle.moving.specs.declared.Moved.{Moved}
use Rattle.moving.specs.Through.{MovesThrough}

same_notes : (a b : Notes) → a.first ≡ b.first → a.starter ≡ b.starter → a.again ≡ b.again → a.holdings ≡ b.holdings
    → a ≡ b
same_notes a b e f g h = λ i. record { first = e i; starter = f i; again = g i; holdings = h i }

module _ (S : Settings) (p t : List ℕ) (line device : ℕ) (lent : Notes) where
  pub through_one : (a b : Result Moved Refusal) (p₁ p₂ t₁ t₂ : List ℕ) (left₁ left₂ : Notes)
      → MovesThrough S p t line device lent a p₁ t₁ left₁ → MovesThrough S p t line device lent b p₂ t₂ left₂
      → (a ≡ b) × (p₁ ≡ p₂) × (t₁ ≡ t₂) × (left₁ ≡ left₂)
  through_one a b p₁ p₂ t₁ t₂ left₁ left₂ x y = (
    cc,
    cc,
    cc,
    same_notes left₁ left₂ (x.firsts ∙ sym y.firsts) (x.starts ∙ sym y.starts) (cc) (x.holds ∙ sym y.holds),
  )
