-- A promise leaves one outcome per input (01, "How tight the statements are").
use Prim.Native.Nat.{ℕ}
use mathlib.Core.List.{List}
use mathlib.Core.Path.{◌≡◌}
use Rattle.std.specs.Prelude.{Option}
use Rattle.fields.specs.Number.{number_at}
use Rattle.fields.specs.Puts.{PutsAs}
use Rattle.fields.specs.declared.Number.{Number}

pub one_number : (text : List ℕ) (from end most : ℕ) (a b : Option Number) → a ≡ number_at text from end most
    → b ≡ number_at text from end most → a ≡ b
one_number text from end most a b p q = cc

pub one_put : (new : List ℕ) (at : ℕ) (old : List ℕ) (p q : ℕ) (made other : List ℕ) → PutsAs new at old p made
    → PutsAs new at old q other → (p ≡ q) × (made ≡ other)
one_put new at old p q made other x y = (cc, cc)
