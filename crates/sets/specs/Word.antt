-- What an operator of a type of words makes of two of them, as numbers: whatever they are, it may be used, and it makes
-- of them what an operation on numbers makes of theirs.
use Rattle.std.specs.Prelude.{◌≡◌, ℕ, ⊤}

pub record Makes {W : Type 0} (number : W → ℕ) (can : W → W → Type 0) (gives : W → W → W → Type 0)
    (op : ℕ → ℕ → ℕ) : Type 0 where
  pub always : (a b : W) → can a b
  pub made : (a b r : W) → gives a b r → number r ≡ op (number a) (number b)

-- the operators of the words of the language
pub makes : (op : ℕ → ℕ → ℕ) → Makes (λ s. s) (λ _ _. ⊤) (λ a b r. r ≡ op a b) op
makes op = record {
  always = λ a b. tt;
  made = λ a b r e. e;
}
