-- What the answer of the tests says of the option that it was proved to tell: a refusal, or the take's span where
-- nothing refuses; what that of a move says; and what a span says of the take's mate.
use Prim.Native.Nat.{ℕ, suc}
use mathlib.Core.List.{List}
use mathlib.Core.Option.{none, some}
use mathlib.Core.Option as maths
use mathlib.Core.Path.{◌≡◌, refl}
use Rattle.std.specs.Prelude.{Result, Ok, Err}
use Rattle.model.specs.declared.Refusal.{Refusal}
use Rattle.model.specs.Line.{job, at}
use Rattle.model.specs.Mate.{mate}
use Rattle.mates.specs.Span.{end_from, span_by, span_of}
use Rattle.mates.specs.declared.Span.{Span}
use Rattle.moving.specs.Tested.{tested_by}
use Rattle.moving.specs.Through.{through_by}
use Rattle.moving.specs.declared.Moved.{Moved}

-- what a test that is told found
pub told_refused : (o : maths.Option Refusal) (span : Span) (r : Refusal) → Err r ≡ tested_by o span → o ≡ some r
told_refused none span r e = cc
told_refused (some y) span r e = cc

pub told_passes : (o : maths.Option Refusal) (span s : Span) → Ok s ≡ tested_by o span → (o ≡ none) × (s ≡ span)
told_passes none span s e = (refl, cc)
told_passes (some y) span s e = (cc, cc)

-- what a move that is told answered
pub told_not : (a : Result ℕ Refusal) (stop : ℕ) (r : Refusal) → Err r ≡ through_by a stop → Err r ≡ a
told_not (Ok n) stop r e = cc
told_not (Err s) stop r e = cc

pub told_moved : (a : Result ℕ Refusal) (end : ℕ) (m : Moved) → Ok m ≡ through_by a end
    → (Ok m.changed ≡ a) × (m.stop ≡ end)
told_moved (Ok n) end m e = (cc, cc)
told_moved (Err r) end m e = (cc, cc)

-- what a span says of the take's mate
pub span_given : (p : List ℕ) (i m : ℕ) → Span.Given m ≡ span_of p i → mate p i ≡ some m
unfolding span_of
span_given p i m e = go (mate p i) e
  where
    go : (o : maths.Option ℕ) → Span.Given m ≡ span_by (end_from p (job (at p i)) (suc i)) o → o ≡ some m
    go none e = cc
    go (some x) e = cc

pub span_kept : (p : List ℕ) (i k : ℕ) → Span.Kept k ≡ span_of p i → mate p i ≡ none
unfolding span_of
span_kept p i k e = go (mate p i) e
  where
    go : (o : maths.Option ℕ) → Span.Kept k ≡ span_by (end_from p (job (at p i)) (suc i)) o → o ≡ none
    go none e = refl
    go (some x) e = cc
