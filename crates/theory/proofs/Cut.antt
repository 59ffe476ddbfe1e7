-- How much of an order from elsewhere decides (02, request 1): nothing after an entry that is no line's number, which
-- is never a legal next step; and nothing after more entries than the plan has lines, for each legal step does a line
-- that was undone.
use Prim.Native.Nat.{ℕ, suc, ◌<◌}
use mathlib.Core.List.{List, [], ◌∷◌, ◌++◌}
use mathlib.Core.Logic.{◌⊎◌, inl, inr}
use mathlib.Core.Option.{some}
use mathlib.Core.Path.{◌≡◌, refl, sym, ◌∙◌}
use native.Mathlib.Omega.{arith}
use lib.ListN.{length}
use Rattle.model.specs.Mate.{held_lines}
use Rattle.model.specs.Judged.{stray_after, stray}
use Rattle.theory.proofs.Lists.{left, left_all, among}
use Rattle.theory.proofs.Judged.{may_follow_exactly, entry_refused, entry_goes_on, one_less}

-- 0 and what is past the last line are no line's number
abbrev pub NoLine : List ℕ → ℕ → Type 0
NoLine p e = (e ≡ 0) ⊎ (length p < e)

no_line_strays : (p done : List ℕ) (n e : ℕ) (es : List ℕ) → NoLine p e → stray_after p done n (e ∷ es) ≡ some (suc n)
no_line_strays p done n e es h =
    entry_refused p done n e es (λ i q t. go i q ((may_follow_exactly p done i).0 t).line h)
  where
    go : (i : ℕ) → e ≡ suc i → i < length p → NoLine p e → ⊥
    go i q l (inl z) = omega arith
    go i q l (inr z) = omega arith

-- what comes behind some entries decides only by what it is after the lines that they do
same_behind : (p xs ys : List ℕ) → ((done : List ℕ) (n : ℕ) → stray_after p done n xs ≡ stray_after p done n ys)
    → (done : List ℕ) (n : ℕ) (a : List ℕ) → stray_after p done n (a ++ xs) ≡ stray_after p done n (a ++ ys)
same_behind p xs ys h done n [] = h done n
same_behind p xs ys h done n (e ∷ a) =
    entry_goes_on p done n e (a ++ xs) (a ++ ys) (λ i q t. same_behind p xs ys h (done ++ (i ∷ [])) (suc n) a)

-- nothing after an entry that is no line's number
pub stray_cut : (p a es : List ℕ) (e : ℕ) → NoLine p e → stray p (a ++ (e ∷ es)) ≡ stray p (a ++ (0 ∷ []))
unfolding stray
stray_cut p a es e h =
    same_behind p (e ∷ es) (0 ∷ [])
    (λ d n. no_line_strays p d n e es h ∙ sym (no_line_strays p d n 0 [] (inl refl))) (held_lines p) 0 a

-- nothing after more entries than lines are undone
enough_left : (p done : List ℕ) (n : ℕ) (a es : List ℕ) → left (among done) (length p) < length a
    → stray_after p done n (a ++ es) ≡ stray_after p done n a
enough_left p done n [] es h = absurd (omega arith)
enough_left p done n (e ∷ a) es h =
    entry_goes_on p done n e (a ++ es) a
    (λ i q t. enough_left p (done ++ (i ∷ [])) (suc n) a es
    (omega (arith, one_less p done i ((may_follow_exactly p done i).0 t))))

pub enough_entries : (p a es : List ℕ) → length p < length a → stray p (a ++ es) ≡ stray p a
unfolding stray
enough_entries p a es h =
    enough_left p (held_lines p) 0 a es (omega (arith, left_all (among (held_lines p)) (length p)))
