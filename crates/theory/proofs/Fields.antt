-- Lines and fields: fields that tabs part are found again, and so are lines that newlines end; what was parted and is
-- put together again is the text that it was. The round trips of `Text` and the line reader rest on these laws.
use Prim.Native.Nat.{ℕ, ◌≤◌}
use mathlib.Core.Bool.{Bool, true, false}
use mathlib.Core.List.{List, [], ◌∷◌, ◌++◌, map, flat_map, flatten, get_last_d, drop_last, append_assoc}
use mathlib.Core.Path.{◌≡◌, refl, sym, ◌∙◌, ap, subst}
use native.Mathlib.Omega.{arith}
use lib.Dec.{eqb}
use lib.ListN.{length, drop}
use borrow.Author.Tests.{eqb-true, eqb-false, ne_eqb}
use Rattle.model.specs.Lists.{has}
use Rattle.model.specs.Text.{tab, newline, in_front, lines_of, fields_of, tabbed}
use Rattle.theory.proofs.Tests.{or_neither}

-- ---- a byte that stands nowhere in a text

pub has_neither : (b : ℕ) (s t : List ℕ) → has b s ≡ false → has b t ≡ false → has b (s ++ t) ≡ false
unfolding has
has_neither b [] t h g = g
has_neither b (x ∷ s) t h g = let r = or_neither (eqb b x) (has b s) h in rw r.0 (has_neither b s t r.1 g)

-- neither its first byte is that byte, nor does that byte stand in the rest
without : (c x : ℕ) (s : List ℕ) → has c (x ∷ s) ≡ false → (eqb x c ≡ false) × (has c s ≡ false)
unfolding has
without c x s h =
    let r = or_neither (eqb c x) (has c s) h in
    (ne_eqb x c (λ e. eqb-false c x r.0 (sym e)), r.1)

-- ---- fields

field_byte : (x : ℕ) (s : List ℕ) → eqb x tab ≡ false → fields_of (x ∷ s) ≡ in_front x (fields_of s)
unfolding fields_of
field_byte x s e = rw (e, fields_of)

pub field_last : (f : List ℕ) → has tab f ≡ false → fields_of f ≡ f ∷ []
unfolding fields_of
field_last [] h = refl
field_last (x ∷ f) h = let r = without tab x f h in field_byte x f r.0 ∙ rw (field_last f r.1)

pub field_first : (f s : List ℕ) → has tab f ≡ false → fields_of (f ++ (tab ∷ s)) ≡ f ∷ fields_of s
unfolding fields_of
field_first [] s h = refl
field_first (x ∷ f) s h =
    let r = without tab x f h in field_byte x (f ++ (tab ∷ s)) r.0 ∙ rw (field_first f s r.1)

tabbed_front : (b : ℕ) (fs : List (List ℕ)) → tabbed (in_front b fs) ≡ b ∷ tabbed fs
unfolding tabbed in_front
tabbed_front b [] = refl
tabbed_front b (f ∷ []) = refl
tabbed_front b (f ∷ g ∷ fs) = refl

tabbed_field : (fs : List (List ℕ)) → 1 ≤ length fs → tabbed ([] ∷ fs) ≡ tab ∷ tabbed fs
unfolding tabbed
tabbed_field [] h = absurd (omega arith)
tabbed_field (f ∷ fs) h = refl

some_front : (b : ℕ) (fs : List (List ℕ)) → 1 ≤ length (in_front b fs)
unfolding in_front
some_front b [] = omega arith
some_front b (f ∷ fs) = omega arith

some_field : (s : List ℕ) → 1 ≤ length (fields_of s)
unfolding fields_of
some_field [] = omega arith
some_field (b ∷ s) = go (eqb b tab)
  where
    go : (t : Bool) → 1 ≤ length {A = List ℕ} (elim t [ true ↦ [] ∷ fields_of s | false ↦ in_front b (fields_of s) ])
    go true = omega arith
    go false = some_front b (fields_of s)

-- the fields of a text, with their tabs and a newline, are the text and a newline
pub tabbed_fields : (s : List ℕ) → tabbed (fields_of s) ≡ s ++ (newline ∷ [])
unfolding fields_of tabbed
tabbed_fields [] = refl
tabbed_fields (b ∷ s) = go (eqb b tab) refl (tabbed_fields s)
  where
    go : (t : Bool) → eqb b tab ≡ t → tabbed (fields_of s) ≡ s ++ (newline ∷ [])
        → tabbed (elim t [ true ↦ [] ∷ fields_of s | false ↦ in_front b (fields_of s) ]) ≡ b ∷ s ++ (newline ∷ [])
    go true e ih = tabbed_field (fields_of s) (some_field s) ∙ rw (ih, eqb-true b tab e)
    go false e ih = tabbed_front b (fields_of s) ∙ rw ih

-- ---- the newline at the end

pub last_is : (s : List ℕ) (b d : ℕ) → get_last_d (s ++ (b ∷ [])) d ≡ b
unfolding get_last_d
last_is [] b d = refl
last_is (x ∷ []) b d = refl
last_is (x ∷ y ∷ s) b d = last_is (y ∷ s) b d

pub before_last : (s : List ℕ) (b : ℕ) → drop_last (s ++ (b ∷ [])) ≡ s
before_last [] b = refl
before_last (x ∷ []) b = refl
before_last (x ∷ y ∷ s) b = ap {B = List ℕ} (λ r. x ∷ r) (before_last (y ∷ s) b)

pub last_newline : (l : List ℕ) → get_last_d l 0 ≡ newline → drop_last l ++ (newline ∷ []) ≡ l
unfolding get_last_d
last_newline [] h = absurd (omega arith)
last_newline (x ∷ []) h = rw h
last_newline (x ∷ y ∷ l) h = ap {B = List ℕ} (λ r. x ∷ r) (last_newline (y ∷ l) h)

-- ---- lines

-- a text that ends in its only newline
pub record EndsOnce (l : List ℕ) : Type 0 where
  pub body : List ℕ
  pub clean : has newline body ≡ false
  pub whole : l ≡ body ++ (newline ∷ [])

line_byte : (x : ℕ) (s : List ℕ) → eqb x newline ≡ false → lines_of (x ∷ s) ≡ in_front x (lines_of s)
unfolding lines_of
line_byte x s e = rw (e, lines_of)

pub line_first : (b s : List ℕ) → has newline b ≡ false
    → lines_of (b ++ (newline ∷ s)) ≡ (b ++ (newline ∷ [])) ∷ lines_of s
unfolding lines_of
line_first [] s h = refl
line_first (x ∷ b) s h =
    let r = without newline x b h in line_byte x (b ++ (newline ∷ s)) r.0 ∙ rw (line_first b s r.1)

-- texts of which each ends in its only newline, one after another, have just these lines
pub lines_back : {A : Type 0} (f : A → List ℕ) → ((x : A) → EndsOnce (f x)) → (xs : List A)
    → lines_of (flat_map f xs) ≡ map f xs
unfolding flat_map lines_of
lines_back f ends [] = refl
lines_back f ends (x ∷ xs) =
    rw ((ends x).whole, append_assoc)
    (line_first (ends x).body (flat_map f xs) (ends x).clean ∙ rw (lines_back f ends xs))

-- the lines of a text, one after another, are the text
pub flatten_lines : (s : List ℕ) → flatten (lines_of s) ≡ s
unfolding flatten lines_of
flatten_lines [] = refl
flatten_lines (b ∷ s) = go (eqb b newline) (flatten_lines s)
  where
    front : (ls : List (List ℕ)) → flatten (in_front b ls) ≡ b ∷ flatten ls
    front [] = refl
    front (l ∷ ls) = refl

    go : (t : Bool) → flatten (lines_of s) ≡ s
        → flatten (elim t [ true ↦ (b ∷ []) ∷ lines_of s | false ↦ in_front b (lines_of s) ]) ≡ b ∷ s
    go true ih = rw ih
    go false ih = front (lines_of s) ∙ rw ih

-- where something stands, there is a first line, and something stands in it
pub some_line : (s : List ℕ) → 1 ≤ length s
    → (l : List ℕ) × (ls : List (List ℕ)) × (lines_of s ≡ l ∷ ls) × (1 ≤ length l)
unfolding lines_of
some_line [] h = absurd (omega arith)
some_line (b ∷ s) h = go (eqb b newline) (lines_of s)
  where
    go : (t : Bool) (ls : List (List ℕ))
        → (l : List ℕ) × (ms : List (List ℕ))
        × (elim t [ true ↦ (b ∷ []) ∷ ls | false ↦ in_front b ls ] ≡ l ∷ ms) × (1 ≤ length l)
    go true ls = (b ∷ [], ls, refl, omega arith)
    go false [] = (b ∷ [], [], refl, omega arith)
    go false (l ∷ ls) = (b ∷ l, ls, refl, omega arith)

-- past its first line a text has its other lines
abbrev PastFirst : List ℕ → List (List ℕ) → Type 0
PastFirst s [] = Unit {0}
PastFirst s (l ∷ ls) = lines_of (drop (length l) s) ≡ ls

past_first : (s : List ℕ) → PastFirst s (lines_of s)
unfolding lines_of
past_first [] = tt
past_first (b ∷ s) = go (eqb b newline) (lines_of s) refl (past_first s)
  where
    go : (t : Bool) (ls : List (List ℕ)) → lines_of s ≡ ls → PastFirst s ls
        → PastFirst (b ∷ s) (elim t [ true ↦ (b ∷ []) ∷ ls | false ↦ in_front b ls ])
    go true ls e h = e
    go false [] e h = e
    go false (l ∷ ls) e h = h

pub lines_past : (s l : List ℕ) (ls : List (List ℕ)) → lines_of s ≡ l ∷ ls → lines_of (drop (length l) s) ≡ ls
lines_past s l ls e = subst (PastFirst s) e (past_first s)
