-- 02, request 1: the plan's part of a text, line by line, up to the first line that parts.
use Prim.Native.Nat.{ℕ, zero, suc, ◌+◌, ◌-◌, ◌≤◌, ◌<◌, min}
use mathlib.Core.Bool.{Bool, true, false, ◌&&◌}
use mathlib.Core.List.{List, [], ◌∷◌, ◌++◌, append_assoc, append-nil}
use mathlib.Core.Path.{◌≡◌, refl, sym, ◌∙◌, ap}
use native.Mathlib.Omega.{arith}
use lib.Dec.{eqb}
use lib.ListN.{length, take, drop, length-append, length-drop}
use lib.Pointwise.{pointwise}
use lib.Seq.{drop_at, drop-drop, take-add, take-append_seam, take_all}
use borrow.Author.Tests.{eqb-true}
use Rattle.std.specs.List.{IsFirstMatchOrLen}
use Rattle.std.proofs.lemmas.List.{nil_from_length}
use Rattle.model.specs.Lists.{same}
use Rattle.model.specs.Text.{newline, in_front, lines_of}
use Rattle.model.specs.Judged.{parting_line, plan_part, entry_part}
use Rattle.theory.proofs.Tests.{clash}

-- ---- the line that parts

same_true : (xs ys : List ℕ) → same xs ys ≡ true → xs ≡ ys
unfolding same
same_true [] [] e = refl
same_true [] (y ∷ ys) e = clash false e refl
same_true (x ∷ xs) [] e = clash false e refl
same_true (x ∷ xs) (y ∷ ys) e = go (eqb x y) refl e (same_true xs ys)
  where
    go : (b : Bool) → eqb x y ≡ b → elim b [ true ↦ same xs ys | false ↦ false ] ≡ true → (same xs ys ≡ true → xs ≡ ys)
        → ◌≡◌ {A = List ℕ} (x ∷ xs) (y ∷ ys)
    go true q e ih = rw (eqb-true x y q, ih e)
    go false q e ih = clash false e refl

-- the code's test for it
pub same_bytes : (xs ys : List ℕ) → pointwise eqb xs ys ≡ same xs ys
unfolding same
same_bytes [] [] = refl
same_bytes [] (y ∷ ys) = refl
same_bytes (x ∷ xs) [] = refl
same_bytes (x ∷ xs) (y ∷ ys) = go (eqb x y) (same_bytes xs ys)
  where
    go : (b : Bool) → pointwise eqb xs ys ≡ same xs ys
        → (b && pointwise eqb xs ys) ≡ elim b [ true ↦ same xs ys | false ↦ false ]
    go true ih = ih
    go false ih = refl

-- ---- a line that a cut behind every newline yields

pub first_line : (s x rest : List ℕ) (i : ℕ) → s ≡ x ++ rest → length x ≡ min (i + 1) (length s)
    → IsFirstMatchOrLen (λ b. eqb b newline) s i → 0 < length s → lines_of s ≡ x ∷ lines_of rest
unfolding lines_of in_front
first_line s [] rest i e n m h = absurd (omega arith)
first_line [] (c ∷ x) rest i e n m h = cc
first_line (b ∷ s) (c ∷ x) rest i e n m h = rw (← first) (go (first_line s) (eqb b newline) refl i n m)
  where
    first : b ≡ c
    first = cc

    behind : s ≡ x ++ rest
    behind = cc

    ended : length x ≡ 0 → ◌≡◌ {A = List (List ℕ)} ((b ∷ []) ∷ lines_of s) ((b ∷ x) ∷ lines_of rest)
    ended z = let none = nil_from_length x z in let all : s ≡ rest = rw none at behind in rw (none, all)

    go : ((x rest : List ℕ) (i : ℕ) → s ≡ x ++ rest → length x ≡ min (i + 1) (length s)
        → IsFirstMatchOrLen (λ b. eqb b newline) s i → 0 < length s → lines_of s ≡ x ∷ lines_of rest)
        → (t : Bool) → eqb b newline ≡ t → (i : ℕ) → length (c ∷ x) ≡ min (i + 1) (length (b ∷ s))
        → IsFirstMatchOrLen (λ b. eqb b newline) (b ∷ s) i
        → ◌≡◌ {A = List (List ℕ)}
        (elim t [ true ↦ (b ∷ []) ∷ lines_of s | false ↦ in_front b (lines_of s) ]) ((b ∷ x) ∷ lines_of rest)
    go ih true q zero n m = ended (omega arith)
    go ih true q (suc i) n m = clash (eqb b newline) q (m.0 0 0 (omega arith) (omega arith))
    go ih false q zero n m = clash (eqb b newline) (m.1 (omega arith) 0) q
    go ih false q (suc i) n m = more x behind (omega arith)
      where
        more : (x : List ℕ) → s ≡ x ++ rest → length x + 1 ≡ min (i + 2) (length s + 1)
            → ◌≡◌ {A = List (List ℕ)} (in_front b (lines_of s)) ((b ∷ x) ∷ lines_of rest)
        more [] e n = let none = nil_from_length s (omega arith) in rw (← e, none)
        more (d ∷ x) e n =
            rw (ih (d ∷ x) rest i e (omega arith)
            (λ k v low high. m.0 (suc k) v (omega arith) (omega arith), λ l v. m.1 (omega arith) v)
            (omega (arith, ap length e)))

-- ---- line by line

-- a text from a place on, as the code cuts it off
pub to_end : (s : List ℕ) (k : ℕ) → take (length s - k) (drop k s) ≡ drop k s
to_end s k = take_all (length s - k) (drop k s) (omega (arith, length-drop k s))

-- the lines before a place are the plan's, and what stands from there on decides
pub record Planned (text : List ℕ) (end : ℕ) (rest : List ℕ) : Type 0 where
  pub within : end ≤ length text
  pub left : rest ≡ drop end text
  pub plan : plan_part (lines_of text) ≡ take end text ++ plan_part (lines_of rest)
  pub entries : entry_part (lines_of text) ≡ entry_part (lines_of rest)

pub planned_none : (text : List ℕ) → Planned text 0 text
planned_none text = record { within = omega arith; left = refl; plan = refl; entries = refl }

module _ {text : List ℕ} {end : ℕ} {rest : List ℕ} (x : Planned text end rest) where
  -- no line parts
  pub none_parts : length rest ≡ 0 → (plan_part (lines_of text) ≡ text) × (entry_part (lines_of text) ≡ lines_of [])
  unfolding plan_part entry_part lines_of
  none_parts h =
      let none = nil_from_length rest h in
      let all : take end text ≡ text = take_all end text (omega (arith, h, ap length x.left, length-drop end text)) in
      (x.plan ∙ rw (none, all) (append-nil text), x.entries ∙ rw none)

  module _ (line more : List ℕ) (e : rest ≡ line ++ more) (first : lines_of rest ≡ line ∷ lines_of more) where
    -- what is behind the line
    behind : more ≡ drop (end + length line) text
    behind = sym (drop_at line more (length line) refl) ∙ ap (drop (length line)) (sym e ∙ x.left)
        ∙ drop-drop (length line) end text

    pub inside : end + length line ≤ length text
    inside = omega (arith, x.within, ap length e, length-append line more, ap length x.left, length-drop end text)

    -- the line parts
    pub line_parts : same line parting_line ≡ true
        → (plan_part (lines_of text) ≡ take end text)
        × (entry_part (lines_of text) ≡ lines_of (drop (end + length line) text))
    unfolding plan_part entry_part
    line_parts p = (
      x.plan ∙ rw (first, p, plan_part) (append-nil (take end text)),
      x.entries ∙ rw (first, p, entry_part) (ap lines_of behind),
    )

    -- it is one of the plan's
    pub planned_more : same line parting_line ≡ false → Planned text (end + length line) more
    unfolding plan_part entry_part
    planned_more p =
        let rest' : List ℕ = plan_part (lines_of more) in
        let there : take (length line) (drop end text) ≡ line
        = rw (← x.left, e) (take-append_seam line more) in
        let both : take (end + length line) text ≡ take end text ++ line
        = rw (take-add end (length line) text, there) in
        record {
          within = inside;
          left = behind;
          plan = x.plan ∙ rw (first, p, plan_part, both) (sym (append_assoc (take end text) line rest'));
          entries = x.entries ∙ rw (first, p, entry_part);
        }
