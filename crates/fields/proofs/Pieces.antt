-- A list put piece by piece, as a plan's lines or an order's numbers are: the bytes of each entry behind those of the
-- entries before it. Then a printed line (01, "Plans with their verdicts") as a word and what is put behind it.
use Prim.Native.Nat.{ℕ, ◌+◌, ◌≤◌, ◌<◌}
use mathlib.Core.List.{List, [], ◌∷◌, ◌++◌, flat_map, append_assoc, append-nil}
use mathlib.Core.Path.{◌≡◌, refl, sym, ◌∙◌, ap}
use native.Mathlib.Numerals.{add-one}
use native.Mathlib.Omega.{arith}
use lib.ListN.{length, get_or, take, drop, length-append, take-append-drop}
use lib.Seq.{take-suc, take_all}
use Rattle.model.specs.Text.{tab, newline, decimal, tabbed}
use Rattle.model.specs.Printed.{printed_line}
use Rattle.fields.specs.Puts.{PutsAs, place_after, value_text, values_text}
use Rattle.fields.proofs.Putting.{place_then, kept, moves, put_both}

module _ (f : ℕ → List ℕ) where
  flat_append : (xs ys : List ℕ) → flat_map f (xs ++ ys) ≡ flat_map f xs ++ flat_map f ys
  unfolding flat_map
  flat_append [] ys = refl
  flat_append (x ∷ xs) ys = rw (flat_append xs ys) (sym (append_assoc (f x) (flat_map f xs) (flat_map f ys)))

  module _ (xs : List ℕ) (i : ℕ) where
    -- the bytes of the first i entries
    abbrev pub pieces : List ℕ
    pieces = flat_map f (take i xs)

    pub pieces_all : length xs ≤ i → pieces ≡ flat_map f xs
    pieces_all h = rw (take_all i xs h)

    module _ (h : i < length xs) where
      pub pieces_more : flat_map f (take (i + 1) xs) ≡ pieces ++ f (get_or xs i 0)
      unfolding flat_map
      pieces_more =
          rw (add-one i, take-suc xs i 0 h)
          (flat_append (take i xs) (get_or xs i 0 ∷ [])
          ∙ ap (λ (l : List ℕ). pieces ++ l) (append-nil (f (get_or xs i 0))))

      pieces_length : length pieces + length (f (get_or xs i 0)) ≤ length (flat_map f xs)
      pieces_length =
          omega (
            arith,
            length-append pieces (f (get_or xs i 0)),
            length-append (flat_map f (take (i + 1) xs)) (flat_map f (drop (i + 1) xs)),
            ap length pieces_more,
            ap length
                (ap (flat_map f) (sym (take-append-drop (i + 1) xs)) ∙ flat_append (take (i + 1) xs) (drop (i + 1) xs)),
          )

      pub place_more : (room from at past : ℕ)
          → ((k : ℕ) → place_after room at k ≡ place_after room from (length pieces + k))
          → past ≡ place_after room at (length (f (get_or xs i 0)))
          → (k : ℕ) → place_after room past k ≡ place_after room from (length (flat_map f (take (i + 1) xs)) + k)
      place_more room from at past e g k =
          let n = length (f (get_or xs i 0)) in
          rw g (place_then room at n k)
          ∙ (e (n + k)
          ∙ ap (place_after room from) (omega (arith, ap length pieces_more, length-append pieces (f (get_or xs i 0)))))

      -- where all of them fit, the next one does, and is put behind those before it
      module _ {from : ℕ} {old : List ℕ} {p : ℕ} {mid : List ℕ} (x : PutsAs pieces from old p mid)
          (fits : from + length (flat_map f xs) ≤ length old) where
        pub next_room : p + length (f (get_or xs i 0)) ≤ length mid
        next_room = omega (arith, kept x, moves x (omega (arith, pieces_length)), pieces_length)

        pub put_more : {q : ℕ} {made : List ℕ} → PutsAs (f (get_or xs i 0)) p mid q made
            → PutsAs (flat_map f (take (i + 1) xs)) from old q made
        put_more y =
            rw pieces_more (put_both x y (omega (arith, length-append pieces (f (get_or xs i 0)), pieces_length)))

-- a printed line is its word and, behind it, its numbers
pub printed_line_lem : (values word : List ℕ) → printed_line word values ≡ word ++ values_text values
unfolding printed_line tabbed values_text
printed_line_lem [] word = refl
printed_line_lem (v ∷ vs) word =
    ap (λ (l : List ℕ). word ++ (tab ∷ l))
    (printed_line_lem vs (decimal v) ∙ sym (append_assoc (decimal v) (flat_map value_text vs) (newline ∷ [])))
