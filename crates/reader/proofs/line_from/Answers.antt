-- `reader::line_from` meets its contract: the step of the reader with a cursor, at the count of the newlines.
use Rattle.std.proofs.Common.{◌≡◌, ◌==◌, ◌∙◌, ℕ, List, [], ◌∷◌, Bool, true, false, cond, length, take, refl, sym, ap}
use Rattle.std.specs.List.{filter, count_by}
use Rattle.std.proofs.lemmas.List.Sums.{length-filter}
use Rattle.model.specs.Board.{board}
use Rattle.model.specs.Lists.{those}
use Rattle.model.specs.Text.{newline, newlines_before}
use Rattle.theory.proofs.Offsets.{from_count}
use Rattle.promises.proofs.Tight.{the_line}
use Rattle.reader.proofs.line_from.Goals as goal

those_kept : (p : ℕ → Bool) (xs : List ℕ) → filter p xs ≡ those p xs
unfolding those
those_kept p [] = refl
those_kept p (x ∷ xs) = go (p x) (those_kept p xs)
  where
    go : (t : Bool) → filter p xs ≡ those p xs
        → cond t (x ∷ filter p xs) (filter p xs) ≡ elim t [ true ↦ x ∷ those p xs | false ↦ those p xs ]
    go true e = ap (λ (l : List ℕ). x ∷ l) e
    go false e = e

counted : (text : List ℕ) (offset : ℕ)
    → count_by (λ b. b == newline) (take offset text) ≡ newlines_before text offset
unfolding newlines_before
counted text offset =
    let p : ℕ → Bool = λ b. b == newline in
    sym (length-filter p (take offset text)) ∙ ap length (those_kept p (take offset text))

pub returns : goal.returns
returns c =
    the_line board c.args.text.now _ c.next_line.result c.next_line.ensures
    ∙ from_count board c.args.text.now c.args.offset _
    (c.newlines_before-lines.ensures ∙ counted c.args.text.now c.args.offset)
