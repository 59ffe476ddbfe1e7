-- What the functions of this crate promise leaves one outcome per input (01, "How tight the statements are"): any two
-- that satisfy it are equal. A reader is its text and its offset, so that two with both the same are one.
use Prim.Native.Nat.{ℕ}
use mathlib.Core.List.{List}
use mathlib.Core.Path.{◌≡◌, ◌∙◌, ap}
use denote.Ref.{Bor}
use Rattle.model.specs.Board.{board}
use Rattle.model.specs.Text.{line_from}
use Rattle.model.specs.declared.LineAnswer.{LineAnswer}
use Rattle.reader.specs.declared.Reader.{Reader}

same_reader : (a b : Reader) → a.text ≡ b.text → a.offset ≡ b.offset → a ≡ b
same_reader a b p q =
    ap {B = Reader} (λ (t : Bor (List ℕ)). record { text = t; offset = a.offset }) p
    ∙ ap {B = Reader} (λ (o : ℕ). record { text = b.text; offset = o }) q

pub one_new : (text : Bor (List ℕ)) (a b : Reader) → (a.text ≡ text) × (a.offset ≡ 0)
    → (b.text ≡ text) × (b.offset ≡ 0) → a ≡ b
one_new text a b p q = same_reader a b (cc) (cc)

pub one_moved : (r : Reader) (offset : ℕ) (a b : Reader) → (a.text ≡ r.text) × (a.offset ≡ offset)
    → (b.text ≡ r.text) × (b.offset ≡ offset) → a ≡ b
one_moved r offset a b p q = same_reader a b (cc) (cc)

pub one_next : (r : Reader) (a b : LineAnswer) → a ≡ line_from board r.text.now r.offset
    → b ≡ line_from board r.text.now r.offset → a ≡ b
one_next r a b p q = cc

pub one_line : (text : List ℕ) (offset : ℕ) (a b : LineAnswer) → a ≡ line_from board text offset
    → b ≡ line_from board text offset → a ≡ b
one_line text offset a b p q = cc
