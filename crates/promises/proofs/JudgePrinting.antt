-- What the program `judge` prints for a text says what it found (02, request 1): `legal` exactly if the plan is one
-- without a fault and the entries are a legal order of it, and the line of a refusal exactly if that is what is wrong;
-- for a refusal is known by its line. Its promise, that these bytes and no others are written, stands with its code.
use Prim.Native.Nat.{ℕ}
use mathlib.Core.Bool.{false}
use mathlib.Core.List.{List, [], ◌∷◌, ◌++◌, drop_last}
use mathlib.Core.Logic.{◌↔◌}
use mathlib.Core.Option.{Option, none, some, some-injective}
use mathlib.Core.Path.{◌≡◌, refl, sym, ◌∙◌, ap}
use native.Mathlib.Omega.{arith}
use lib.ListN.{get_or}
use Rattle.model.specs.Lists.{has}
use Rattle.model.specs.Line.{Settings}
use Rattle.model.specs.Answers.{number_of, place_of}
use Rattle.model.specs.Text.{tab, newline, number, decimal, is_digit, fields_of, tabbed}
use Rattle.model.specs.Printed.{refused_word, printed_line, printed_refusal}
use Rattle.model.specs.Judged.{judged_by, judge_text_refusal, legal_line, judge_line, judge_printed}
use Rattle.model.specs.declared.Refusal.{Refusal}
use Rattle.theory.specs.Judged.{TextPasses, TextWrong}
use Rattle.theory.proofs.Answers.{one_refusal}
use Rattle.theory.proofs.Numbers.{decimal_digits, no_digit, number_decimal}
use Rattle.theory.proofs.Fields.{has_neither, field_first, field_last, before_last}
use Rattle.theory.proofs.JudgedText.{text_passes_exactly, text_refused_exactly}

-- ---- a refusal is known by its line

no_tab : (n : ℕ) → has tab (decimal n) ≡ false
unfolding is_digit
no_tab n = no_digit tab refl (decimal n) (decimal_digits n)

fields_of_lem : (r : Refusal) → fields_of (printed_refusal r)
    ≡ refused_word ∷ decimal (number_of r) ∷ (decimal (place_of r) ++ (newline ∷ [])) ∷ []
unfolding printed_refusal printed_line tabbed refused_word has
fields_of_lem r =
    field_first refused_word _ refl
    ∙ ap {B = List (List ℕ)} (λ fs. refused_word ∷ fs)
    (field_first (decimal (number_of r)) _ (no_tab (number_of r))
    ∙ ap {B = List (List ℕ)} (λ fs. decimal (number_of r) ∷ fs)
    (field_last (decimal (place_of r) ++ (newline ∷ []))
    (has_neither tab (decimal (place_of r)) (newline ∷ []) (no_tab (place_of r)) refl)))

same_number : (m n : ℕ) → decimal m ≡ decimal n → m ≡ n
same_number m n e = some-injective m n (sym (number_decimal m) ∙ ap number e ∙ number_decimal n)

pub one_line_each : (r s : Refusal) → printed_refusal r ≡ printed_refusal s → r ≡ s
one_line_each r s e =
    let f = sym (fields_of_lem r) ∙ ap fields_of e ∙ fields_of_lem s in
    let place = ap (λ (fs : List (List ℕ)). drop_last (get_or fs 2 [])) f in
    one_refusal r s (same_number _ _ (ap (λ (fs : List (List ℕ)). get_or fs 1 []) f))
    (same_number _ _ (sym (before_last _ newline) ∙ place ∙ before_last _ newline))

-- and none of these is the line of a legal order: their first bytes differ
not_legal : (r : Refusal) → legal_line ≡ printed_refusal r → ⊥
unfolding legal_line printed_refusal printed_line tabbed refused_word
not_legal r e = let z : ◌≡◌ {A = ℕ} 108 114 = ap (λ (l : List ℕ). get_or l 0 0) e in absurd (omega arith)

-- ---- what is printed

module _ (S : Settings) (text : List ℕ) where
  legal_line_lem : (o : Option Refusal) → judge_line (judged_by o) ≡ legal_line → o ≡ none
  unfolding judge_line judged_by
  legal_line_lem none e = refl
  legal_line_lem (some r) e = absurd (not_legal r (sym e))

  refused_line : (o : Option Refusal) (r : Refusal) → judge_line (judged_by o) ≡ printed_refusal r → o ≡ some r
  unfolding judge_line judged_by
  refused_line none r e = absurd (not_legal r e)
  refused_line (some s) r e = ap {B = Option Refusal} some (one_line_each s r e)

  pub legal_printed_exactly : (judge_printed S text ≡ legal_line) ↔ TextPasses S text
  unfolding judge_printed judge_line judged_by
  legal_printed_exactly = (
    λ e. (text_passes_exactly S text).0 (legal_line_lem (judge_text_refusal S text) e),
    λ t. rw ((text_passes_exactly S text).1 t),
  )

  pub refusal_printed_exactly : (r : Refusal)
      → (judge_printed S text ≡ printed_refusal r) ↔ TextWrong S text r
  unfolding judge_printed judge_line judged_by
  refusal_printed_exactly r = (
    λ e. (text_refused_exactly S text r).0 (refused_line (judge_text_refusal S text) r e),
    λ w. rw ((text_refused_exactly S text r).1 w),
  )
