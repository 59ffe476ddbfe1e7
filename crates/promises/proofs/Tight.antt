-- A promise leaves one outcome per input (01, "How tight the statements are"): any two that meet it are equal, in the
-- answer and in what is left. It is enough that answers with the same values are the same, which `theory/Answers` has
-- of each enum. Then how a promise is met, and handed on as one number.
use Prim.Native.Nat.{ℕ}
use Rattle.std.specs.Prelude.{Result}
use mathlib.Core.List.{List}
use mathlib.Core.Option.{Option, none, some}
use mathlib.Core.Path.{◌≡◌, refl, sym, ◌∙◌, ap}
use Rattle.model.specs.Board.{devices}
use Rattle.model.specs.Line.{Settings}
use Rattle.model.specs.Answers.{answer_values, judge_values}
use Rattle.model.specs.Text.{next_line}
use Rattle.model.specs.Entries.{Outcome, outcome}
use Rattle.model.specs.Kept.{quick}
use Rattle.model.specs.Judged.{judging}
use Rattle.model.specs.declared.Refusal.{Refusal}
use Rattle.model.specs.declared.Cursor.{Cursor}
use Rattle.model.specs.declared.LineAnswer.{LineAnswer}
use Rattle.theory.proofs.Answers.{one_line_answer, one_answer, one_judge_answer}
use Rattle.model.specs.InOne.{in_one}
use Rattle.promises.specs.Outcome.{Meets, MeetsInOne}
use Rattle.promises.specs.Text.{HandsOutAs}
use Rattle.promises.specs.Screen.{ScreensAs}
use Rattle.promises.specs.Judge.{JudgesAs}
use Rattle.promises.specs.Kept.{QuickAs}
use Rattle.promises.specs.ForC.{HandsOutForC, QuickForC, JudgesForC}

-- an answer handed on as one number
handed_on : {A : Type 0} (values : A → List ℕ) {a b : A} {vs : List ℕ} {n : ℕ} → values a ≡ vs → a ≡ b
    → n ≡ in_one (values b) → n ≡ in_one vs
handed_on values x e m = m ∙ ap in_one (ap values (sym e) ∙ x)

module _ {A L : Type 0} {values : A → List ℕ} {o : Outcome A L} where
  -- what has the outcome's answer and leaves its lists meets the promise
  pub meets : {a : A} {left : L} → a ≡ o.answer → left ≡ o.left → Meets values o a left
  meets e f = record { answers = ap values e; leaves = f }

  -- one outcome meets it
  pub one_outcome : ((a b : A) → values a ≡ values b → a ≡ b) → (a b : A) (left other : L) → Meets values o a left
      → Meets values o b other → (a ≡ b) × (left ≡ other)
  one_outcome same a b left other x y = (same a b (x.answers ∙ sym y.answers), x.leaves ∙ sym y.leaves)

  -- and it is that of `model`
  pub the_outcome : ((a b : A) → values a ≡ values b → a ≡ b) → (a : A) (left : L) → Meets values o a left
      → (a ≡ o.answer) × (left ≡ o.left)
  the_outcome same a left x = one_outcome same a o.answer left o.left x (meets refl refl)

  -- and so does its number, handed on
  pub in_one_lem : {a b : A} {left : L} {n : ℕ} → Meets values o a left → a ≡ b → n ≡ in_one (values b)
      → MeetsInOne values o n left
  in_one_lem x e m = record { answers = handed_on values x.answers e m; leaves = x.leaves }

  pub one_in_one : (m n : ℕ) (left other : L) → MeetsInOne values o m left → MeetsInOne values o n other
      → (m ≡ n) × (left ≡ other)
  one_in_one m n left other x y = (x.answers ∙ sym y.answers, x.leaves ∙ sym y.leaves)

-- ---- met by what the tests of an entry answer

module _ {A L : Type 0} {values : A → List ℕ} (refused : Refusal → A) (a : A) (new lent : L) where
  pub by_refusal : (tests : Option Refusal) (r : Refusal) → tests ≡ some r
      → Meets values (outcome refused tests a new lent) (refused r) lent
  unfolding outcome
  by_refusal tests r e = rw e (meets refl refl)

  pub by_none : (tests : Option Refusal) (left : L) → tests ≡ none → left ≡ new
      → Meets values (outcome refused tests a new lent) a left
  unfolding outcome
  by_none tests left e f = rw e (meets refl f)

-- ---- the line reader, the judge, the quick verdict and the screens' entry

pub one_line : (S : Settings) (text : List ℕ) (c : Cursor) (a b : LineAnswer) → HandsOutAs S text c a
    → HandsOutAs S text c b → a ≡ b
one_line S text c a b x y = one_line_answer a b (x.answers ∙ sym y.answers)

pub the_line : (S : Settings) (text : List ℕ) (c : Cursor) (a : LineAnswer) → HandsOutAs S text c a
    → a ≡ next_line S text c
the_line S text c a x = one_line_answer a (next_line S text c) x.answers

pub one_line_in_one : (S : Settings) (text : List ℕ) (offset a b : ℕ) → HandsOutForC S text offset a
    → HandsOutForC S text offset b → a ≡ b
one_line_in_one S text offset a b p q = cc

pub one_judgement : (S : Settings) (plan entries : List ℕ) (a b : Result (Unit {0}) Refusal) → JudgesAs S plan entries a
    → JudgesAs S plan entries b → a ≡ b
one_judgement S plan entries a b x y = one_judge_answer a b (x.answers ∙ sym y.answers)

pub the_judgement : (S : Settings) (plan entries : List ℕ) (a : Result (Unit {0}) Refusal) → JudgesAs S plan entries a
    → a ≡ judging S plan entries
the_judgement S plan entries a x = one_judge_answer a (judging S plan entries) x.answers

-- handed on as one number
pub judged_in_one : {S : Settings} {plan entries : List ℕ} {a b : Result (Unit {0}) Refusal} {n : ℕ}
    → JudgesAs S plan entries a → a ≡ b → n ≡ in_one (judge_values b) → JudgesForC S plan entries n
judged_in_one x e m = record { answers = handed_on judge_values x.answers e m }

pub one_judgement_in_one : (S : Settings) (plan entries : List ℕ) (a b : ℕ) → JudgesForC S plan entries a
    → JudgesForC S plan entries b → a ≡ b
one_judgement_in_one S plan entries a b p q = cc

pub one_quick : (plan rs : List ℕ) (a b : Result ℕ Refusal) → QuickAs plan rs a → QuickAs plan rs b → a ≡ b
one_quick plan rs a b x y = one_answer a b (x.answers ∙ sym y.answers)

pub the_quick : (plan rs : List ℕ) (a : Result ℕ Refusal) → QuickAs plan rs a → a ≡ quick devices plan rs
the_quick plan rs a x = one_answer a (quick devices plan rs) x.answers

pub quick_in_one : {plan rs : List ℕ} {a b : Result ℕ Refusal} {n : ℕ} → QuickAs plan rs a → a ≡ b
    → n ≡ in_one (answer_values b) → QuickForC plan rs n
quick_in_one x e m = record { answers = handed_on answer_values x.answers e m }

pub one_quick_in_one : (plan rs : List ℕ) (a b : ℕ) → QuickForC plan rs a → QuickForC plan rs b → a ≡ b
one_quick_in_one plan rs a b p q = cc

pub one_screen : (S : Settings) (text lent : List ℕ) (m n : ℕ) (left other : List ℕ) → ScreensAs S text lent m left
    → ScreensAs S text lent n other → (m ≡ n) × (left ≡ other)
one_screen S text lent m n left other p q = (cc, cc)
