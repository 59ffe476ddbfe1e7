-- One law for every entry that is lent a list (01, "Refusal numbers"): it refuses exactly in a listed case, and then
-- leaves what was lent; otherwise it answers and leaves what `model` says. What is needed of an entry is that its
-- answer is a count or a refusal, known by its values, and what its tests find.
use Prim.Native.Nat.{ℕ, ◌≤◌}
use Rattle.std.specs.Prelude.{Result, Ok, Err}
use mathlib.Core.Bool.{Bool, true, false}
use mathlib.Core.List.{List, [], ◌∷◌}
use mathlib.Core.Logic.{◌↔◌}
use mathlib.Core.Option.{Option, none, some, none-ne-some, some-injective}
use mathlib.Core.Path.{◌≡◌, refl, sym, ◌∙◌, ap}
use native.Mathlib.Omega.{arith}
use lib.Dec.{ltb}
use borrow.Author.Tests.{ltb-true, ltb-false, lt-ltb, le-ltb}
use Rattle.model.specs.Answers.{number_of, refusal_values, answer_values, refuse_if, first_refusal, too_short}
use Rattle.model.specs.Entries.{Outcome, outcome}
use Rattle.model.specs.declared.Refusal.{Refusal}
use Rattle.model.specs.declared.Refusal.TheVariants.{ListTooShort}
use Rattle.theory.proofs.Answers.{one_answer, one_refusal, number_range}
use Rattle.promises.specs.Outcome.{Meets, Listed, faulty, short, further, NoFurther, Refuses}

-- ---- answers

-- an answer is a count or a refusal, and is known by its values
pub record Answers (A : Type 0) : Type 0 where
  pub values : A → List ℕ
  pub done : ℕ → A
  pub refused : Refusal → A
  pub of_done : (n : ℕ) → values (done n) ≡ 0 ∷ n ∷ []
  pub of_refused : (r : Refusal) → values (refused r) ≡ refusal_values r
  pub one : (a b : A) → values a ≡ values b → a ≡ b

-- those of every entry that is lent a list
abbrev pub counts : Answers (Result ℕ Refusal)
counts = record {
  values = answer_values;
  done = Ok;
  refused = Err;
  of_done = λ n. refl;
  of_refused = λ r. refl;
  one = one_answer;
}

module _ {A : Type 0} (e : Answers A) where
  -- one count, one refusal, and no answer is both
  pub one_count : (m n : ℕ) → e.done m ≡ e.done n → m ≡ n
  one_count m n q = let z = sym (e.of_done m) ∙ ap e.values q ∙ e.of_done n in cc

  pub one_refused : (r s : Refusal) → e.refused r ≡ e.refused s → r ≡ s
  one_refused r s q =
      let z = sym (e.of_refused r) ∙ ap e.values q ∙ e.of_refused s in
      one_refusal r s (cc) (cc)

  pub not_both : (n : ℕ) (r : Refusal) → e.done n ≡ e.refused r → ⊥
  not_both n r q =
      let z = sym (e.of_done n) ∙ ap e.values q ∙ e.of_refused r in
      let y : 0 ≡ number_of r = cc in
      absurd (omega (arith, (number_range r).0))

-- ---- entries

-- What of an entry decides about its answer and what it leaves: its answers; the tests before and after that of the
-- room, and for what they refuse; the room that it has and needs; its count, what it leaves then, and what it was lent.
pub record Entry (A L Sound : Type 0) (Broken Further : Refusal → Type 0) : Type 0 where
  pub answers : Answers A
  pub fault : Option Refusal
  pub rest : List (Option Refusal)
  pub sound : (fault ≡ none) ↔ Sound
  pub broken : (r : Refusal) → (fault ≡ some r) ↔ Broken r
  pub beyond : Sound → (r : Refusal) → (first_refusal rest ≡ some r) ↔ Further r
  pub room : ℕ
  pub needed : ℕ
  pub count : ℕ
  pub new : L
  pub lent : L

-- no test comes after that of the room
pub none_after : (r : Refusal) → (first_refusal [] ≡ some r) ↔ NoFurther r
unfolding first_refusal
none_after r = (λ e. none-ne-some r e, λ b. absurd b)

module _ {A L Sound : Type 0} {Broken Further : Refusal → Type 0} (e : Entry A L Sound Broken Further) where
  abbrev pub tests : Option Refusal
  tests = first_refusal (e.fault ∷ too_short e.room e.needed ∷ e.rest)

  abbrev pub outcome_of : Outcome A L
  outcome_of = outcome e.answers.refused tests (e.answers.done e.count) e.new e.lent

  -- a listed case
  abbrev pub Case : Refusal → Type 0
  Case = Listed Sound Broken e.room e.needed Further

  -- none
  abbrev pub Passes : Type 0
  Passes = Sound × (e.needed ≤ e.room) × (first_refusal e.rest ≡ none)

  -- ---- what the tests find

  pub listed_exactly : (r : Refusal) → (tests ≡ some r) ↔ Case r
  unfolding first_refusal too_short refuse_if
  listed_exactly r = (to e.fault refl (ltb e.room e.needed) refl, from r)
    where
      to : (x : Option Refusal) → e.fault ≡ x → (y : Bool) → ltb e.room e.needed ≡ y
          → first_refusal (x ∷ refuse_if y (ListTooShort e.needed) ∷ e.rest) ≡ some r → Case r
      to (some s) f y g h = faulty r ((e.broken r).0 (f ∙ h))
      to none f true g h =
          let z : r ≡ ListTooShort e.needed = cc in
          rw z (short (e.sound.0 f) (ltb-true e.room e.needed g))
      to none f false g h =
          let s = e.sound.0 f in further r s (ltb-false e.room e.needed g) ((e.beyond s r).0 h)

      from : (r : Refusal) → Case r → tests ≡ some r
      from r (faulty s b) = rw ((e.broken s).1 b)
      from r (short s h) = rw (e.sound.1 s, lt-ltb e.room e.needed h)
      from r (further q s h b) = rw (e.sound.1 s, le-ltb e.room e.needed h, (e.beyond s q).1 b)

  pub passed_exactly : (tests ≡ none) ↔ Passes
  unfolding first_refusal too_short refuse_if
  passed_exactly = (to e.fault refl (ltb e.room e.needed) refl, from)
    where
      to : (x : Option Refusal) → e.fault ≡ x → (y : Bool) → ltb e.room e.needed ≡ y
          → first_refusal (x ∷ refuse_if y (ListTooShort e.needed) ∷ e.rest) ≡ none → Passes
      to (some s) f y g h = absurd (none-ne-some s (sym h))
      to none f true g h = absurd (none-ne-some (ListTooShort e.needed) (sym h))
      to none f false g h = (e.sound.0 f, ltb-false e.room e.needed g, h)

      from : Passes → tests ≡ none
      from h = rw (e.sound.1 h.0, le-ltb e.room e.needed h.1, h.2)

  -- ---- what is answered and left

  pub data Came (a : A) (left : L) : Type 0 where
    kept : (r : Refusal) → tests ≡ some r → a ≡ e.answers.refused r → left ≡ e.lent → Came a left
    passed : tests ≡ none → a ≡ e.answers.done e.count → left ≡ e.new → Came a left

  pub came : (a : A) (left : L) → Meets e.answers.values outcome_of a left → Came a left
  unfolding outcome
  came a left m = go tests refl
    where
      go : (x : Option Refusal) → tests ≡ x → Came a left
      go none h =
          passed h (e.answers.one a (e.answers.done e.count) (rw h at m.answers)) (rw h at m.leaves)
      go (some r) h =
          kept r h (e.answers.one a (e.answers.refused r) (rw h at m.answers)) (rw h at m.leaves)

  -- ---- the law

  module _ (a : A) (left : L) (m : Meets e.answers.values outcome_of a left) where
    pub refused_exactly : (r : Refusal) → (a ≡ e.answers.refused r) ↔ Case r
    refused_exactly r = (λ q. to q (came a left m), λ c. from ((listed_exactly r).1 c) (came a left m))
      where
        to : a ≡ e.answers.refused r → Came a left → Case r
        to q (kept s h f l) =
            (listed_exactly r).0 (h ∙ ap {B = Option Refusal} some (one_refused e.answers s r (sym f ∙ q)))
        to q (passed h f l) = absurd (not_both e.answers e.count r (sym f ∙ q))

        from : tests ≡ some r → Came a left → a ≡ e.answers.refused r
        from q (kept s h f l) = f ∙ ap e.answers.refused (some-injective s r (sym h ∙ q))
        from q (passed h f l) = absurd (none-ne-some r (sym h ∙ q))

    pub refused_leaves : (r : Refusal) → a ≡ e.answers.refused r → Refuses Case e.lent r left
    refused_leaves r q = record { listed = (refused_exactly r).0 q; leaves = go (came a left m) }
      where
        go : Came a left → left ≡ e.lent
        go (kept s h f l) = l
        go (passed h f l) = absurd (not_both e.answers e.count r (sym f ∙ q))

    pub done_exactly : ((n : ℕ) × (a ≡ e.answers.done n)) ↔ Passes
    done_exactly = (λ q. to q.0 q.1 (came a left m), λ p. from (passed_exactly.1 p) (came a left m))
      where
        to : (n : ℕ) → a ≡ e.answers.done n → Came a left → Passes
        to n q (kept s h f l) = absurd (not_both e.answers n s (sym q ∙ f))
        to n q (passed h f l) = passed_exactly.0 h

        from : tests ≡ none → Came a left → (n : ℕ) × (a ≡ e.answers.done n)
        from q (kept s h f l) = absurd (none-ne-some s (sym q ∙ h))
        from q (passed h f l) = (e.count, f)

    pub done_leaves : (n : ℕ) → a ≡ e.answers.done n → Passes × (n ≡ e.count) × (left ≡ e.new)
    done_leaves n q = go (came a left m)
      where
        go : Came a left → Passes × (n ≡ e.count) × (left ≡ e.new)
        go (kept s h f l) = absurd (not_both e.answers n s (sym q ∙ f))
        go (passed h f l) = (passed_exactly.0 h, one_count e.answers n e.count (sym q ∙ f), l)
