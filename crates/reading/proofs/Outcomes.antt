-- 01, "Refusal numbers" (its order): which outcome of reading the tests on the way pick.
use Prim.Native.Nat.{ℕ, ◌≤◌, ◌<◌}
use Rattle.std.specs.Prelude.{Result, Ok, Err}
use mathlib.Core.Bool.{cond}
use mathlib.Core.List.{List, [], ◌∷◌}
use mathlib.Core.Option.{Option, none, some, get_or}
use mathlib.Core.Path.{◌≡◌, refl, ◌∙◌}
use lib.ListN.{length}
use borrow.Author.Tests.{lt-ltb, le-ltb}
use Rattle.model.specs.Answers.{first_refusal, refuse_if, too_short}
use Rattle.model.specs.Entries.{text_fault, reading}
use Rattle.model.specs.Line.{Settings, max_bytes}
use Rattle.model.specs.Lists.{over}
use Rattle.model.specs.Text.{lines_of, spelt}
use Rattle.model.specs.WellFormed.{first_fault, empty_start, never_started, fault}
use Rattle.model.specs.declared.Refusal.{Refusal}
use Rattle.model.specs.declared.Refusal.TheVariants.{TextTooLong, ListTooShort}
use Rattle.promises.specs.Text.{ReadsAs}
use Rattle.promises.proofs.Tight.{by_refusal, by_none}
use Rattle.lines.specs.Gathered.{handed_out, stops_with}
use Rattle.reading.specs.Kept.{KeepsAs}
use Rattle.reading.proofs.Found.{first_found, all_spelt}

-- ---- the lines kept

module _ (S : Settings) (lines lent : List ℕ) where
  tests : Option Refusal
  tests = first_refusal (fault S lines ∷ too_short (length lent) (length lines) ∷ [])

  -- 2 to 7
  pub keeps_fault : (r : Refusal) → fault S lines ≡ some r → KeepsAs S lines lent (Err r) lent
  unfolding tests first_refusal
  keeps_fault r e =
      by_refusal Err (Ok (length lines)) (over lines lent) lent tests r (rw e)

  module _ (e : fault S lines ≡ none) where
    -- 11
    pub keeps_short : length lent < length lines
        → KeepsAs S lines lent (Err (ListTooShort (length lines))) lent
    unfolding tests first_refusal too_short refuse_if
    keeps_short h =
        by_refusal Err (Ok (length lines)) (over lines lent) lent tests
        (ListTooShort (length lines)) (rw (e, lt-ltb (length lent) (length lines) h))

    -- the plan
    pub keeps_all : (left : List ℕ) → length lines ≤ length lent → left ≡ over lines lent
        → KeepsAs S lines lent (Ok (length lines)) left
    unfolding tests first_refusal too_short refuse_if
    keeps_all left h l =
        by_none Err (Ok (length lines)) (over lines lent) lent tests left
        (rw (e, le-ltb (length lent) (length lines) h)) l

-- ---- the text read

module _ (S : Settings) (text lent : List ℕ) where
  refused : (r : Refusal) → text_fault S text ≡ some r → ReadsAs S text lent (Err r) lent
  unfolding reading first_refusal
  refused r e =
      let p : List ℕ = spelt S text in
      by_refusal Err (Ok (length p)) (over p lent) lent
      (first_refusal (text_fault S text ∷ too_short (length lent) (length p) ∷ [])) r (rw e)

  -- 1
  pub reads_long : max_bytes < length text → ReadsAs S text lent (Err TextTooLong) lent
  unfolding text_fault refuse_if first_refusal
  reads_long h = refused TextTooLong (rw (lt-ltb max_bytes (length text) h))

  module _ (short : length text ≤ max_bytes) where
    plan_fault : text_fault S text ≡ fault S (spelt S text)
    unfolding text_fault refuse_if first_refusal
    plan_fault = rw (le-ltb max_bytes (length text) short) (only (fault S (spelt S text)))
      where
        only : (o : Option Refusal) → first_refusal (o ∷ []) ≡ o
        only none = refl
        only (some r) = refl

    -- the reader stopped: a fault of a line before decides, or, if there is none, the refusal
    module _ (r : Refusal) (e : stops_with S 0 (lines_of text) ≡ some r) where
      stopped_fault : text_fault S text ≡ some (get_or (first_fault S [] (handed_out S 0 (lines_of text))) r)
      unfolding fault spelt first_refusal
      stopped_fault =
          plan_fault
          ∙ rw (first_found S [] (lines_of text), e) (go (first_fault S [] (handed_out S 0 (lines_of text))))
        where
          go : (o : Option Refusal)
              → first_refusal
              (first_refusal (o ∷ some r ∷ []) ∷ empty_start (spelt S text)
              ∷ cond S.midday none (never_started (spelt S text)) ∷ [])
              ≡ some (get_or o r)
          go none = refl
          go (some q) = refl

      pub reads_fault : (q : Refusal) → first_fault S [] (handed_out S 0 (lines_of text)) ≡ some q
          → ReadsAs S text lent (Err q) lent
      reads_fault q f = refused q (rw f at stopped_fault)

      pub reads_stopped : first_fault S [] (handed_out S 0 (lines_of text)) ≡ none → ReadsAs S text lent (Err r) lent
      reads_stopped f = refused r (rw f at stopped_fault)

    -- it came to the end
    pub reads_kept : stops_with S 0 (lines_of text) ≡ none → (a : Result ℕ Refusal) (left : List ℕ)
        → KeepsAs S (handed_out S 0 (lines_of text)) lent a left → ReadsAs S text lent a left
    unfolding reading
    reads_kept e a left k = rw plan_fault (rw (all_spelt S text e) at k)
