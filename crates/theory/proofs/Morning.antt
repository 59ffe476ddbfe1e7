-- A plan of the morning is a case of one taken up at midday (02, request 5): no line is held, so every line is a step,
-- nothing is done before the first of them, there are no segments, only lasting takes keep a device, and held lines
-- hinder nothing. So what both readers take has one meaning: legal orders, order and verdict are those of 01.
use Prim.Native.Nat.{ℕ, zero, suc, ◌<◌}
use mathlib.Core.Bool.{Bool, true, false, not, ◌&&◌}
use mathlib.Core.List.{List, [], ◌∷◌, ◌++◌}
use mathlib.Core.Logic.{◌↔◌}
use mathlib.Core.Option.{Option, none, some}
use mathlib.Core.Path.{◌≡◌, refl, sym, ◌∙◌, ap, subst}
use lib.ListN.{length}
use Rattle.model.specs.Lists.{positions, any, has, those, first_of}
use Rattle.model.specs.Line.{is_held, at}
use Rattle.model.specs.Mate.{takes_at, held_at, device_at, held_lines, steps, lasting, keeps}
use Rattle.model.specs.WellFormed.{Rules}
use Rattle.model.specs.Legal.{Follow, Legal}
use Rattle.model.specs.Rows.{lasting_takes}
use Rattle.model.specs.Handed.{undone, closes_held, segment, unhindered, closing, segments_after, segments}
use Rattle.model.specs.Handed.{handed_after}
use Rattle.model.specs.Handed.{handed}
use Rattle.model.specs.Verdict.{keepers, takes_kept, stays_open, hindered}
use Rattle.theory.proofs.Tests.{clash, and_split, tests_agree}
use Rattle.theory.proofs.Lists.{has_none, has_head, has_tail, those_same, none_any, Answer, first_answer}
use Rattle.theory.proofs.Claims.{length_up_from}
use Rattle.theory.proofs.Grips.{grips_takes}
use Rattle.theory.proofs.Turns.{Between}
use Rattle.theory.proofs.LineByLine.{lines_after, turns_line_by_line}
use Rattle.theory.proofs.Places.{keeps_parts, keeps_lasting, lasting_keeps}

those_none : (f : ℕ → Bool) (xs : List ℕ) → ((k : ℕ) → has k xs ≡ true → f k ≡ false) → those f xs ≡ []
unfolding those
those_none f [] h = refl
those_none f (x ∷ xs) h = rw (h x (has_head x xs), those) (those_none f xs (λ k m. h k (has_tail k x xs m)))

those_all : (f : ℕ → Bool) (xs : List ℕ) → ((k : ℕ) → has k xs ≡ true → f k ≡ true) → those f xs ≡ xs
unfolding those
those_all f [] h = refl
those_all f (x ∷ xs) h =
    rw (h x (has_head x xs), those) (ap {B = List ℕ} (λ ys. x ∷ ys) (those_all f xs (λ k m. h k (has_tail k x xs m))))

module _ (p : List ℕ) (unheld : (i : ℕ) → is_held (at p i) ≡ false) where
  no_held : (i : ℕ) → held_at p i ≡ false
  unfolding held_at
  no_held i = unheld i

  pub no_held_lines : held_lines p ≡ []
  unfolding held_lines
  no_held_lines = those_none (held_at p) (positions p) (λ k m. no_held k)

  pub all_steps : length (steps p) ≡ length p
  unfolding steps positions
  all_steps =
      ap length (those_all (λ i. not (held_at p i)) (positions p) (λ k m. rw (no_held k)))
      ∙ length_up_from 0 (length p)

  none_closes : (m : ℕ) → closes_held p m ≡ false
  unfolding closes_held any
  none_closes m = rw no_held_lines

  none_after : (n : ℕ) (done : List ℕ) → segments_after n p done ≡ []
  unfolding segments_after closing
  none_after zero done = refl
  none_after (suc n) done = go (first_of can (undone p done)) (first_answer can (undone p done))
    where
      can : ℕ → Bool
      can m = closes_held p m && unhindered p done (segment p (undone p done) m)

      go : (o : Option ℕ) → Answer can (undone p done) o
          → ◌≡◌ {A = List ℕ} (elim o [
            | none ↦ []
            | some m ↦ segment p (undone p done) m
                ++ segments_after n p (done ++ segment p (undone p done) m)
          ]) []
      go none a = refl
      go (some m) a =
          clash (closes_held p m)
          (and_split (closes_held p m) (unhindered p done (segment p (undone p done) m)) a.1).0 (none_closes m)

  -- the order is that of 01's turns
  pub handed_turns : handed p ≡ handed_after (length p) p []
  unfolding handed segments
  handed_turns = rw (none_after (length p) (held_lines p), no_held_lines)

  -- and line by line that of the choices among the lines that stand next
  pub handed_line_by_line : Rules p → handed p ≡ lines_after (length p) p []
  handed_line_by_line rules = handed_turns ∙ turns_line_by_line p rules [] nothing_done
    where
      nothing_done : Between p []
      nothing_done = record {
        begun = λ k h. clash (held_at p k) h (no_held k);
        closed = λ k i h e b. has_none i e;
        given = λ k d e t. has_none k e;
      }

  -- a legal order goes from nothing done and has every line
  pub legal_from_nothing : (o : List ℕ) → Legal p o ↔ (Follow p [] o × ((i : ℕ) → i < length p → has i o ≡ true))
  legal_from_nothing o = (
    λ l. (subst (λ (d : List ℕ). Follow p d o) no_held_lines l.steps, λ i h. l.whole i h (no_held i)),
    λ l. record {
      steps = subst (λ (d : List ℕ). Follow p d o) (sym no_held_lines) l.0;
      whole = λ i h n. l.1 i h;
    },
  )

  -- what keeps a device is a lasting take
  pub keeps_is : (i d : ℕ) → keeps p i d ≡ lasting p i d
  keeps_is i d =
      tests_agree (keeps p i d) (lasting p i d)
      (λ k. keeps_lasting p i d (grips_takes p i d (no_held i) (keeps_parts p i d k).0) k) (lasting_keeps p i d)

  pub keepers_lasting : (d : ℕ) → keepers p d ≡ lasting_takes p d
  unfolding keepers lasting_takes
  keepers_lasting d = those_same (λ i. keeps p i d) (λ i. lasting p i d) (positions p) (λ i m. keeps_is i d)

  -- 9 and 10 are those of 01: held lines hinder nothing
  pub none_hindered : (D : ℕ) → hindered D p ≡ none
  unfolding hindered takes_kept stays_open any
  none_hindered D =
      rw (
        none_any (λ i. takes_at p i && any (λ h. keeps p h (device_at p i)) (held_lines p)) (positions p)
            (λ i m. free i),
        none_any (closes_held p) (undone p (held_lines p ++ segments p)) (λ m h. none_closes m),
      )
    where
      free : (i : ℕ) → (takes_at p i && any (λ h. keeps p h (device_at p i)) (held_lines p)) ≡ false
      free i = rw no_held_lines (go (takes_at p i))
        where
          go : (b : Bool) → (b && false) ≡ false
          go true = refl
          go false = refl
