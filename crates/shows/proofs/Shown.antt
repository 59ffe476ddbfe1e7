-- 01, "Plans with their verdicts", its last part: a line put from its end. Where what stands behind a word fits, the
-- word is put in front of it, and both are there as if put at once; where it does not fit, the line does not.
use Prim.Native.Nat.{ℕ, ◌+◌, ◌≤◌, ◌<◌}
use mathlib.Core.List.{List, ◌++◌, append_assoc}
use mathlib.Core.Path.{◌≡◌, sym, ◌∙◌, ap}
use native.Mathlib.Omega.{arith}
use lib.ListN.{length, take, drop, length-append}
use lib.Seq.{length-take-le, drop_at}
use Rattle.model.specs.Answers.{refusal_values}
use Rattle.model.specs.Lists.{over}
use Rattle.model.specs.Printed.{refused_word, printed_refusal}
use Rattle.model.specs.declared.Refusal.{Refusal}
use Rattle.fields.specs.Puts.{PutsAs, place_after, values_text}
use Rattle.fields.proofs.Putting.{fitted, kept, moves, put, unput, unfitted, put_at_start}
use Rattle.fields.proofs.Pieces.{printed_line_lem}

put_before : (word more : List ℕ) {old : List ℕ} {past : ℕ} {mid : List ℕ} {q : ℕ} {made : List ℕ}
    → PutsAs more (length word) old past mid → past ≤ length old → PutsAs word 0 mid q made
    → PutsAs (word ++ more) 0 old past made
unfolding over
put_before word more {old} {past} {mid} x h y =
    let n = length word in
    let rest = drop (n + length more) old in
    let both : length (word ++ more) ≡ n + length more = length-append word more in
    let none : 0 + (n + length more) ≡ n + length more = omega arith in
    let f = fitted x h in
    let w = put_at_start y (omega (arith, f.room, kept x, moves y (omega (arith, f.room, kept x)))) in
    let behind : drop n mid ≡ more ++ rest =
    rw (f.leaves, append_assoc (take n old) more rest)
    (drop_at (take n old) (more ++ rest) n (length-take-le n old (omega (arith, f.room)))) in
    put (record {
      room = omega (arith, f.room);
      moved = omega (arith, f.moved);
      leaves = w.1 ∙ ap (λ (l : List ℕ). word ++ l) behind ∙ rw (both, none) (sym (append_assoc word more rest));
    })

-- a place past depends on where the bytes end alone
same_place : (room at count from long : ℕ) → at + count ≡ from + long
    → place_after room at count ≡ place_after room from long
unfolding place_after
same_place room at count from long e = rw e

-- a refusal's line
module _ (r : Refusal) {values old : List ℕ} {past : ℕ} {mid : List ℕ} (e : values ≡ refusal_values r)
    (x : PutsAs (values_text values) (length refused_word) old past mid) where
  whole : printed_refusal r ≡ refused_word ++ values_text values
  unfolding printed_refusal
  whole = rw e (printed_line_lem (refusal_values r) refused_word)

  pub refusal_shown : past ≤ length old → {q : ℕ} {made : List ℕ} → PutsAs refused_word 0 mid q made
      → PutsAs (printed_refusal r) 0 old past made
  refusal_shown h y = rw whole (put_before refused_word (values_text values) x h y)

  pub no_room : length old < past → PutsAs (printed_refusal r) 0 old past mid
  no_room h =
      let n = length refused_word in
      let more = values_text values in
      rw (whole, (unfitted x h).1)
      (unput
      (x.answers
      ∙ same_place (length old) n (length more) 0 (length (refused_word ++ more))
      (omega (arith, length-append refused_word more)))
      h)
