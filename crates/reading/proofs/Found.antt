-- 01, "Refusal numbers" (its order): what the lines that were gathered say of the text. Where the reader stops, an
-- earlier line's own fault decides over the refusal; where it comes to the end, the lines are the plan that the text
-- spells.
use Prim.Native.Nat.{ℕ, suc, ◌≤◌}
use mathlib.Core.Bool.{Bool, true, false, cond}
use mathlib.Core.List.{List, [], ◌∷◌, map}
use mathlib.Core.Option.{Option, none, some, get_or, none-ne-some}
use mathlib.Core.Path.{◌≡◌, refl, sym, ap}
use native.Mathlib.Omega.{arith}
use lib.Dec.{leb}
use lib.ListN.{length, take, drop, length-append}
use lib.Seq.{take_at}
use Rattle.std.specs.Prelude.{Result, Ok, Err}
use Rattle.model.specs.Answers.{first_refusal}
use Rattle.model.specs.Line.{Settings, is_line, line_number, max_lines}
use Rattle.model.specs.Lists.{over}
use Rattle.model.specs.Text.{packed_line, lines_of, spelt}
use Rattle.model.specs.WellFormed.{line_fault, first_fault}
use Rattle.model.specs.declared.Refusal.{Refusal}
use Rattle.model.specs.declared.Refusal.TheVariants.{Malformed, TooManyLines}
use Rattle.theory.proofs.Text.{number_in}
use Rattle.theory.proofs.Line.{zero_no_line}
use Rattle.lines.specs.Gathered.{handed_out, stops_with, gathered, GathersAs}
use Rattle.lines.specs.declared.Stopped.{Stopped}
use Rattle.lines.proofs.Gathering.{all_room, gathers_over}

fault_many : (S : Settings) (b : List ℕ) (l : ℕ) → leb max_lines (length b) ≡ true
    → line_fault S b l ≡ some TooManyLines
unfolding line_fault
fault_many S b l e = rw e

fault_malformed : (S : Settings) (b : List ℕ) (l : ℕ) → leb max_lines (length b) ≡ false → is_line S l ≡ false
    → line_fault S b l ≡ some (Malformed (line_number (length b)))
unfolding line_fault
fault_malformed S b l e f = rw (e, f)

-- the fault of the first line that has one: of those handed out, and then the refusal
pub first_found : (S : Settings) (b : List ℕ) (ls : List (List ℕ))
    → first_fault S b (map (number_in S) ls)
    ≡ first_refusal (first_fault S b (handed_out S (length b) ls) ∷ stops_with S (length b) ls ∷ [])
unfolding first_fault handed_out stops_with first_refusal
first_found S b [] = refl
first_found S b (l ∷ ls) =
    go (leb max_lines (length b)) refl (packed_line S l) refl (λ m. first_found S (m ∷ b) ls)
  where
    go : (t : Bool) → leb max_lines (length b) ≡ t → (o : Option ℕ) → packed_line S l ≡ o
        → ((m : ℕ) → first_fault S (m ∷ b) (map (number_in S) ls)
        ≡ first_refusal (first_fault S (m ∷ b) (handed_out S (suc (length b)) ls) ∷ stops_with S (suc (length b)) ls
        ∷ []))
        → first_fault S b (get_or o 0 ∷ map (number_in S) ls)
        ≡ first_refusal
        (first_fault S b (cond t [] (elim o [ none ↦ [] | some m ↦ m ∷ handed_out S (suc (length b)) ls ]))
        ∷ cond t (some TooManyLines)
        (elim o [ none ↦ some (Malformed (line_number (length b))) | some m ↦ stops_with S (suc (length b)) ls ])
        ∷ [])
    go true e o q ih = rw (fault_many S b (get_or o 0) e, first_fault)
    go false e none q ih = rw (fault_malformed S b 0 e (zero_no_line S), first_fault)
    go false e (some m) q ih = own (line_fault S b m) (ih m)
      where
        rest : Option Refusal
        rest = first_fault S (m ∷ b) (handed_out S (suc (length b)) ls)

        own : (f : Option Refusal)
            → first_fault S (m ∷ b) (map (number_in S) ls)
            ≡ first_refusal (rest ∷ stops_with S (suc (length b)) ls ∷ [])
            → elim f [ some r ↦ some r | none ↦ first_fault S (m ∷ b) (map (number_in S) ls) ]
            ≡ first_refusal (elim f [ some r ↦ some r | none ↦ rest ] ∷ stops_with S (suc (length b)) ls ∷ [])
        own none ih = ih
        own (some r) ih = refl

-- at the end, all lines were handed out
all_found : (S : Settings) (n : ℕ) (ls : List (List ℕ)) → stops_with S n ls ≡ none
    → handed_out S n ls ≡ map (number_in S) ls
unfolding handed_out stops_with
all_found S n [] e = refl
all_found S n (l ∷ ls) e = go (leb max_lines n) (packed_line S l) refl (all_found S (suc n) ls) e
  where
    go : (t : Bool) (o : Option ℕ) → packed_line S l ≡ o
        → (stops_with S (suc n) ls ≡ none → handed_out S (suc n) ls ≡ map (number_in S) ls)
        → cond t (some TooManyLines)
        (elim o [ none ↦ some (Malformed (line_number n)) | some m ↦ stops_with S (suc n) ls ]) ≡ none
        → cond t [] (elim o [ none ↦ [] | some m ↦ m ∷ handed_out S (suc n) ls ]) ≡ get_or o 0 ∷ map (number_in S) ls
    go true o q ih e = absurd (none-ne-some TooManyLines (sym e))
    go false none q ih e = absurd (none-ne-some (Malformed (line_number n)) (sym e))
    go false (some m) q ih e = rw (ih e)

pub all_spelt : (S : Settings) (text : List ℕ) → stops_with S 0 (lines_of text) ≡ none
    → handed_out S 0 (lines_of text) ≡ spelt S text
unfolding spelt
all_spelt S text e = all_found S 0 (lines_of text) e

-- ---- what the answer says of the list

-- its first n entries are the lines handed out
pub record Front (S : Settings) (text : List ℕ) (n : ℕ) (left : List ℕ) : Type 0 where
  pub within : n ≤ length left
  pub few : n ≤ max_lines
  pub lines : take n left ≡ handed_out S 0 (lines_of text)

module _ (S : Settings) (text lent left : List ℕ) (long : length lent ≡ max_lines) where
  abbrev out : List ℕ
  out = handed_out S 0 (lines_of text)

  front : (n : ℕ) (a : Result ℕ Stopped) → n ≡ length out → GathersAs S text lent a left → Front S text n left
  unfolding over
  front n a e g =
      let few = all_room S (lines_of text) in
      let l = gathers_over S text lent a left long g in
      record {
        within = rw (l, length-append) (omega arith);
        few = omega arith;
        lines = rw l (take_at out (drop (length out) lent) n (sym e));
      }

  pub stopped_front : (s : Stopped) → GathersAs S text lent (Err s) left
      → Front S text s.lines left × (stops_with S 0 (lines_of text) ≡ some s.refusal)
  unfolding gathered
  stopped_front s g = go (stops_with S 0 (lines_of text)) g.answers
    where
      go : (o : Option Refusal) → Err s ≡ gathered (length out) o
          → Front S text s.lines left × (o ≡ some s.refusal)
      go none e = cc
      go (some q) e =
          let same : s ≡ record { lines = length out; refusal = q } = cc in
          (front s.lines (Err s) (ap (λ (x : Stopped). x.lines) same) g, rw same)

  pub all_front : (n : ℕ) → GathersAs S text lent (Ok n) left
      → Front S text n left × (stops_with S 0 (lines_of text) ≡ none)
  unfolding gathered
  all_front n g = go (stops_with S 0 (lines_of text)) g.answers
    where
      go : (o : Option Refusal) → Ok n ≡ gathered (length out) o → Front S text n left × (o ≡ none)
      go none e = (front n (Ok n) (cc) g, refl)
      go (some q) e = cc
