-- 01, "The plan as text" (the line reader, asked again and again): the lines of a text gathered. After n of them the
-- reader stands past just these, and their numbers stand in front of the lent list. Then that a promise of `gather`
-- leaves one outcome per input.
use Prim.Native.Nat.{ℕ, suc, ◌+◌, ◌≤◌, ◌<◌}
use mathlib.Core.Bool.{Bool, true, false, cond}
use mathlib.Core.List.{List, [], ◌∷◌, ◌++◌, append_assoc, append-nil}
use mathlib.Core.Option.{Option, none, some}
use mathlib.Core.Path.{◌≡◌, refl, sym, ◌∙◌, ap, subst}
use native.Mathlib.Numerals.{add-one}
use native.Mathlib.Omega.{arith}
use lib.Dec.{leb}
use lib.ListN.{length, drop, set, length-append}
use lib.Seq.{drop-drop, sets, sets-eq}
use borrow.Author.Tests.{leb-false}
use Rattle.std.specs.Prelude.{Result, Ok, Err}
use Rattle.model.specs.Line.{Settings, line_number, max_lines}
use Rattle.model.specs.Lists.{over}
use Rattle.model.specs.Text.{lines_of, packed_line, handed_line}
use Rattle.model.specs.declared.Refusal.{Refusal}
use Rattle.model.specs.declared.Refusal.TheVariants.{Malformed, TooManyLines}
use Rattle.model.specs.declared.Cursor.{Cursor}
use Rattle.model.specs.declared.LineAnswer.{LineAnswer}
use Rattle.theory.proofs.Fields.{lines_past}
use Rattle.lines.specs.Lines.{handed_at}
use Rattle.lines.specs.Gathered.{handed_out, stops_with, gathered, GathersAs}
use Rattle.lines.specs.declared.Stopped.{Stopped}

-- ---- one answer of the reader

-- at the lines that stand at place i, after n others
data Step (S : Settings) (n i : ℕ) : List (List ℕ) → LineAnswer → Type 0 where
  ended : Step S n i [] LineAnswer.End
  refused : (l : List ℕ) (ls : List (List ℕ)) (r : Refusal) → handed_out S n (l ∷ ls) ≡ []
      → stops_with S n (l ∷ ls) ≡ some r → Step S n i (l ∷ ls) (LineAnswer.Refused r)
  line : (l : List ℕ) (ls : List (List ℕ)) (m : ℕ) → n < max_lines
      → handed_out S n (l ∷ ls) ≡ m ∷ handed_out S (suc n) ls
      → stops_with S n (l ∷ ls) ≡ stops_with S (suc n) ls
      → Step S n i (l ∷ ls) (LineAnswer.Line m (record { offset = i + length l; lines = suc n }))

step : (S : Settings) (n i : ℕ) (ls : List (List ℕ))
    → Step S n i ls (handed_line S (record { offset = i; lines = n }) ls)
unfolding handed_line handed_out stops_with
step S n i [] = ended
step S n i (l ∷ ls) = go (leb max_lines n) refl (packed_line S l) refl
  where
    go : (t : Bool) → leb max_lines n ≡ t → (o : Option ℕ) → packed_line S l ≡ o
        → Step S n i (l ∷ ls)
        (cond t (LineAnswer.Refused TooManyLines)
        (elim o [
          | none ↦ LineAnswer.Refused (Malformed (line_number n))
          | some m ↦ LineAnswer.Line m (record { offset = i + length l; lines = suc n })
        ]))
    go true e o q = refused l ls TooManyLines (rw e) (rw e)
    go false e none q = refused l ls (Malformed (line_number n)) (rw (e, q)) (rw (e, q))
    go false e (some m) q = line l ls m (leb-false max_lines n e) (rw (e, q)) (rw (e, q))

-- ---- n lines are past

pub record Past (S : Settings) (text lent : List ℕ) (offset n : ℕ) (lines : List ℕ) : Type 0 where
  pub passed : List ℕ
  pub count : n ≡ length passed
  pub few : n ≤ max_lines
  pub out : handed_out S 0 (lines_of text) ≡ passed ++ handed_out S n (lines_of (drop offset text))
  pub stop : stops_with S 0 (lines_of text) ≡ stops_with S n (lines_of (drop offset text))
  pub written : lines ≡ sets lent 0 passed

pub none_past : (S : Settings) (text lent : List ℕ) → Past S text lent 0 0 lent
none_past S text lent = record { passed = []; count = refl; few = omega arith; out = refl; stop = refl; written = refl }

sets_more : (l xs : List ℕ) (k v : ℕ) → set (sets l k xs) (k + length xs) v ≡ sets l k (xs ++ (v ∷ []))
sets_more l [] k v = ap (λ (i : ℕ). set l i v) (omega arith)
sets_more l (x ∷ xs) k v =
    let e : k + suc (length xs) ≡ suc k + length xs = omega arith in rw e (sets_more (set l k x) xs (suc k) v)

module _ (S : Settings) (text lent : List ℕ) (i n : ℕ) (lines : List ℕ) (p : Past S text lent i n lines) where
  -- one line more
  pub line_more : (m : ℕ) (c : Cursor) → handed_at S text i n ≡ LineAnswer.Line m c
      → (n < max_lines) × (c.lines ≡ n + 1) × Past S text lent c.offset c.lines (set lines n m)
  line_more m c q = go (lines_of (drop i text)) refl m c (rw q at (step S n i (lines_of (drop i text))))
    where
      go : (ls : List (List ℕ)) → lines_of (drop i text) ≡ ls → (m : ℕ) (c : Cursor)
          → Step S n i ls (LineAnswer.Line m c)
          → (n < max_lines) × (c.lines ≡ n + 1) × Past S text lent c.offset c.lines (set lines n m)
      go _ e _ _ (line l ls m h out stop) =
          let q : lines_of (drop (i + length l) text) ≡ ls =
          subst (λ (s : List ℕ). lines_of s ≡ ls) (drop-drop (length l) i text) (lines_past (drop i text) l ls e) in
          let k : n ≡ 0 + length p.passed = omega (arith, p.count) in (
            h,
            sym (add-one n),
            record {
              passed = p.passed ++ (m ∷ []);
              count = rw length-append (omega (arith, p.count));
              few = omega arith;
              out =
                  rw (q, append_assoc)
                  (p.out ∙ ap (λ (x : List ℕ). p.passed ++ x) (ap (handed_out S n) e ∙ out));
              stop = rw q (p.stop ∙ (ap (stops_with S n) e ∙ stop));
              written =
                  ap (λ (x : List ℕ). set x n m) p.written
                  ∙ (ap (λ (j : ℕ). set (sets lent 0 p.passed) j m) k ∙ sets_more lent p.passed 0 m);
            },
          )

  -- none more
  done : (ls : List (List ℕ)) → lines_of (drop i text) ≡ ls → handed_out S n ls ≡ [] → (o : Option Refusal)
      → stops_with S n ls ≡ o → GathersAs S text lent (gathered n o) lines
  done ls e out o stop =
      let all : handed_out S 0 (lines_of text) ≡ p.passed =
      p.out ∙ (ap (λ (x : List ℕ). p.passed ++ x) (ap (handed_out S n) e ∙ out) ∙ append-nil p.passed) in
      record {
        answers = rw (all, p.stop ∙ (ap (stops_with S n) e ∙ stop)) (ap (λ (k : ℕ). gathered k o) p.count);
        leaves = p.written ∙ ap (sets lent 0) (sym all);
      }

  pub stopped : (r : Refusal) → handed_at S text i n ≡ LineAnswer.Refused r
      → GathersAs S text lent (Err (record { lines = n; refusal = r })) lines
  unfolding gathered
  stopped r q = go (lines_of (drop i text)) refl r (rw q at (step S n i (lines_of (drop i text))))
    where
      go : (ls : List (List ℕ)) → lines_of (drop i text) ≡ ls → (r : Refusal) → Step S n i ls (LineAnswer.Refused r)
          → GathersAs S text lent (Err (record { lines = n; refusal = r })) lines
      go _ e _ (refused l ls r out stop) = done (l ∷ ls) e out (some r) stop

  pub all_past : handed_at S text i n ≡ LineAnswer.End → GathersAs S text lent (Ok n) lines
  unfolding gathered handed_out stops_with
  all_past q = go (lines_of (drop i text)) refl (rw q at (step S n i (lines_of (drop i text))))
    where
      go : (ls : List (List ℕ)) → lines_of (drop i text) ≡ ls → Step S n i ls LineAnswer.End
          → GathersAs S text lent (Ok n) lines
      go _ e ended = done [] e refl none refl

-- ---- in a list of 1,024 entries

out_few : (S : Settings) (n : ℕ) (ls : List (List ℕ)) → n ≤ max_lines → n + length (handed_out S n ls) ≤ max_lines
unfolding handed_out
out_few S n [] h = omega arith
out_few S n (l ∷ ls) h = go (leb max_lines n) refl (packed_line S l) (out_few S (suc n) ls)
  where
    go : (t : Bool) → leb max_lines n ≡ t → (o : Option ℕ)
        → (suc n ≤ max_lines → suc n + length (handed_out S (suc n) ls) ≤ max_lines)
        → n + length {A = ℕ} (cond t [] (elim o [ none ↦ [] | some m ↦ m ∷ handed_out S (suc n) ls ])) ≤ max_lines
    go true e o ih = omega arith
    go false e none ih = omega arith
    go false e (some m) ih = omega (arith, ih (leb-false max_lines n e))

-- all have room, and the entries past them stay as they were
pub all_room : (S : Settings) (ls : List (List ℕ)) → length (handed_out S 0 ls) ≤ max_lines
all_room S ls = omega (arith, out_few S 0 ls (omega arith))

pub gathers_over : (S : Settings) (text lent : List ℕ) (a : Result ℕ Stopped) (left : List ℕ) → length lent ≡ max_lines
    → GathersAs S text lent a left → left ≡ over (handed_out S 0 (lines_of text)) lent
unfolding over
gathers_over S text lent a left long g =
    let out : List ℕ = handed_out S 0 (lines_of text) in
    let z : 0 + length out ≡ length out = omega arith in
    g.leaves ∙ (sets-eq out lent 0 (omega (arith, all_room S (lines_of text))) ∙ rw z)

-- ---- one outcome

pub one_gathering : (S : Settings) (text lent : List ℕ) (a b : Result ℕ Stopped) (left other : List ℕ)
    → GathersAs S text lent a left → GathersAs S text lent b other → (a ≡ b) × (left ≡ other)
one_gathering S text lent a b left other x y = (cc, cc)
