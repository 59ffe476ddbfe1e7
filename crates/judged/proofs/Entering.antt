-- 02, request 1: the entries of a text, one a line. What the number reader finds at a place is the entry of the line
-- there, or that entry is no line's number; and a list filled so goes wrong where the text's entries do.
use Prim.Native.Nat.{ℕ, suc, ◌+◌, ◌≤◌, ◌<◌}
use mathlib.Core.Bool.{Bool, true, false, cond}
use mathlib.Core.List.{List, [], ◌∷◌, ◌++◌, map, flatten, get_last_d, drop_last, append_assoc, append-nil}
use mathlib.Core.Logic.{◌⊎◌, inl, inr}
use mathlib.Core.Option.{Option, none, some, get_or}
use Rattle.std.specs.Prelude as std
use Rattle.std.specs.Prelude.{Some, None}
use mathlib.Core.Path.{◌≡◌, refl, sym, ◌∙◌, ap}
use native.Mathlib.Numerals.{add-one}
use native.Mathlib.Omega.{arith}
use lib.Dec.{eqb, leb}
use lib.ListN.{length, take, drop, set, length-drop, length-set, drop_of_length-le}
use lib.Seq.{drop-drop, take-suc-set, length-take-le}
use borrow.Author.Tests.{eqb-true, leb-true, leb-false}
use Rattle.model.specs.Lists.{has}
use Rattle.model.specs.Line.{max_lines}
use Rattle.model.specs.Text.{newline, number, lines_of}
use Rattle.model.specs.Judged.{stray, entry_of}
use Rattle.theory.proofs.Tests.{clash, test}
use Rattle.theory.proofs.Lists.{has_head, has_left, has_right}
use Rattle.theory.proofs.Fields.{last_is, before_last, last_newline, line_first, flatten_lines, some_line}
use Rattle.theory.proofs.Cut.{stray_cut, enough_entries}
use Rattle.fields.specs.Number.{up_to, at_most, number_at}
use Rattle.fields.specs.declared.Number.{Number}
use Rattle.judged.specs.Entered.{entries_in, Gathers}

-- ---- the entry of a line

-- with its newline
entry_ended : (b : List ℕ) → entry_of (b ++ (newline ∷ [])) ≡ get_or (number b) 0
unfolding entry_of
entry_ended b = rw (last_is b newline 0, before_last b newline)

-- without
entry_open : (l : List ℕ) → has newline l ≡ false → entry_of l ≡ 0
unfolding entry_of
entry_open l h = go (eqb (get_last_d l 0) newline) refl
  where
    go : (t : Bool) → eqb (get_last_d l 0) newline ≡ t → cond t (get_or (number (drop_last l)) 0) 0 ≡ 0
    go false e = refl
    go true e =
        let z = last_newline l (eqb-true (get_last_d l 0) newline e) in
        clash (has newline l)
        (rw z at (has_right newline (drop_last l) (newline ∷ []) (has_head newline []))) h

-- ---- the first newline of a text

-- what stands before it, and what behind
record Ends (s : List ℕ) : Type 0 where
  whole : s ≡ up_to newline s ++ (newline ∷ drop (length (up_to newline s) + 1) s)
  clean : has newline (up_to newline s) ≡ false

ends : (s : List ℕ) → has newline s ≡ true → Ends s
unfolding has up_to
ends [] h = clash false h refl
ends (b ∷ s) h = go (eqb newline b) refl h (ends s)
  where
    go : (t : Bool) → eqb newline b ≡ t → has newline (b ∷ s) ≡ true → (has newline s ≡ true → Ends s) → Ends (b ∷ s)
    go true e g ih =
        let z = sym (eqb-true newline b e) in
        record { whole = rw (e, up_to) (ap {B = List ℕ} (λ x. x ∷ s) z); clean = rw (e, up_to) }
    go false e g ih =
        let r = ih (rw e at g) in
        let n = length (up_to newline s) in
        let z : suc n + 1 ≡ suc (n + 1) = omega arith in
        record { whole = rw (e, up_to, z) (ap {B = List ℕ} (λ l. b ∷ l) r.whole); clean = rw (e, up_to, e) r.clean }

-- ---- what the number reader finds

-- the entries from a place on
abbrev pub entries_at : List ℕ → ℕ → List ℕ
entries_at text at = entries_in (drop at text)

module _ (text : List ℕ) (at : ℕ) where
  abbrev here : List ℕ
  here = drop at text

  abbrev field : List ℕ
  field = up_to newline here

  abbrev past : ℕ
  past = at + length field + 1

  -- a newline stands behind it
  entries_ended : has newline here ≡ true → entries_at text at ≡ get_or (number field) 0 ∷ entries_at text past
  entries_ended h =
      let r = ends here h in
      let z : at + (length field + 1) ≡ past = omega arith in
      let behind : drop (length field + 1) here ≡ drop past text = drop-drop (length field + 1) at text ∙ rw z in
      let lines : lines_of here ≡ (field ++ (newline ∷ [])) ∷ lines_of (drop past text) =
      ap lines_of r.whole ∙ line_first field (drop (length field + 1) here) r.clean ∙ rw behind in
      rw lines (ap {B = List ℕ} (λ e. e ∷ entries_at text past) (entry_ended field))

  -- no newline stands anywhere behind it
  entries_open : has newline here ≡ false → (l : List ℕ) (ls : List (List ℕ)) → lines_of here ≡ l ∷ ls
      → entries_at text at ≡ 0 ∷ map entry_of ls
  unfolding flatten
  entries_open n l ls e =
      let whole : l ++ flatten ls ≡ here = ap (λ (k : List (List ℕ)). flatten k) (sym e) ∙ flatten_lines here in
      rw e (ap {B = List ℕ} (λ e. e ∷ map entry_of ls) (entry_open l (unended whole (test (has newline l)))))
    where
      unended : l ++ flatten ls ≡ here → (has newline l ≡ true) ⊎ (has newline l ≡ false) → has newline l ≡ false
      unended w (inr q) = q
      unended w (inl q) = clash (has newline here) (rw w at (has_left newline l (flatten ls) q)) n

abbrev pub Found : Type 0
Found = std.Option Number

-- the line there has this entry, and behind it come the others; or its entry is 0 or over `most`
pub data There (text : List ℕ) (at most : ℕ) : Found → Type 0 where
  entry : (n : Number) → n.value ≤ most → entries_at text at ≡ n.value ∷ entries_at text n.past
      → There text at most (Some n)
  lost : (e : ℕ) (es : List ℕ) → entries_at text at ≡ e ∷ es → (e ≡ 0) ⊎ (most < e) → There text at most None

pub there : (text : List ℕ) (at most : ℕ) → at < length text → There text at most (number_at text at newline most)
unfolding number_at at_most
there text at most h = go (has newline (here text at)) refl
  where
    next : ℕ
    next = past text at

    spelt : has newline (here text at) ≡ true → (o : Option ℕ) → number (field text at) ≡ o
        → There text at most (at_most most next o)
    spelt t none q = lost 0 (entries_at text next) (entries_ended text at t ∙ rw q) (inl refl)
    spelt t (some v) q = small (leb v most) refl
      where
        whole : entries_at text at ≡ v ∷ entries_at text next
        whole = entries_ended text at t ∙ rw q

        number_there : Number
        number_there = record { value = v; past = next }

        small : (b : Bool) → leb v most ≡ b → There text at most (cond b (Some number_there) None)
        small true l = entry number_there (leb-true v most l) whole
        small false l = lost v (entries_at text next) whole (inr (leb-false v most l))

    go : (b : Bool) → has newline (here text at) ≡ b
        → There text at most (cond b (at_most most next (number (field text at))) None)
    go true t = spelt t (number (field text at)) refl
    go false n =
        let r = some_line (here text at) (simp length-drop (omega arith)) in
        lost 0 (map entry_of r.1) (entries_open text at n r.0 r.1 r.2) (inl refl)

-- ---- the list so far

-- the entries listed and those from a place on go wrong where all of them do
pub record Listed (text : List ℕ) (at count : ℕ) (list : List ℕ) : Type 0 where
  pub within : count ≤ length list
  pub same : (p : List ℕ) → length p ≤ max_lines
      → stray p (entries_in text) ≡ stray p (take count list ++ entries_at text at)

pub listed_none : (text list : List ℕ) → Listed text 0 0 list
listed_none text list = record { within = omega arith; same = λ p few. refl }

module _ {text : List ℕ} {at count : ℕ} {list : List ℕ} (x : Listed text at count list) where
  -- no entry is left
  pub listed_all : length text ≤ at → Gathers text count list
  unfolding lines_of
  listed_all h = record {
    within = x.within;
    same = λ p few. x.same p few ∙ rw (drop_of_length-le text h, append-nil (take count list));
  }

  -- no more can matter
  pub listed_full : max_lines < length list → length list ≤ count → Gathers text count list
  listed_full h g = record {
    within = x.within;
    same = λ p few. x.same p few
        ∙ enough_entries p (take count list) (entries_at text at)
        (omega (arith, length-take-le count list x.within));
  }

  module _ (h : count < length list) where
    front : (v : ℕ) → take (count + 1) (set list count v) ≡ take count list ++ (v ∷ [])
    front v = rw (add-one count) (take-suc-set list count v h)

    -- one entry more
    pub listed_more : {n : Number} → There text at max_lines (Some n)
        → Listed text n.past (count + 1) (set list count n.value)
    listed_more (entry n k e) = record {
      within = rw length-set (omega arith);
      same = λ p few. x.same p few
          ∙ rw (front n.value, e, append_assoc (take count list) (n.value ∷ []) (entries_at text n.past));
    }

    -- the last that can matter
    pub listed_last : There text at max_lines None → Gathers text (count + 1) (set list count 0)
    listed_last (lost e es q k) = record {
      within = rw length-set (omega arith);
      same = λ p few. x.same p few
          ∙ rw (front 0, q) (stray_cut p (take count list) es e (past_lines p few k));
    }
      where
        past_lines : (p : List ℕ) → length p ≤ max_lines → (e ≡ 0) ⊎ (max_lines < e) → (e ≡ 0) ⊎ (length p < e)
        past_lines p few (inl z) = inl z
        past_lines p few (inr z) = inr (omega arith)

-- a number found fits the list
pub found_small : {text : List ℕ} {at most : ℕ} {n : Number} → There text at most (Some n) → n.value ≤ most
found_small (entry n k e) = k
