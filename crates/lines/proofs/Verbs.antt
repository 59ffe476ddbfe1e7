-- 01, "The plan as text" (a verb's bytes are exactly its name): what is listed of the verbs at a byte and at a number,
-- the verb at a place as the code compares it, and that it is read from its text, and from no other. Nothing here is
-- said verb by verb: what has to hold of each is computed over the list of them.
use Prim.Native.Nat.{ℕ, zero, suc, ◌+◌, ◌-◌, ◌*◌, ◌^◌, ◌%◌, ◌≤◌, ◌<◌}
use mathlib.Core.Bool.{Bool, true, false, cond, ◌&&◌}
use mathlib.Core.List.{List, [], ◌∷◌, ◌++◌, map, head_d}
use mathlib.Core.Logic.{⊎_elim}
use mathlib.Core.Option as Math
use mathlib.Core.Option.{none, some, none-ne-some}
use mathlib.Core.Path.{◌≡◌, refl, sym, ◌∙◌, ap}
use native.Mathlib.Omega.{arith}
use lib.Dec.{eqb, leb}
use lib.ListN.{length, get_or, take, drop, length-append, length-drop, drop_of_length-le}
use lib.Seq.{drop-cons}
use borrow.Author.Tests.{eqb-true, eq-eqb, ne_eqb, leb-true}
use Rattle.std.specs.Prelude.{Some, None}
use Rattle.model.specs.Lists.{up_from, all, has}
use Rattle.model.specs.Text.{verbs, verb}
use Rattle.theory.proofs.Tests.{clash, and_split}
use Rattle.theory.proofs.Lists.{has_none, has_cases, has_up_from, up_from_has, Answer, first_answer}
use Rattle.fields.specs.declared.Number.{Number}
use Rattle.lines.specs.Verbs.{word, begins, kind_by, verb_of, verb_at, as_number, highest_of}
use Rattle.lines.specs.Verbs.{letter_kind, entry_by, all_entries, all_words}
use Rattle.lines.specs.declared.Entry.{Entry}
use Rattle.lines.proofs.Numbers.{reach, plain, Fitting, asked, not_asked}

-- ---- what holds of each verb

all_has : (f : ℕ → Bool) (xs : List ℕ) (k : ℕ) → all f xs ≡ true → has k xs ≡ true → f k ≡ true
unfolding all
all_has f [] k e h = has_none k h
all_has f (x ∷ xs) k e h =
    let r = and_split (f x) (all f xs) e in ⊎_elim (λ q. rw q r.0) (all_has f xs k r.1) (has_cases k x xs h)

-- its bytes, with its tab, have room in a number of eight
fits : ℕ → Bool
fits k =
    (all plain (word k) && leb (length (word k)) 7)
    && (eqb (reach (length (word k)) * 2 ^ (64 - length (word k) * 8)) (2 ^ 64)
    && leb 1 (2 ^ (64 - length (word k) * 8)))

-- its first byte tells it
tells : ℕ → Bool
tells k = eqb (Math.get_or (kind_by (head_d (word k) 0)) (length verbs)) k

-- so does the place of its first letter
tells_letter : ℕ → Bool
tells_letter k = eqb (Math.get_or (letter_kind (head_d (verb k) 0 % 32)) (length verbs)) k

abbrev pub kinds : List ℕ
kinds = up_from 0 (length verbs)

kind_below : (k : ℕ) → has k kinds ≡ true → k < length verbs
kind_below k h = omega (arith, (has_up_from 0 (length verbs) k h).1)

all_fit : all fits kinds ≡ true
unfolding all up_from verbs fits word reach
all_fit = refl

all_tell : all tells kinds ≡ true
unfolding all up_from verbs tells word kind_by
all_tell = refl

all_tell_letters : all tells_letter kinds ≡ true
unfolding all up_from verbs verb tells_letter letter_kind
all_tell_letters = refl

pub fitting : (k : ℕ) → has k kinds ≡ true → Fitting (word k)
unfolding fits
fitting k h =
    let c : ℕ = 2 ^ (64 - length (word k) * 8) in
    let r = and_split (all plain (word k) && leb (length (word k)) 7)
    (eqb (reach (length (word k)) * c) (2 ^ 64) && leb 1 c) (all_has fits kinds k all_fit h) in
    let p = and_split (all plain (word k)) (leb (length (word k)) 7) r.0 in
    let q = and_split (eqb (reach (length (word k)) * c) (2 ^ 64)) (leb 1 c) r.1 in
    record {
      bytes = p.0;
      short = leb-true (length (word k)) 7 p.1;
      fills = eqb-true (reach (length (word k)) * c) (2 ^ 64) q.0;
      some = leb-true 1 c q.1;
    }

word_length : (k : ℕ) → length (word k) ≡ suc (length (verb k))
unfolding word
word_length k = simp length-append (omega arith)

-- a kind that is told
certain : (o : Math.Option ℕ) (k : ℕ) → k < length verbs → eqb (Math.get_or o (length verbs)) k ≡ true → o ≡ some k
certain none k h e = absurd (omega (arith, eqb-true (length verbs) k e))
certain (some j) k h e = ap {B = Math.Option ℕ} some (eqb-true j k e)

kind_told : (k : ℕ) → has k kinds ≡ true → kind_by (head_d (word k) 0) ≡ some k
unfolding tells
kind_told k h = certain (kind_by (head_d (word k) 0)) k (kind_below k h) (all_has tells kinds k all_tell h)

letter_told : (k : ℕ) → has k kinds ≡ true → letter_kind (head_d (verb k) 0 % 32) ≡ some k
unfolding tells_letter
letter_told k h =
    certain (letter_kind (head_d (verb k) 0 % 32)) k (kind_below k h) (all_has tells_letter kinds k all_tell_letters h)

-- ---- the verb at a place, as the code finds it

begins_sound : (w s : List ℕ) → begins w s ≡ true → (rest : List ℕ) × (s ≡ w ++ rest)
unfolding begins
begins_sound [] s e = (s, refl)
begins_sound (x ∷ w) [] e = clash false e refl
begins_sound (x ∷ w) (b ∷ s) e = go (eqb b x) refl (begins_sound w s) e
  where
    go : (t : Bool) → eqb b x ≡ t → (begins w s ≡ true → (rest : List ℕ) × (s ≡ w ++ rest))
        → cond t (begins w s) false ≡ true → (rest : List ℕ) × (b ∷ s ≡ x ∷ w ++ rest)
    go false q ih e = clash false e refl
    go true q ih e = let r = ih e in (r.0, rw (eqb-true b x q, r.1))

pub verb_none : (i : ℕ) (s : List ℕ) → length s ≤ i → None ≡ verb_at i (drop i s)
unfolding verb_at
verb_none i s h = rw (drop_of_length-le s h)

-- the first letter tells as much as the first byte, since the bytes are compared
begins_other : (k b : ℕ) (s : List ℕ) → (head_d (word k) 0 ≡ b → ⊥) → begins (word k) (b ∷ s) ≡ false
unfolding begins head_d
begins_other k b s n = go (word k) refl n
  where
    go : (w : List ℕ) → word k ≡ w → (head_d w 0 ≡ b → ⊥) → begins w (b ∷ s) ≡ false
    go [] e n = absurd (omega (arith, word_length k, ap length e))
    go (x ∷ w) e n = rw (ne_eqb b x (λ q. n (sym q)))

by_letter : (i b : ℕ) (s : List ℕ) → verb_of i (b ∷ s) (kind_by b) ≡ verb_of i (b ∷ s) (letter_kind (b % 32))
unfolding kind_by letter_kind verb_of
by_letter i b s =
    go (kind_by b) refl (first_answer (λ k. eqb (head_d (verb k) 0) b) kinds) (letter_kind (b % 32)) refl
    (first_answer (λ k. eqb (head_d (verb k) 0 % 32) (b % 32)) kinds)
  where
    go : (o : Math.Option ℕ) → kind_by b ≡ o → Answer (λ k. eqb (head_d (verb k) 0) b) kinds o
        → (p : Math.Option ℕ) → letter_kind (b % 32) ≡ p → Answer (λ k. eqb (head_d (verb k) 0 % 32) (b % 32)) kinds p
        → verb_of i (b ∷ s) o ≡ verb_of i (b ∷ s) p
    go (some j) e a p f c =
        let h : head_d (verb j) 0 ≡ b = eqb-true (head_d (verb j) 0) b a.1 in
        ap (verb_of i (b ∷ s)) (sym (rw h at (letter_told j a.0)) ∙ f)
    go none e a none f c = refl
    go none e a (some k) f c =
        let n : head_d (word k) 0 ≡ b → ⊥ = λ h. none-ne-some k (sym e ∙ rw h at (kind_told k c.0)) in
        rw (begins_other k b s n)

-- what is listed of a letter: the verb that begins with it, or none
abbrev pub no_entry : Entry
no_entry = record { length = 0; verb = 0 }

pub data Tells : Entry → Math.Option ℕ → Type 0 where
  no_verb : Tells no_entry none
  of_verb_lem : (k : ℕ) → has k kinds ≡ true → Tells (record { length = length (word k); verb = k }) (some k)

pub tells_long : {e : Entry} {o : Math.Option ℕ} → Tells e o → e.length ≤ 7
tells_long no_verb = omega arith
tells_long (of_verb_lem k h) = (fitting k h).short

pub tells_below : {e : Entry} {o : Math.Option ℕ} → Tells e o → e.verb < length verbs
unfolding verbs
tells_below no_verb = omega arith
tells_below (of_verb_lem k h) = kind_below k h

listed_at : {A : Type 0} (f : ℕ → A) (d : A) (i n k : ℕ) → k < n → get_or (map f (up_from i n)) k d ≡ f (i + k)
unfolding up_from
listed_at f d i zero k h = absurd (omega arith)
listed_at f d i (suc n) zero h = ap f (omega arith)
listed_at f d i (suc n) (suc k) h = listed_at f d (suc i) n k (omega arith) ∙ ap f (omega arith)

pub entry_at : (d : Entry) (i : ℕ) → i < 32 → Tells (get_or all_entries i d) (letter_kind i)
unfolding letter_kind entry_by all_entries
entry_at d i h =
    let z : 0 + i ≡ i = omega arith in
    rw (listed_at (λ x. entry_by (letter_kind x)) d 0 32 i h, z)
    (go (letter_kind i) (first_answer (λ k. eqb (head_d (verb k) 0 % 32) i) kinds))
  where
    go : (o : Math.Option ℕ) → Answer (λ k. eqb (head_d (verb k) 0 % 32) i) kinds o → Tells (entry_by o) o
    go none a = no_verb
    go (some k) a = of_verb_lem k a.0

word_at : (k : ℕ) → has k kinds ≡ true → get_or all_words k 0 ≡ highest_of (word k)
unfolding all_words
word_at k h =
    let z : 0 + k ≡ k = omega arith in
    listed_at (λ x. highest_of (word x)) 0 0 (length verbs) k (kind_below k h) ∙ rw z

module _ (s : List ℕ) (bytes : (i : ℕ) → get_or s i 0 < 256) (i : ℕ) (there : i < length s) where
  -- what the letter at the place tells
  told : {o : Math.Option ℕ} → letter_kind (get_or s i 0 % 32) ≡ o → verb_of i (drop i s) o ≡ verb_at i (drop i s)
  unfolding verb_at
  told q = rw (← q, drop-cons s i 0 there) (sym (by_letter i (get_or s i 0) (drop (suc i) s)))

  -- no verb begins with it
  pub other : {e : Entry} → Tells e (letter_kind (get_or s i 0 % 32)) → e.length ≡ 0 → None ≡ verb_at i (drop i s)
  unfolding verb_of
  other x z = go x refl z
    where
      go : {e : Entry} {o : Math.Option ℕ} → Tells e o → letter_kind (get_or s i 0 % 32) ≡ o → e.length ≡ 0
          → None ≡ verb_at i (drop i s)
      go no_verb q z = told q
      go (of_verb_lem k h) q z = absurd (omega (arith, word_length k))

  -- what the code compares
  abbrev Compared : Entry → Type 0
  Compared e = as_number (take 8 (drop i s)) * 2 ^ (64 - e.length * 8) % 2 ^ 64 ≡ get_or all_words e.verb 0

  pub found : {e : Entry} → Tells e (letter_kind (get_or s i 0 % 32)) → (e.length ≡ 0 → ⊥) → Compared e
      → Some (record { value = e.verb; past = i + e.length }) ≡ verb_at i (drop i s)
  unfolding verb_of
  found x n c = go x refl n c
    where
      go : {e : Entry} {o : Math.Option ℕ} → Tells e o → letter_kind (get_or s i 0 % 32) ≡ o → (e.length ≡ 0 → ⊥)
          → Compared e → Some (record { value = e.verb; past = i + e.length }) ≡ verb_at i (drop i s)
      go no_verb q n c = absurd (n refl)
      go (of_verb_lem k h) q n c = rw (asked s bytes i (word k) (fitting k h) (c ∙ word_at k h)) at (told q)

  pub lost : {e : Entry} → Tells e (letter_kind (get_or s i 0 % 32)) → (Compared e → ⊥) → None ≡ verb_at i (drop i s)
  unfolding verb_of
  lost x n = go x refl n
    where
      go : {e : Entry} {o : Math.Option ℕ} → Tells e o → letter_kind (get_or s i 0 % 32) ≡ o → (Compared e → ⊥)
          → None ≡ verb_at i (drop i s)
      go no_verb q n = told q
      go (of_verb_lem k h) q n =
          rw (not_asked s bytes i (word k) (fitting k h) (λ e. n (e ∙ sym (word_at k h)))) at (told q)

-- ---- its text

begins_whole : (w rest : List ℕ) → begins w (w ++ rest) ≡ true
unfolding begins
begins_whole [] rest = refl
begins_whole (x ∷ w) rest = rw (eq-eqb x x refl) (begins_whole w rest)

-- a verb and its tab stand in front
pub record SpellsVerb (i : ℕ) (s : List ℕ) (n : Number) : Type 0 where
  pub rest : List ℕ
  pub small : n.value < length verbs
  pub whole : s ≡ word n.value ++ rest
  pub ends : n.past ≡ i + length (word n.value)

-- what is read as a verb is its text
pub verb_sound : (i : ℕ) (s : List ℕ) (n : Number) → verb_at i s ≡ Some n → SpellsVerb i s n
unfolding verb_at verb_of kind_by
verb_sound i [] n e = cc
verb_sound i (b ∷ s) n e = go (kind_by b) (first_answer (λ k. eqb (head_d (verb k) 0) b) kinds) e
  where
    stands : (j : ℕ) → has j kinds ≡ true → (t : Bool) → begins (word j) (b ∷ s) ≡ t
        → cond t (Some (record { value = j; past = i + length (word j) })) None ≡ Some n → SpellsVerb i (b ∷ s) n
    stands j h false t e = cc
    stands j h true t e =
        let jk : j ≡ n.value = cc in
        let end : i + length (word j) ≡ n.past = cc in
        let r = begins_sound (word j) (b ∷ s) t in
        record {
          rest = r.0;
          small = omega (arith, kind_below j h);
          whole = rw (← jk) r.1;
          ends = rw (← jk) (sym end);
        }

    go : (o : Math.Option ℕ) → Answer (λ k. eqb (head_d (verb k) 0) b) kinds o → verb_of i (b ∷ s) o ≡ Some n
        → SpellsVerb i (b ∷ s) n
    go none a e = cc
    go (some j) a e = stands j a.0 (begins (word j) (b ∷ s)) refl e

-- it is read as that verb
pub verb_whole : (i k : ℕ) (rest : List ℕ) → k < length verbs
    → verb_at i (word k ++ rest) ≡ Some (record { value = k; past = i + length (word k) })
unfolding verb_at verb_of
verb_whole i k rest h = go (word k) refl
  where
    here : has k kinds ≡ true
    here = up_from_has 0 (length verbs) k (omega arith) (omega arith)

    go : (w : List ℕ) → word k ≡ w
        → verb_at i (w ++ rest) ≡ Some (record { value = k; past = i + length (word k) })
    go [] e = absurd (omega (arith, word_length k, ap length e))
    go (x ∷ w) e =
        let t : begins (word k) (x ∷ w ++ rest) ≡ true = rw e (begins_whole (x ∷ w) rest) in
        rw (ap (λ (l : List ℕ). kind_by (head_d l 0)) (sym e) ∙ kind_told k here, t)

-- the text goes on to its end
pub verb_within : (text : List ℕ) (at : ℕ) (n : Number) → verb_at at (drop at text) ≡ Some n → n.past ≤ length text
verb_within text at n e =
    let y = verb_sound at (drop at text) n e in
    omega (
      arith,
      y.ends,
      word_length n.value,
      length-drop at text,
      ap length y.whole ∙ length-append (word n.value) y.rest,
    )
