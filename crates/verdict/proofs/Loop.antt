-- The loop that hands out the order: what holds before each line, at the start, after a line and at the end.
use Rattle.std.proofs.Common.{◌≡◌, ℕ, suc, ◌+◌, ◌<◌, ◌≤◌, true, List, [], ◌∷◌, ◌++◌, map, append_assoc, append-nil}
use Rattle.std.proofs.Common.{is_some, unwrap_or, refl, sym, ◌∙◌, ap, add-one, arith, length, get_or, set, take, drop}
use Rattle.std.proofs.Common.{replicate, length-append, length-take, drop_of_length-le, drop-cons}
use Rattle.std.proofs.Math.ListN.{length-map}
use Rattle.std.proofs.Math.Option.{Option, none, some, none-ne-some}
use Rattle.std.proofs.Math.Seq.{set_at}
use Rattle.std.specs.Prelude as at_hand
use Rattle.std.specs.Bool.{then_some}
use Rattle.std.proofs.lemmas.List.{map_push}
use Rattle.model.specs.Lists.{over}
use Rattle.model.specs.Line.{line_number}
use Rattle.model.specs.WellFormed.{WellFormed, fault}
use Rattle.model.specs.Rows.{rows}
use Rattle.model.specs.Handed.{handed}
use Rattle.model.specs.Verdict.{no_order}
use Rattle.model.specs.Board.{devices, board}
use Rattle.model.specs.declared.Refusal.{Refusal}
use Rattle.theory.specs.Outer.{plain_at}
use Rattle.theory.proofs.Lists.{left, among}
use Rattle.theory.proofs.OnlyIf.{length_rows}
use Rattle.theory.proofs.Places.{keeps_parts}
use Rattle.theory.proofs.Rows.{leads_below}
use Rattle.theory.proofs.Progress.{grips_below}
use Rattle.theory.proofs.WellFormed.{no_fault_exactly}
use Rattle.theory.proofs.Verdict.{OrderView, accepted, order_view}
use Rattle.verdict.specs.declared.waiting.Waiting.{Waiting}
use Rattle.verdict.specs.Waiting.{Choice, is_sound, all_places, foremost, tallied, scarce_below, counted}
use Rattle.verdict.specs.Waiting.{passed, replaced, goes_on, choosing, CanFall}
use Rattle.verdict.proofs.Counts.{can_fall}
use Rattle.verdict.proofs.Choosing.{Accepted}
use Rattle.verdict.specs.Waiting.{idle}
use Rattle.verdict.proofs.Keeping.{Chooses, Keeps, keeps_first, keeps_place, keeps_choice, keeps_on}
use Rattle.verdict.proofs.Keeping.{keeps_whole, keeps_if}
use Rattle.verdict.proofs.Steps.{sound_of}

-- where an order is handed out, no device has two lasting takes and none leads back to itself
is_accepted : (p : List ℕ) → fault board p ≡ none → no_order devices p ≡ none → Accepted p
is_accepted p sound e = go (no_order devices p) e (order_view board p w)
  where
    w : WellFormed board p
    w = (no_fault_exactly board p).0 sound

    go : (o : Option Refusal) → o ≡ none → OrderView devices p o → Accepted p
    go none q (accepted f g k o) =
        record {
          formed = w;
          no_two = λ d t. f d (grips_below board p w t.i d (keeps_parts p t.i d t.i_lasts).0) t;
          no_circle = λ d l. g d (rw (length_rows devices p) at (leads_below (rows devices p) d d l)) l;
        }
    go (some r) q v = absurd (none-ne-some r (sym q))

-- ---- the list that is written

-- one number more is written to the front of a lent list
over_more : (f : ℕ → ℕ) (xs old : List ℕ) (x : ℕ) → length xs < length old
    → set (over (map f xs) old) (length xs) (f x) ≡ over (map f (xs ++ (x ∷ []))) old
unfolding over
over_more f xs old x h =
    rw (map_push f xs x, length-append (map f xs) (f x ∷ []), length-map xs f, append_assoc)
    (rw (drop-cons old (length xs) 0 h, add-one)
    (set_at (map f xs) (get_or old (length xs) 0) (drop (suc (length xs)) old) (f x) (length xs) (length-map xs f)))

-- ---- with k lines done, where a job goes on at line `next`, if one does

pub record Handing (p old order places counts : List ℕ) (wa : Waiting) (next : at_hand.Option ℕ) (k : ℕ) : Type 0 where
  pub ok : Accepted p
  pub whole : length old ≡ length p
  pub done : List ℕ
  pub so_far : length done ≡ k
  pub keeps : Keeps p done places counts wa (is_some next) (unwrap_or next 0)
  pub written : order ≡ over (map line_number done) old

pub hands_first : {p old places counts : List ℕ} {wa : Waiting} → is_sound p ≡ true → no_order devices p ≡ none
    → length old ≡ length p → wa ≡ idle (scarce_below (tallied p (length p)) devices)
    → places ≡ replicate all_places 0 → counts ≡ tallied p (length p)
    → Handing p old old places counts wa (at_hand.Some 0) 0
unfolding over
hands_first {p} s fine whole e q c =
    let ok = is_accepted p (sound_of p s) fine in record {
      ok = ok;
      whole = whole;
      done = [];
      so_far = refl;
      keeps = rw (e, q, c) (keeps_first ok);
      written = refl;
    }

module _ {p old order places counts : List ℕ} {wa : Waiting} {next : at_hand.Option ℕ} {k : ℕ}
    (h : Handing p old order places counts wa next k) where
  pub front_handed : length p ≤ k → order ≡ over (map line_number (handed p)) old
  front_handed full =
      h.written
      ∙ ap (λ (ys : List ℕ). over (map line_number ys) old) (keeps_whole h.keeps (omega (arith, h.so_far, full)))

  module _ (more : k < length old) where
    undone_line : 1 ≤ left (among h.done) (length p)
    undone_line = omega (arith, h.so_far, h.whole, h.keeps.rest)

    pub a_place : next ≡ at_hand.None → foremost wa < all_places
    a_place e = keeps_place h.ok undone_line (is_some next) h.keeps (ap is_some e)

    abbrev choice : Choice
    choice = choosing places wa (is_some next) (unwrap_or next 0)

    chosen : Chooses p h.done places wa.scarce choice
    chosen = keeps_choice h.ok undone_line (is_some next) h.keeps

    module _ {line : ℕ} {others : Waiting} (e : line ≡ choice.line) (f : others ≡ choice.others) where
      pub a_line_lem : line < length p
      a_line_lem = rw e chosen.going.stands.line

      pub falls : CanFall counts (plain_at p line)
      falls = rw e
          (can_fall h.ok.formed h.keeps.counts_all chosen.going.stands.line chosen.going.stands.waiting)

      pub hands_on : {r : Waiting} {places' counts' : List ℕ} {next' : at_hand.Option ℕ}
          → r ≡ passed p counts others line → places' ≡ replaced p places line
          → counts' ≡ counted counts (plain_at p line)
          → next' ≡ then_some (goes_on p line) (line + 1)
          → Handing p old (set order k (line + 1)) places' counts' r next' (k + 1)
      unfolding line_number
      hands_on q a b d = rw (d, b, a, q, e, f, add-one choice.line) (record {
        ok = h.ok;
        whole = h.whole;
        done = h.done ++ (choice.line ∷ []);
        so_far = length-append h.done (choice.line ∷ []) ∙ ap (λ (n : ℕ). n + 1) h.so_far;
        keeps = keeps_if (goes_on p choice.line) (suc choice.line) (keeps_on h.ok undone_line h.keeps chosen);
        written = rw (h.written, ← h.so_far)
            (over_more line_number h.done old choice.line (omega (arith, h.so_far, more)));
      })

-- the numbers go into as much of the list as the plan has lines
pub all_handed : (p lent : List ℕ) {order places counts : List ℕ} {wa : Waiting} {next : at_hand.Option ℕ} {k : ℕ}
    → Handing p (take (length p) lent) order places counts wa next k → length p ≤ k
    → order ++ drop (length p) lent ≡ over (map line_number (handed p)) lent
unfolding over
all_handed p lent {order} h full =
    ap (λ (xs : List ℕ). xs ++ drop (length p) lent) (front_handed h full)
    ∙ rw (whole, drop_of_length-le (take (length p) lent) short, append-nil (map line_number (handed p)))
  where
    done : h.done ≡ handed p
    done = keeps_whole h.keeps (omega (arith, h.so_far, full))

    whole : length (map line_number (handed p)) ≡ length p
    whole = length-map (handed p) line_number ∙ ap length (sym done) ∙ omega (arith, h.so_far, full, h.keeps.rest)

    short : length (take (length p) lent) ≤ length p
    short = omega (arith, length-take (length p) lent)
