-- 01, "Plans with their verdicts", its last part: what `print` puts is what `model` prints for the text. Reading into a
-- list of 1,024 has the text's fault or its plan; the verdict on that has the order or why there is none; and the room
-- of the screens is enough for either.
use Prim.Native.Nat.{ℕ, ◌≤◌, ◌<◌}
use Rattle.std.specs.Prelude.{Result, Ok, Err, IfOk}
use mathlib.Core.List.{List, [], ◌∷◌, map}
use mathlib.Core.Option.{Option, none, some, none-ne-some}
use mathlib.Core.Path.{◌≡◌, refl, sym, ◌∙◌, ap}
use native.Mathlib.Omega.{arith}
use lib.Dec.{lit≤}
use lib.ListN.{length, take, length-map}
use borrow.Author.Tests.{lt-ltb, le-ltb}
use Rattle.model.specs.Lists.{over}
use Rattle.model.specs.Answers.{first_refusal}
use Rattle.model.specs.Board.{devices, board}
use Rattle.model.specs.Line.{line_number, max_lines}
use Rattle.model.specs.Text.{spelt}
use Rattle.model.specs.Handed.{handed}
use Rattle.model.specs.Verdict.{no_order, held_at_end}
use Rattle.model.specs.Entries.{text_fault, ordering}
use Rattle.model.specs.Printed.{printed_refusal, printed_order, printed_by, printed, screen_by, screening, screen_room}
use Rattle.model.specs.declared.Refusal.{Refusal}
use Rattle.theory.proofs.Answers.{one_answer}
use Rattle.theory.proofs.WellFormed.{fault_exactly, no_fault_exactly}
use Rattle.theory.proofs.Verdict.{accepted_is_legal}
use Rattle.theory.proofs.Printed.{morning_length, printed_is, printed_fits}
use Rattle.theory.proofs.Judged.{steps_few}
use Rattle.promises.specs.Outcome.{faulty, short, further}
use Rattle.promises.specs.Text.{ReadsAs}
use Rattle.promises.specs.Verdict.{OrdersAs, NoVerdict}
use Rattle.promises.specs.Screen.{PrintsAs, order_after}
use Rattle.promises.proofs.Tight.{the_outcome}
use Rattle.promises.proofs.Outcome.{done_leaves}
use Rattle.promises.proofs.Text.{front_of}
use Rattle.promises.proofs.WasRead.{read_fault, read_few, read_counts, no_fault_read, well_formed_read, front_read}
use Rattle.promises.proofs.Verdict.{entry, order_refused, refused_exactly}
use Rattle.screen.specs.declared.Ordered.{Ordered}
use Rattle.screen.specs.Shows.{ShowsAs, shown_by, OrdersText}

-- ---- what is printed, by the tests

module _ (text : List ℕ) where
  abbrev spells : List ℕ
  spells = spelt board text

  by_tests : (o : Option Refusal) → first_refusal (text_fault board text ∷ no_order devices spells ∷ []) ≡ o
      → printed_by o (map line_number (handed spells)) (held_at_end devices spells) ≡ printed board text
  by_tests o e =
      sym
      (printed_is board text
      ∙ ap (λ (o : Option Refusal). printed_by o (map line_number (handed spells)) (held_at_end devices spells)) e)

-- ---- too little room

pub prints_none : {text plan order lent : List ℕ} → length lent < screen_room
    → PrintsAs board text plan order lent 0 plan order lent
unfolding screening screen_by
prints_none {lent} h = record {
  screens = record {
    counts = rw (lt-ltb (length lent) screen_room h);
    leaves =
        rw (lt-ltb (length lent) screen_room h);
  };
  idle = λ g. (refl, refl);
  reads = λ g. absurd (omega arith);
  orders = λ g. absurd (omega arith);
}

-- ---- enough room

pub prints : {text plan order lent : List ℕ} {answer : Result Ordered Refusal} {plan' order' : List ℕ}
    → OrdersText text plan order answer plan' order' → screen_room ≤ length lent → {count : ℕ} {left : List ℕ}
    → ShowsAs (shown_by answer order') lent count left → PrintsAs board text plan order lent count plan' order' left
unfolding screening screen_by
prints {text} {lent = lent} x room y =
    let all = y (omega (arith, printed_fits board (lit≤ tt) text, ap length x.shows)) in
    record {
      screens = record {
        counts = rw (le-ltb (length lent) screen_room room, ← x.shows) all.0;
        leaves = rw (le-ltb (length lent) screen_room room, ← x.shows) all.1;
      };
      idle = λ g. absurd (omega arith);
      reads = λ g. x.reads;
      orders = λ g. x.orders;
    }

-- ---- what is found of a text, with lists of 1,024

module _ (text plan order : List ℕ) (long : (length plan ≡ max_lines) × (length order ≡ max_lines))
    {a : Result ℕ Refusal} {plan' : List ℕ} (x : ReadsAs board text plan a plan') where
  found : {answer : Result Ordered Refusal} {order' : List ℕ} → IfOk answer (λ made. made.lines ≤ max_lines)
      → shown_by answer order' ≡ printed board text → order' ≡ order_after board a plan' order
      → OrdersText text plan order answer plan' order'
  found few e f = record {
    few = few;
    shows = e;
    reads = x.leaves;
    orders = f ∙ ap (λ (b : Result ℕ Refusal). order_after board b plan' order) (the_outcome one_answer a plan' x).0;
  }

  -- a fault of the text
  pub finds_fault : {r : Refusal} → a ≡ Err r → OrdersText text plan order (Err r) plan' order
  unfolding first_refusal printed_by
  finds_fault {r} q = found tt (by_tests text (some r) (rw (read_fault board text plan x long.0 r q))) (rw q)

  pub prints_fault : {r : Refusal} → a ≡ Err r → {lent : List ℕ} → screen_room ≤ length lent → {count : ℕ}
      {left : List ℕ} → ShowsAs (printed_refusal r) lent count left
      → PrintsAs board text plan order lent count plan' order left
  prints_fault q room y = prints (finds_fault q) room y

  -- the verdict on its lines
  module _ {n : ℕ} (q : a ≡ Ok n) {v : Result ℕ Refusal} {order' : List ℕ}
      (y : OrdersAs board (take n plan') order v order') where
    -- no order
    pub finds_why : {r : Refusal} → v ≡ Err r → OrdersText text plan order (Err r) plan' order'
    unfolding first_refusal printed_by
    finds_why {r} p =
        let z = rw (front_read board text plan x q) at y in
        found tt (go r ((refused_exactly board (spells text) order v order' z r).0 p)) (rw q y.leaves)
      where
        go : (r : Refusal) → NoVerdict board (spells text) order r → printed_refusal r ≡ printed board text
        go r (faulty s b) =
            let f = (fault_exactly board (spells text) s).1 b in
            absurd (none-ne-some s (sym (well_formed_read board text plan x q) ∙ f))
        go r (short s h) = absurd (omega (arith, s.few, long.1, steps_few (spells text)))
        go r (further s w h b) =
            by_tests text (some s) (rw (no_fault_read board text plan x q)
            ((order_refused board (spells text) w s).1 b))

    pub prints_why : {r : Refusal} → v ≡ Err r → {lent : List ℕ} → screen_room ≤ length lent → {count : ℕ}
        {left : List ℕ} → ShowsAs (printed_refusal r) lent count left
        → PrintsAs board text plan order lent count plan' order' left
    prints_why p room y = prints (finds_why p) room y

    -- an order
    pub finds_order : {held : ℕ} → v ≡ Ok held
        → OrdersText text plan order (Ok (record { lines = n; held = held })) plan' order'
    unfolding ordering first_refusal printed_by
    finds_order {held} p =
        let z = rw (front_read board text plan x q) at y in
        let d = done_leaves (entry board (spells text) order) v order' z held p in
        found (read_few board text plan x q) (go (no_order devices (spells text)) refl d.0.2 d.1 d.2) (rw q y.leaves)
      where
        handed_out : List ℕ
        handed_out = handed (spells text)

        go : (o : Option Refusal) → no_order devices (spells text) ≡ o → first_refusal (o ∷ []) ≡ none
            → held ≡ held_at_end devices (spells text) → order' ≡ over (map line_number handed_out) order
            → printed_order (take n order') held ≡ printed board text
        go (some r) e f c l = absurd (none-ne-some r (sym f))
        go none e f c l =
            let sound = well_formed_read board text plan x q in
            let legal = accepted_is_legal board (spells text) sound e in
            let formed = (no_fault_exactly board (spells text)).0 sound in
            let all : n ≡ length (map line_number handed_out) =
            rw length-map (read_counts board text plan x q ∙ sym
            (morning_length devices (spells text) handed_out formed legal)) in
            rw (front_of (map line_number handed_out) order order' n all l, c)
            (by_tests text none (rw (no_fault_read board text plan x q, e)))

    pub prints_order : {held : ℕ} → v ≡ Ok held → {lent : List ℕ} → screen_room ≤ length lent → {count : ℕ}
        {left : List ℕ} → ShowsAs (printed_order (take n order') held) lent count left
        → PrintsAs board text plan order lent count plan' order' left
    prints_order p room y = prints (finds_order p) room y
