-- The whole walk, from line to line: the fault of the lines not yet passed is that of all of them.
use Rattle.std.proofs.Common.{◌≡◌, ℕ, suc, ◌<◌, ◌≤◌, Bool, false, Ok, Err, List, [], length, drop, sym, ap}
use Rattle.std.proofs.Common.{◌∙◌, arith, drop_of_length-le, drop-cons, le-leb}
use mathlib.Core.Option.{Option, none, some}
use Rattle.model.specs.Answers.{first_refusal, refuse_if}
use Rattle.model.specs.Board.{board_at}
use Rattle.model.specs.Line.{Settings, job, at, max_lines, max_job}
use Rattle.model.specs.Sets.{empty}
use Rattle.model.specs.WellFormed.{before, line_fault, first_fault}
use Rattle.model.specs.declared.Refusal.{Refusal}
use Rattle.model.specs.declared.Refusal.TheVariants.{TooManyLines}
use Rattle.theory.proofs.Line.{line_parts}
use Rattle.plan.specs.Checked.{checked}
use Rattle.plan.specs.Standing.{After}
use Rattle.plan.specs.Tables.{none_yet}
use Rattle.plan.specs.Walk.{Next, on, bad, place_fault, step_of, held_in, Walked}
use Rattle.plan.specs.declared.Notes.{Notes}
use Rattle.plan.specs.declared.Standing.{Standing}
use Rattle.plan.proofs.Stands.{Stands, begins, Stepped, goes, stops, stepped}

pub record At (S : Settings) (p : List ℕ) (u : Standing) (stack first starter : List ℕ) : Type 0 where
  pub at_most : u.lines ≤ length p
  pub stands : Stands S p u.lines u.job u.named u.early (held_in u.depth stack) first starter
  pub ahead : first_fault S [] p ≡ first_fault S (before p u.lines) (drop u.lines p)

-- before the first line
pub record Start (u : Standing) : Type 0 where
  pub lines : u.lines ≡ 0
  pub job : u.job ≡ 0
  pub named : u.named ≡ empty
  pub early : u.early ≡ false
  pub depth : u.depth ≡ 0
  pub held : u.held ≡ empty

pub at_start : (S : Settings) (p : List ℕ) (u : Standing) (stack first starter : List ℕ) → Start u → first ≡ none_yet
    → starter ≡ none_yet → At S p u stack first starter
unfolding held_in before
at_start S p u stack first starter z a b = record {
  at_most = omega arith;
  stands = rw (a, b, z.lines, z.job, z.named, z.early, z.depth) (begins S p);
  ahead = rw z.lines;
}

module _ (midday : Bool) (p : List ℕ) (u : Standing) (stack first starter : List ℕ)
    (s : At (board_at midday) p u stack first starter)
  where
    abbrev S : Settings
    S = board_at midday

    pub at_end : length p ≤ u.lines → (left : Notes) → left.first ≡ first → left.starter ≡ starter
        → Walked S p (Ok tt) left
    unfolding first_fault
    at_end h left f t =
        let e : u.lines ≡ length p = omega (arith, s.at_most) in
        let z : first_fault S (before p u.lines) (drop u.lines p) ≡ none =
        rw (drop_of_length-le p {i = u.lines} h) in record {
          answers = sym (ap checked (s.ahead ∙ z));
          tables = λ z. rw (f, t) (rw e at s.stands.tables);
        }

    module _ (h : u.lines < length p) where
      ahead_on : (x : Option Refusal) → line_fault S (before p u.lines) (at p u.lines) ≡ x
          → first_fault S (before p u.lines) (drop u.lines p)
          ≡ elim x [ some r ↦ some r | none ↦ first_fault S (before p (suc u.lines)) (drop (suc u.lines) p) ]
      unfolding first_fault before
      ahead_on x e = rw (drop-cons p u.lines 0 h) (rw (e, first_fault))

      abbrev step : Next
      step = step_of S (at p u.lines) u.lines u.job u.named u.early (held_in u.depth stack) first starter

      told : Stepped S p u.lines u.named step
      told = stepped S (omega arith) p u.lines u.job u.named u.early (held_in u.depth stack) first starter s.stands

      pub at_refusal : (r : Refusal) → bad r ≡ step → (left : Notes) → Walked S p (Err r) left
      at_refusal r led left = go (rw (← led) at told)
        where
          go : Stepped S p u.lines u.named (bad r) → Walked S p (Err r) left
          go (stops q z) = record {
            answers = sym (ap checked (s.ahead ∙ ahead_on (some q) z));
            tables = λ z. absurd (cc);
          }

      -- a line that is passed has no fault; it is within the limit, and so is its job
      module _ (d : ℕ) (stack' first' starter' : List ℕ) (led : on (held_in d stack') first' starter' ≡ step) where
        passed : Stepped S p u.lines u.named (on (held_in d stack') first' starter')
        passed = rw led told

        pub at_clear : line_fault S (before p u.lines) (at p u.lines) ≡ none
        at_clear = go passed
          where
            go : Stepped S p u.lines u.named (on (held_in d stack') first' starter')
                → line_fault S (before p u.lines) (at p u.lines) ≡ none
            go (goes held f t z few stands) = z

        pub at_line_lem : (u.lines < max_lines) × (job (at p u.lines) ≤ max_job)
        at_line_lem = go passed
          where
            go : Stepped S p u.lines u.named (on (held_in d stack') first' starter')
                → (u.lines < max_lines) × (job (at p u.lines) ≤ max_job)
            go (goes held f t z few stands) =
                (few, (line_parts S (at p u.lines) (stands.tables.lines u.lines (omega arith))).1)

        pub at_next : (held : ℕ) (u' : Standing) → After (at p u.lines) d held u u'
            → At S p u' stack' first' starter'
        at_next held u' a = go passed
          where
            go : Stepped S p u.lines u.named (on (held_in d stack') first' starter') → At S p u' stack' first' starter'
            go (goes held f t z few stands) = record {
              at_most = omega (arith, a.passed);
              stands = rw (a.passed, a.of_job, a.names, a.of_verb, a.deep) stands;
              ahead = rw a.passed (s.ahead ∙ ahead_on none z);
            }

      -- a line over the limit has that fault, whatever it says
      over_limit : max_lines ≤ u.lines → bad TooManyLines ≡ step
      unfolding step_of place_fault first_refusal refuse_if
      over_limit many = rw (le-leb max_lines u.lines many)

      pub at_limit : max_lines ≤ u.lines → (left : Notes) → Walked S p (Err TooManyLines) left
      at_limit many left = at_refusal TooManyLines (over_limit many) left
