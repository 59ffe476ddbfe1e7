-- 01, "The order handed out" and "Refusal numbers", 9 and 10, with what 02, request 5, adds: the verdict on a plan
-- without a fault.
use Rattle.std.specs.Prelude.{ℕ, Bool, cond, ◌&&◌, ◌||◌, List, [], ◌∷◌, ◌++◌, leb, length}
use Rattle.std.proofs.Math.Option.{Option, none}
use Rattle.model.specs.Lists.{up_from, positions, any, those, first_of}
use Rattle.model.specs.Line.{holds}
use Rattle.model.specs.Mate.{takes_at, device_at, held_lines, keeps}
use Rattle.model.specs.Answers.{refuse_at, first_refusal}
use Rattle.model.specs.Legal.{held}
use Rattle.model.specs.Rows.{rows, leads_back}
use Rattle.model.specs.Handed.{undone, closes_held, segments, handed}
use Rattle.model.specs.declared.Refusal.{Refusal}
use Rattle.model.specs.declared.Refusal.TheVariants.{TwoLasting, LeadsBack}

-- the lines that keep device d to the end: its lasting takes, and its held line if that has no give
unfoldable pub keepers : List ℕ → ℕ → List ℕ
unfolding those keeps positions
keepers p d = those (λ i. keeps p i d) (positions p)

-- 9: the lowest device that two lines keep
unfoldable pub two_lasting : ℕ → List ℕ → Option Refusal
unfolding refuse_at first_of keepers up_from
two_lasting D p = refuse_at TwoLasting (first_of (λ d. leb 2 (length (keepers p d))) (up_from 0 D))

-- 10: the lowest device that leads back to itself, by any rows, one for each device; by the plan's own
unfoldable pub circle_of : ℕ → List ℕ → Option Refusal
unfolding refuse_at first_of leads_back up_from
circle_of D rs = refuse_at LeadsBack (first_of (leads_back rs) (up_from 0 D))

unfoldable pub circle : ℕ → List ℕ → Option Refusal
unfolding circle_of rows
circle D p = circle_of D (rows D p)

-- 02, request 5: some outermost take is of a device that a held line keeps to the end
unfoldable pub takes_kept : List ℕ → Bool
unfolding any takes_at held_lines keeps device_at positions
takes_kept p = any (λ i. takes_at p i && any (λ h. keeps p h (device_at p i)) (held_lines p)) (positions p)

-- some stretch that is under way cannot be closed: when no segment can be done any more, a give of a held line is
-- undone
unfoldable pub stays_open : List ℕ → Bool
unfolding any closes_held undone held_lines segments
stays_open p = any (closes_held p) (undone p (held_lines p ++ segments p))

-- 10 for either, with the lowest device that a held line names
unfoldable pub hindered : ℕ → List ℕ → Option Refusal
unfolding takes_kept stays_open refuse_at first_of any holds up_from
hindered D p =
    cond (takes_kept p || stays_open p)
    (refuse_at LeadsBack (first_of (λ d. any (λ l. holds l d) p) (up_from 0 D))) none

-- 9, then 10 by the rows, then 10 by the held lines; none where an order is handed out
unfoldable pub no_order : ℕ → List ℕ → Option Refusal
unfolding first_refusal two_lasting circle hindered
no_order D p = first_refusal (two_lasting D p ∷ circle D p ∷ hindered D p ∷ [])

-- how many devices stay held once the order is through
unfoldable pub held_at_end : ℕ → List ℕ → ℕ
unfolding those held held_lines handed up_from
held_at_end D p = let o : List ℕ = held_lines p ++ handed p in length (those (held p o) (up_from 0 D))
