-- The outcome of each entry: its answer and the contents of every lent list, for every input. A refusal leaves what
-- was lent as it was; a success leaves what lies past the last entry written (01, "Refusal numbers"). The line reader
-- and the judge write to nothing that is lent: their outcomes are `Text.next_line` and `Judged.judging`. The screens'
-- entry stands in `Printed`.
use Rattle.std.specs.Prelude.{ℕ, List, [], ◌∷◌, map, ltb, length}
use Rattle.std.specs.Prelude.{Result, Ok, Err}
use Rattle.std.proofs.Math.Option.{Option, none, some}
use Rattle.model.specs.Lists.{over}
use Rattle.model.specs.Answers.{refuse_if, first_refusal, too_short}
use Rattle.model.specs.Line.{Settings, line_number, max_bytes}
use Rattle.model.specs.Text.{spelt, text_of}
use Rattle.model.specs.WellFormed.{fault}
use Rattle.model.specs.Mate.{steps}
use Rattle.model.specs.Claims.{table}
use Rattle.model.specs.Handed.{handed}
use Rattle.model.specs.Verdict.{no_order, held_at_end}
use Rattle.model.specs.Move.{edited, from_last, rewritten, changed, asked_at, move_refusal}
use Rattle.model.specs.declared.Refusal.{Refusal}
use Rattle.model.specs.declared.Refusal.TheVariants.{TextTooLong}

-- What an entry answers, and what stands in the lent lists when it returns.
pub record Outcome (A L : Type 0) : Type 0 where
  pub answer : A
  pub left : L

-- An entry whose tests refuse answers so, and leaves what was lent; otherwise it answers and leaves what is new.
unfoldable pub outcome : {A L : Type 0} → (Refusal → A) → Option Refusal → A → L → L → Outcome A L
outcome refused none answer new lent = record { answer = answer; left = new }
outcome refused (some r) answer new lent = record { answer = refused r; left = lent }

-- the fault of a text, if it has one: 1, then those of the plan that it spells
unfoldable pub text_fault : Settings → List ℕ → Option Refusal
unfolding first_refusal refuse_if fault spelt
text_fault S text = first_refusal (refuse_if (ltb max_bytes (length text)) TextTooLong ∷ fault S (spelt S text) ∷ [])

-- Reading: a text into a lent list of packed numbers.
unfoldable pub reading : Settings → List ℕ → List ℕ → Outcome (Result ℕ Refusal) (List ℕ)
unfolding outcome first_refusal text_fault too_short spelt over
reading S text lent =
    let plan : List ℕ = spelt S text in
    outcome Err (first_refusal (text_fault S text ∷ too_short (length lent) (length plan) ∷ []))
    (Ok (length plan)) (over plan lent) lent

-- Writing: a packed plan into a lent buffer of bytes.
unfoldable pub writing : Settings → List ℕ → List ℕ → Outcome (Result ℕ Refusal) (List ℕ)
unfolding outcome first_refusal fault too_short text_of over
writing S p lent =
    let text : List ℕ = text_of p in
    outcome Err (first_refusal (fault S p ∷ too_short (length lent) (length text) ∷ []))
    (Ok (length text)) (over text lent) lent

-- The table of claims, into a lent list of sets.
unfoldable pub tabling : Settings → List ℕ → List ℕ → Outcome (Result ℕ Refusal) (List ℕ)
unfolding outcome first_refusal fault too_short table over
tabling S p lent =
    outcome Err (first_refusal (fault S p ∷ too_short (length lent) (length p) ∷ []))
    (Ok (length p)) (over (table p) lent) lent

-- The verdict, with the order's line numbers in a lent list, one a step. Its tests: those of the plan, 11, then 9 and
-- 10.
abbrev pub verdict_refusal : Settings → List ℕ → List ℕ → Option Refusal
verdict_refusal S p lent = first_refusal (fault S p ∷ too_short (length lent) (length (steps p)) ∷ no_order S.devices
    p ∷ [])

unfoldable pub ordering : Settings → List ℕ → List ℕ → Outcome (Result ℕ Refusal) (List ℕ)
unfolding outcome first_refusal fault too_short steps no_order held_at_end handed line_number over
ordering S p lent =
    outcome Err (verdict_refusal S p lent)
    (Ok (held_at_end S.devices p)) (over (map line_number (handed p)) lent) lent

-- The move: plan and table are lent, and both are rewritten.
pub record Lent : Type 0 where
  pub plan : List ℕ
  pub sets : List ℕ

unfoldable pub moving : Settings → List ℕ → List ℕ → ℕ → ℕ → Outcome (Result ℕ Refusal) Lent
unfolding outcome move_refusal asked_at edited rewritten from_last changed
moving S p t line device =
    let i : ℕ = asked_at line in
    let plan : List ℕ = edited p i device in
    let sets : List ℕ = rewritten plan t (from_last p i) in
    outcome Err (move_refusal S p t line device)
    (Ok (changed p t sets)) (record { plan = plan; sets = sets }) (record { plan = p; sets = t })
