-- `plan::Standing::misplaced` meets its contract: the tests pick the case of `place_fault`.
use Rattle.std.proofs.Common.{◌≡◌, ℕ, suc, ◌+◌, ◌-◌, ◌%◌, ◌^◌, ◌<◌, ◌≤◌, true, false, ◌||◌, eqb, ◌⊎◌}
use Rattle.std.proofs.Common.{sym, ◌∙◌, inl, inr, arith, eq-eqb}
use Rattle.std.proofs.lemmas.Grind.{common_steps}
use borrow.Author.Tests.{lt-leb, eqb-false}
use Rattle.model.specs.Answers.{first_refusal, refuse_if}
use Rattle.model.specs.Board.{board_at}
use Rattle.model.specs.Line.{line_number, max_lines}
use Rattle.plan.specs.Walk.{place_fault}
use Rattle.theory.proofs.Line.{line_parts}
use Rattle.theory.proofs.Tests.{test}
use Rattle.plan.proofs.Standing.misplaced.Goals as goal

-- no line
pub returns-then-not-is_line : goal.returns-then-not-is_line
unfolding place_fault first_refusal refuse_if line_number
returns-then-not-is_line c = grind (arith, common_steps)

-- out of sequence
pub returns-then-job-self-gt1 : goal.returns-then-job-self-gt1
unfolding place_fault first_refusal refuse_if line_number
returns-then-job-self-gt1 c = grind (arith, common_steps)

-- a job that lies 0 or 1 above the one before it, in the word's circle, follows on
follows : (j prev : ℕ) → 1 ≤ j → j < 2 ^ 32 → prev < 2 ^ 32 → (j + (2 ^ 32 - prev)) % 2 ^ 32 ≤ 1
    → (eqb j prev || eqb j (suc prev)) ≡ true
follows j prev least fits few h = go (test (eqb j prev))
  where
    go : (eqb j prev ≡ true) ⊎ (eqb j prev ≡ false) → (eqb j prev || eqb j (suc prev)) ≡ true
    go (inl e) = rw e
    go (inr e) = let n = eqb-false j prev e in rw (e, eq-eqb j (suc prev) (omega arith))

-- in sequence
pub returns : goal.returns
unfolding place_fault first_refusal refuse_if
returns c =
    let u = c.args.self.now in
    let line = sym c.is_line.ensures ∙ c.if-not-is_line.false in
    let least = (line_parts (board_at c.args.midday) c.args.n line).0 in
    let f = follows c.job.result u.job (omega (arith, least, c.job.ensures)) (omega arith) (omega arith)
    c.if-job-self-gt1.false in
    rw (lt-leb max_lines u.lines c.requires, line, rw c.job.ensures at f)
