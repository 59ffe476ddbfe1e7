-- How tight the promise of `plan::scan` is (01, "How tight the statements are"): it leaves one outcome. The answers of
-- `plan::fault` and `plan::lines_fault` stand in their contracts as equations.
use Rattle.std.proofs.Common.{◌≡◌, ℕ, List, Result, sym, ◌∙◌}
use Rattle.model.specs.Line.{Settings}
use Rattle.model.specs.declared.Refusal.{Refusal}
use Rattle.plan.specs.declared.Notes.{Notes}
use Rattle.plan.specs.Ends.{ScansAs}

pub scan_one : (S : Settings) (p : List ℕ) (lent : Notes) (a b : Result (Unit {0}) Refusal) (m n : Notes)
    → ScansAs S p lent a m → ScansAs S p lent b n
    → (a ≡ b) × (m.first ≡ n.first) × (m.starter ≡ n.starter) × (m.again ≡ n.again)
scan_one S p lent a b m n x y = (
  x.answers ∙ sym y.answers,
  x.firsts ∙ sym y.firsts,
  x.starts ∙ sym y.starts,
  x.agains ∙ sym y.agains,
)

pub scan_holding_one : (S : Settings) (p : List ℕ) (lent : Notes) (a b : Result (Unit {0}) Refusal) (m n : Notes)
    → ScansAs S p lent a m → ScansAs S p lent b n
    → ((a ≡ b) × (m.first ≡ n.first) × (m.starter ≡ n.starter) × (m.again ≡ n.again)) × (m.holdings ≡ n.holdings)
scan_holding_one S p lent a b m n x y = (scan_one S p lent a b m n x y, x.held ∙ sym y.held)
