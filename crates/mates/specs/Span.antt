-- How far what a take takes is held (01, "Rules of a well-formed plan"): to its mate or, where it has none, to the end
-- of its job's lines.
use Rattle.std.specs.Prelude.{ℕ, suc, ◌-◌, not, List, eqb, length}
use Rattle.std.proofs.Math.Option.{Option, none, some, get_or}
use Rattle.model.specs.Lists.{up_from, first_of}
use Rattle.model.specs.Line.{job, at}
use Rattle.model.specs.Mate.{mate}
use Rattle.mates.specs.declared.Span.{Span}

-- from position k on, the first that is of no line of job j; the plan's length where there is none
unfoldable pub end_from : List ℕ → ℕ → ℕ → ℕ
unfolding first_of job up_from
end_from p j k = get_or (first_of (λ x. not (eqb (job (at p x)) j)) (up_from k (length p - k))) (length p)

abbrev pub span_by : ℕ → Option ℕ → Span
span_by end none = Span.Kept end
span_by end (some m) = Span.Given m

unfoldable pub span_of : List ℕ → ℕ → Span
unfolding end_from mate
span_of p i = span_by (end_from p (job (at p i)) (suc i)) (mate p i)

-- where a span ends
abbrev pub stop_of : Span → ℕ
stop_of (Span.Given m) = m
stop_of (Span.Kept e) = e
