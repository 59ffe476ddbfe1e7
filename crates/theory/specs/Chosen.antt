-- The words in which theory says which segment is handed out next (02, request 5, and docs/RULES.md, "A plan taken up
-- at midday"): of the gives of held lines that are still to come, of what a job has to do up to its next one, and of
-- what hinders that. The tests of `model` (Handed) do not come in.
use Rattle.std.specs.Prelude.{ℕ, ◌<◌, ◌≤◌, true, false, List, [], ◌++◌, ◌≢◌, ◌↔◌, ◌≡◌}
use Rattle.std.proofs.Math.Option.{some}
use Rattle.model.specs.Lists.{up_from, has}
use Rattle.model.specs.Line.{job, holds, at}
use Rattle.model.specs.Mate.{held_at, takes, mate}
use Rattle.model.specs.Legal.{given_back}

-- line m is the give of a held line, and still to come
pub record Awaited (p done : List ℕ) (m : ℕ) : Type 0 where
  pub waiting : has m done ≡ false
  pub h : ℕ
  pub is_held : held_at p h ≡ true
  pub mated : mate p h ≡ some m

-- it is the next such give of its job
pub record NextGive (p done : List ℕ) (m : ℕ) : Type 0 where
  pub awaited : Awaited p done m
  pub next : (n : ℕ) → Awaited p done n → job (at p n) ≡ job (at p m) → m ≤ n

-- line x is in the segment up to line m: what the job of m has still to do, m included
pub record InSegment (p done : List ℕ) (m x : ℕ) : Type 0 where
  pub waiting : has x done ≡ false
  pub of_job : job (at p x) ≡ job (at p m)
  pub up_to : x ≤ m

-- the segment up to line m cannot be done: an outermost take in it, line x, is of a device d that a held line of
-- another job, line h, still keeps
pub record Barred (p done : List ℕ) (m : ℕ) : Type 0 where
  pub x : ℕ
  pub h : ℕ
  pub d : ℕ
  pub in_segment : InSegment p done m x
  pub taken : takes p x d ≡ true
  pub holding : holds (at p h) d ≡ true
  pub another : job (at p h) ≢ job (at p m)
  pub kept : given_back p done h ≡ false

-- The rule: the segment up to line m is the next one. It goes up to the next such give of its job, it can be done, and
-- the segment of no lower job can.
pub record NextSegment (p done : List ℕ) (m : ℕ) : Type 0 where
  pub give : NextGive p done m
  pub free : Barred p done m → ⊥
  pub lowest : (n : ℕ) → NextGive p done n → job (at p n) < job (at p m) → Barred p done n

-- The segments after the lines done, one after the other: always the next one, its lines in line order, until of every
-- job that has one it is barred.
pub data ByRule (p : List ℕ) : List ℕ → List ℕ → Type 0 where
  stops : (done : List ℕ) → ((m : ℕ) → NextGive p done m → Barred p done m) → ByRule p done []
  goes : (done rest : List ℕ) (m a n : ℕ) → NextSegment p done m
      → ((x : ℕ) → (has x (up_from a n) ≡ true) ↔ InSegment p done m x)
      → ByRule p (done ++ up_from a n) rest → ByRule p done (up_from a n ++ rest)
