-- 01, "The order handed out", with takes as 02, request 2, has them: a take of a device that its job holds is an
-- ordinary line. The state is the list of the lines done; each turn hands out a run of lines by (a) or (b). Before the
-- first turn of a plan taken up at midday stands what docs/RULES.md adds: the stretches that are under way are closed.
use Rattle.std.specs.Prelude.{ℕ, zero, suc, ◌-◌, Bool, false, cond, not, ◌&&◌, List, [], ◌++◌, eqb, length}
use Rattle.std.proofs.Math.Option.{Option, none, some, get_or}
use Rattle.model.specs.Lists.{up_from, positions, any, has, those, first_of, least_by, or_else}
use Rattle.model.specs.Line.{job, at}
use Rattle.model.specs.Mate.{takes_at, device_at, takes, mate, lasting_at, held_lines}
use Rattle.model.specs.Legal.{precedes, held}

-- the lines still to do, in line order; `u` below
unfoldable pub undone : List ℕ → List ℕ → List ℕ
unfolding those has positions
undone p done = those (λ i. not (has i done)) (positions p)

-- the next lines of the jobs that are started or running: the undone lines that no undone line has to precede. They
-- stand in the order of their jobs, since jobs follow on.
unfoldable pub standing : List ℕ → List ℕ → List ℕ
unfolding those any precedes
standing p u = those (λ i. not (any (λ k. precedes p k i) u)) u

-- (a) the next line, no lasting take, of the lowest such job
unfoldable pub going_on : List ℕ → List ℕ → Option ℕ
unfolding first_of lasting_at standing
going_on p u = first_of (λ i. not (lasting_at p i)) (standing p u)

-- nobody else still wants the device of line i: no other undone line is an outermost take of it
unfoldable pub alone : List ℕ → List ℕ → ℕ → Bool
unfolding any takes device_at
alone p u i = not (any (λ k. not (eqb k i) && takes p k (device_at p i)) u)

-- (b) among the standing lasting takes whose device nobody else still wants, that of the lowest device
unfoldable pub lasting_next : List ℕ → List ℕ → Option ℕ
unfolding least_by those lasting_at alone standing device_at
lasting_next p u = least_by (device_at p) (those (λ i. lasting_at p i && alone p u i) (standing p u))

-- a turn's lines from line i on: an outermost take that is given back is done up to its give, anything else is one line
unfoldable pub last_of : List ℕ → ℕ → ℕ
unfolding takes_at mate
last_of p i = cond (takes_at p i) (get_or (mate p i) i) i

unfoldable pub run : List ℕ → ℕ → List ℕ
unfolding up_from last_of
run p i = up_from i (suc (last_of p i) - i)

unfoldable pub run_from : List ℕ → Option ℕ → List ℕ
unfolding run
run_from p none = []
run_from p (some i) = run p i

-- the lines of one turn, with u undone: (a), otherwise (b), whose take has no give and is a run by itself
unfoldable pub turn : List ℕ → List ℕ → List ℕ
unfolding run_from or_else going_on lasting_next
turn p u = run_from p (or_else (going_on p u) (lasting_next p u))

-- the rest of the order after the lines done, in at most some turns
unfoldable pub handed_after : ℕ → List ℕ → List ℕ → List ℕ
unfolding turn undone
handed_after zero p done = []
handed_after (suc turns) p done =
    let lines : List ℕ = turn p (undone p done) in lines ++ handed_after turns p (done ++ lines)

-- ---- the stretches that are under way (02, request 5)

-- a position, if there is one, is m
unfoldable pub is_at : Option ℕ → ℕ → Bool
is_at none m = false
is_at (some x) m = eqb x m

-- line m closes such a stretch: it is the give of a held line
unfoldable pub closes_held : List ℕ → ℕ → Bool
unfolding any held_lines mate is_at
closes_held p m = any (λ h. is_at (mate p h) m) (held_lines p)

-- the first undone line of job j
unfoldable pub next_of : List ℕ → List ℕ → ℕ → Option ℕ
unfolding first_of job
next_of p u j = first_of (λ k. eqb (job (at p k)) j) u

-- the segment up to line m: what its job has still to do, m included. The lines of a job stand together.
unfoldable pub segment : List ℕ → List ℕ → ℕ → List ℕ
unfolding up_from next_of job
segment p u m = let i : ℕ = get_or (next_of p u (job (at p m))) m in up_from i (suc m - i)

-- no outermost take among some lines is of a device that is held now
unfoldable pub unhindered : List ℕ → List ℕ → List ℕ → Bool
unfolding any takes_at held device_at
unhindered p done lines = not (any (λ k. takes_at p k && held p done (device_at p k)) lines)

-- The first undone closing line whose segment can be done. Lines stand in the order of their jobs, and of two closing
-- lines of a job the segment of the first is a part of that of the second: so this is the next closing line of the
-- lowest job whose segment can be done (shown in `theory`, Chosen).
unfoldable pub closing : List ℕ → List ℕ → Option ℕ
unfolding first_of closes_held unhindered segment undone
closing p done =
    let u : List ℕ = undone p done in first_of (λ m. closes_held p m && unhindered p done (segment p u m)) u

-- the segments done after the lines done, at most so many
unfoldable pub segments_after : ℕ → List ℕ → List ℕ → List ℕ
unfolding segment closing undone
segments_after zero p done = []
segments_after (suc more) p done =
    elim (closing p done) [
      | none ↦ []
      | some m ↦ (let lines : List ℕ = segment p (undone p done) m in lines ++ segments_after more p (done ++ lines))
    ]

-- all segments that can be done, from the state in which the held lines are done
unfoldable pub segments : List ℕ → List ℕ
unfolding segments_after held_lines
segments p = segments_after (length p) p (held_lines p)

-- The order handed out, by positions: the segments, then turns. Where the plan has an order each turn does a line at
-- least, so there are no more turns than lines; where it has none, turns come to do nothing, and the list is short. A
-- plan of 01 has no held lines and no segments, so that its turns begin with nothing done.
unfoldable pub handed : List ℕ → List ℕ
unfolding segments handed_after held_lines
handed p = let s : List ℕ = segments p in s ++ handed_after (length p) p (held_lines p ++ s)
