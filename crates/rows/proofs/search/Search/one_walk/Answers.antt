use Rattle.std.proofs.Common.{◌≡◌, true, length, sym, ◌∙◌}
use Rattle.model.specs.Sets.{member}
use Rattle.sets.proofs.Members.{without_below}
use Rattle.rows.proofs.OnCircle.{leads_back_lem}
use Rattle.rows.proofs.Finding.{left_whole, searching_found, found_less, searching_trimmed, stuck_less}
use Rattle.rows.specs.Search.{WholeIn}
use Rattle.rows.proofs.search.Search.one_walk.Goals as goal
use Rattle.rows.proofs.search.Search.one_walk.Goals.{Then-member}

-- where the walk came back
there : (c : Then-member) → member c.args.self.left c.walk-walked.result.at ≡ true
there c = sym c.member.ensures ∙ c.if-member.true

whole : (c : Then-member) → WholeIn c.args.rows.now c.walk-walked.result.at c.args.self.left
whole c =
    let old = c.args.self in
    left_whole c.args.rows.now old.left old.found c.walk-walked.result.at c.requires.underway.searching (there c)

pub circle_of-circle-requires-clause-whole : goal.circle_of-circle-requires-clause-whole
circle_of-circle-requires-clause-whole c = whole c

pub returns-then-member : goal.returns-then-member
returns-then-member c =
    let back = (goal.at.returns-then-member c).Then-member in
    let rs = c.args.rows.now in
    let old = c.args.self in
    let w = c.walk-walked in
    let m = c.circle_of-circle in
    let h = c.requires.underway in
    let again = leads_back_lem rs old.left w.result w.ensures (there back) (whole back) in
    rw (c.without.ensures, c.union.ensures) record {
      on = record {
        below = without_below (length rs) old.left m.result h.below;
        searching =
            searching_found rs old.left old.found w.result.at m.result h.searching m.ensures (there back) again;
      };
      less = found_less rs old.left old.found w.result.at m.result h.searching m.ensures (there back) again h.below;
    }

-- where it was stuck
pub returns : goal.returns
returns c =
    let rs = c.args.rows.now in
    let old = c.args.self in
    let w = c.walk-walked in
    let t = c.trim in
    let h = c.requires.underway in record {
      on = record {
        below = t.ensures.below;
        searching = searching_trimmed rs old.left old.found t.result h.searching t.ensures;
      };
      less = stuck_less rs old.left t.result w.result h.below w.ensures (sym c.member.ensures ∙ c.if-member.false)
          t.ensures;
    }
