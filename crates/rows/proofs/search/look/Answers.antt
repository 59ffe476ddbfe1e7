use Rattle.std.proofs.Common.{◌≡◌, ◌-◌, cond, ap, ◌∙◌, arith}
use Rattle.model.specs.Board.{devices}
use Rattle.model.specs.Sets.{empty}
use Rattle.rows.specs.Search.{meet, row_at, row_in}
use Rattle.rows.proofs.Where.{joined_begins, joined_grows}
use Rattle.rows.proofs.Looked.{into_at, row_chosen, into_chosen, into_whole, onward_whole}
use Rattle.rows.proofs.search.look.Goals as goal

pub loop-d-init : goal.loop-d-init
unfolding empty
loop-d-init c =
    let a = c.args in record {
      into = joined_begins devices devices (into_at a.rows.now a.within a.s) (omega arith);
      onto = joined_begins devices devices (row_in a.rows.now a.within) (omega arith);
    }

pub loop-d-preserved : goal.loop-d-preserved
loop-d-preserved c =
    let a = c.args in
    let l = c.loop-d in
    let rs = a.rows.now in
    let row_is : c.if_meet-row.result ≡ row_in rs a.within (l.d - 1) =
    c.if_meet-row.ensures ∙ ap (λ one. cond (meet a.within one) (row_at rs (l.d - 1)) empty) c.only-one.ensures
    ∙ row_chosen rs devices a.within (l.d - 1) c.ranges.within.fits in
    let leads_is : c.if_meet-leads.result ≡ into_at rs a.within a.s (l.d - 1) =
    c.if_meet-leads.ensures
    ∙ ap (λ one. cond (meet c.if_meet-row.result a.s) one empty) c.only-one.ensures
    ∙ into_chosen rs devices a.within a.s (l.d - 1) (omega arith) c.if_meet-row.result row_is in record {
      into = c.union-into.ensures ∙ rw leads_is
          (joined_grows devices l.d (into_at rs a.within a.s) l.into (omega arith) (omega arith) l.invariant.into);
      onto = c.union-onto.ensures ∙ rw row_is
          (joined_grows devices l.d (row_in rs a.within) l.onto (omega arith) (omega arith) l.invariant.onto);
    }

pub returns-clause-into : goal.returns-clause-into
returns-clause-into c =
    let a = c.args in
    let l = c.loop-d in
    l.invariant.into ∙ into_whole a.rows.now devices l.d a.within (omega arith) (omega arith) (omega arith) a.s

pub returns-clause-onto : goal.returns-clause-onto
returns-clause-onto c =
    let a = c.args in
    let l = c.loop-d in
    l.invariant.onto ∙ onward_whole a.rows.now devices l.d a.within (omega arith) (omega arith) (omega arith)
