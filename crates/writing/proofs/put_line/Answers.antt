-- `writing::put_line` meets its contract: job, verb and operand one behind another, with a byte behind each.
use Rattle.std.proofs.Common.{arith}
use Rattle.writing.proofs.Making.{Asked, verb_fits, job_asked, tab_room, verb_room, tab2_room}
use Rattle.writing.proofs.Making.{operand_asked, newline_room, line_put}
use Rattle.writing.proofs.put_line.Goals as goal
use Rattle.writing.proofs.put_line.Goals.{After-named-o, After-put_small-a, After-put_verb-b, After-put_small-c}

asked : (c : After-named-o)
    → Asked c.args.l c.args.at c.args.made.now c.job-j.result c.verb-k.result c.named-o.result
asked c = record {
  short = c.requires.0;
  bound = omega (arith, c.well_formed);
  room = c.requires.1;
  is_job = c.job-j.ensures;
  is_verb = c.verb-k.ensures;
  is_named = c.named-o.ensures;
}

pub put_small-a-requires : goal.put_small-a-requires
put_small-a-requires c = job_asked (asked (goal.at.put_small-a-requires c).After-named-o)

-- there is room for the byte behind each part
pub bounds-made-a : goal.bounds-made-a
bounds-made-a c = (tab_room (asked (goal.at.bounds-made-a c).After-named-o) c.put_small-a.ensures).0

pub overflow_add-a : goal.overflow_add-a
overflow_add-a c =
    omega (arith, tab_room (asked (goal.at.overflow_add-a c).After-named-o) c.put_small-a.ensures)

pub put_verb-b-requires : goal.put_verb-b-requires
put_verb-b-requires c =
    let q = asked (goal.at.put_verb-b-requires c).After-named-o in
    (verb_fits q, verb_room q c.put_small-a.ensures)

pub bounds-made-b : goal.bounds-made-b
bounds-made-b c =
    (tab2_room (asked (goal.at.bounds-made-b c).After-named-o) c.put_small-a.ensures c.put_verb-b.ensures).0

pub overflow_add-b : goal.overflow_add-b
overflow_add-b c =
    let q = asked (goal.at.overflow_add-b c).After-named-o in
    omega (arith, tab2_room q c.put_small-a.ensures c.put_verb-b.ensures)

pub put_small-c-requires : goal.put_small-c-requires
put_small-c-requires c =
    operand_asked (asked (goal.at.put_small-c-requires c).After-named-o) c.put_small-a.ensures c.put_verb-b.ensures

pub bounds-made-c : goal.bounds-made-c
bounds-made-c c =
    let q = asked (goal.at.bounds-made-c c).After-named-o in
    (newline_room q c.put_small-a.ensures c.put_verb-b.ensures c.put_small-c.ensures).0

pub overflow_add-result : goal.overflow_add-result
overflow_add-result c =
    let q = asked (goal.at.overflow_add-result c).After-named-o in
    omega (arith, newline_room q c.put_small-a.ensures c.put_verb-b.ensures c.put_small-c.ensures)

pub returns : goal.returns
returns c =
    let q = asked (goal.at.returns c).After-named-o in
    line_put q c.put_small-a.ensures c.put_verb-b.ensures c.put_small-c.ensures
