-- `judged::judge_entries` meets its contract: the entries listed go wrong where those of the text do.
use Rattle.judged.proofs.Answering.{answer_on_text}
use Rattle.judged.proofs.judge_entries.Goals as goal

pub returns : goal.returns
returns c = answer_on_text c.args.plan.now c.requires c.gather-n.ensures c.judge.result c.judge.ensures
