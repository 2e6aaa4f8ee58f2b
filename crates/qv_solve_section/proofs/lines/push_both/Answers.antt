use Rattle.qv_cnf.specs.LratLine.{lines_of}
use Rattle.qv_solve_write.specs.Said.{lines_said}
use Rattle.qv_solve_section.proofs.Lined.{both-lined, ids-behind, ids-front}
use Rattle.qv_solve_section.proofs.lines.push_both.Goals as goal

pub push_steps-requires-clause-ids : goal.push_steps-requires-clause-ids
push_steps-requires-clause-ids c = ids-front (lines_of c.args.laid.now) (lines_of c.args.steps.now) c.requires.ids

pub push_steps-requires-2-clause-ids : goal.push_steps-requires-2-clause-ids
push_steps-requires-2-clause-ids c = ids-behind (lines_of c.args.laid.now) (lines_of c.args.steps.now) c.requires.ids

pub returns-clause-lines : goal.returns-clause-lines
returns-clause-lines c =
    both-lined c.push_steps-2.result (lines_said c.args.lines.now.items) (lines_said c.push_steps.new.lines.items) (lines_said c.push_steps-2.new.lines.items) (lines_of c.args.laid.now) (lines_of c.args.steps.now)
    c.in_ok-push_steps.ensures.lines c.push_steps-2.ensures.lines
