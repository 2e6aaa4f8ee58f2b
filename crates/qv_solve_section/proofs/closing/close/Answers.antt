use Rattle.qv_store.specs.Problems.{problem_in}
use Rattle.qv_store.specs.Walks.{named}
use Rattle.qv_cert_nodes.specs.Lists.{listed_in}
use Rattle.qv_solve_write.specs.Said.{lines_said}
use Rattle.qv_solve_section.specs.Sections.{formulas_of}
use Rattle.qv_solve_section.specs.declared.closing.Closing.{Closing}
use Rattle.qv_solve_section.proofs.Closed.{behind-fault, behind-owed, closed-ok, counted-ok, owed-lane}
use Rattle.qv_solve_section.proofs.closing.close.Goals as goal

pub lane-requires : goal.lane-requires
lane-requires c = owed-lane c.args.meter.now (formulas_of (problem_in c.args.store.now c.args.problem.now) c.args.answer (lines_said c.args.written.lines.items)) c.requires.owed

pub refuted_lines-requires-clause-owed : goal.refuted_lines-requires-clause-owed
refuted_lines-requires-clause-owed c =
    let made = c.in_ok-rewritten.rewritten in
    behind-owed c.args.meter.now c.lane.new.self (problem_in c.args.store.now c.args.problem.now) c.args.answer (lines_said c.args.written.lines.items) (listed_in c.args.store.now c.args.written.listed) made.passes.items (named c.rewritten_list.new.store made.list.items)
    c.lane.ensures c.requires.listed.listed c.in_ok-rewritten.ensures.list c.requires.owed

pub returns-clause-closed : goal.returns-clause-closed
returns-clause-closed c =
    let made = c.in_ok-rewritten.rewritten in
    closed-ok (λ (w : Closing). lines_said w.lines.items) (problem_in c.args.store.now c.args.problem.now) c.args.number c.args.answer c.args.meter.now c.lane.new.self (lines_said c.args.written.lines.items) (listed_in c.args.store.now c.args.written.listed)
    made.passes.items (named c.rewritten_list.new.store made.list.items) c.refuted_lines.result c.lane.ensures c.requires.listed.listed c.in_ok-rewritten.ensures.changes c.in_ok-rewritten.ensures.list c.refuted_lines.ensures.refuted c.refuted_lines.ensures.variables

pub returns-clause-section : goal.returns-clause-section
returns-clause-section c =
    let made = c.in_ok-rewritten.rewritten in
    counted-ok (λ (w : Closing). lines_said w.lines.items) (λ (w : Closing). w.variables) (problem_in c.args.store.now c.args.problem.now) c.args.number c.args.answer c.lane.new.self (lines_said c.args.written.lines.items)
    (listed_in c.args.store.now c.args.written.listed) made.passes.items (named c.rewritten_list.new.store made.list.items) c.refuted_lines.result c.requires.listed.listed c.in_ok-rewritten.ensures.changes c.in_ok-rewritten.ensures.list
    c.requires.lawful c.requires.section c.refuted_lines.ensures.refuted c.refuted_lines.ensures.variables c.refuted_lines.ensures.greatest

pub returns-clause-fault : goal.returns-clause-fault
returns-clause-fault c =
    let made = c.in_ok-rewritten.rewritten in
    behind-fault c.args.meter.now c.lane.new.self (problem_in c.args.store.now c.args.problem.now) c.args.answer (lines_said c.args.written.lines.items) (listed_in c.args.store.now c.args.written.listed) made.passes.items (named c.rewritten_list.new.store made.list.items)
    c.refuted_lines.result c.lane.ensures c.requires.listed.listed c.in_ok-rewritten.ensures.changes c.in_ok-rewritten.ensures.list c.refuted_lines.ensures.variables
