use Rattle.qv_store.specs.Problems.{problem_in}
use Rattle.qv_cert_nodes.specs.Lists.{listed_in}
use Rattle.qv_solve_section.proofs.Closed.{never-missing}
use Rattle.qv_solve_section.proofs.closing.listed_formulas.Goals as goal

pub unreachable-requires : goal.unreachable-requires
unreachable-requires c =
    never-missing c.in_ok-first.field-0 (problem_in c.args.store.now c.args.problem.now) c.args.answer (listed_in c.args.store.now c.args.listed.now) c.requires.section c.in_ok-first.ensures.missing c.in-None.is
