use Rattle.qv_store.specs.Problems.{problem_in}
use Rattle.qv_expand.specs.Trees.{lines_in}
use Rattle.qv_solve_draw.proofs.Begun.{lines-listing}
use Rattle.qv_solve_draw.proofs.trees.list_tree.Goals as goal

pub returns-clause-listing : goal.returns-clause-listing
returns-clause-listing c =
    lines-listing c.expansion_lines.new.store (problem_in c.args.store.now c.args.problem.now) c.in_ok-written.written (lines_in c.args.store.now c.args.tree.now) c.requires.section
    c.in_ok-written.ensures.tree c.in_ok-written.ensures.form c.in_ok-written.ensures.lawful c.in_ok-written.ensures.listed
