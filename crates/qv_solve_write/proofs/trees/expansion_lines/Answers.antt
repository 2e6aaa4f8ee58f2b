use Rattle.std.proofs.Common.{◌<◌, ◌^◌, List, length, sym, ap, subst, ◌∙◌, arith}
use Rattle.std.proofs.lemmas.List.{length-map}
use Rattle.qv_words.specs.declared.op.Answer.TheVariants.{Unsat}
use Rattle.qv_store.specs.Problems.{problem_in}
use Rattle.qv_cert.specs.Line.{CertLine}
use Rattle.qv_cert.specs.Listed.{listed_by, nothing}
use Rattle.qv_cert.specs.Shown.{HaveNoFault}
use Rattle.qv_expand.specs.Trees.{line_in, lines_in}
use Rattle.qv_solve_write_laws.specs.WritingLaws.{AreLinesOf}
use Rattle.qv_solve_write_laws.proofs.Written.{trees-written}
use Rattle.qv_solve_write.specs.Said.{lines_said}
use Rattle.qv_solve_write.proofs.Ranged.{lines-ranged}
use Rattle.qv_solve_write.proofs.trees.expansion_lines.Goals as goal

pub write_tree-requires-clause-range : goal.write_tree-requires-clause-range
write_tree-requires-clause-range c =
    let lines = lines_in c.args.store.now c.args.tree.now in
    let few : length lines < 2 ^ 62 = omega (arith, c.requires.few, length-map c.args.tree.now (line_in c.args.store.now)) in
    lines-ranged (problem_in c.args.store.now c.args.problem.now) lines few c.requires.section

pub list_all-requires-clause-lawful : goal.list_all-requires-clause-lawful
list_all-requires-clause-lawful c =
    let p = problem_in c.args.store.now c.args.problem.now in
    let law = trees-written p (lines_in c.args.store.now c.args.tree.now) c.requires.section in
    subst (λ (ls : List CertLine). HaveNoFault p nothing ls) (sym (ap lines_said c.deref.ensures.value ∙ c.in_ok-lines.ensures.lines)) law.0.lawful

pub returns-clause-lawful : goal.returns-clause-lawful
returns-clause-lawful c =
    let p = problem_in c.args.store.now c.args.problem.now in
    let law = trees-written p (lines_in c.args.store.now c.args.tree.now) c.requires.section in
    subst (AreLinesOf p Unsat) (sym c.in_ok-lines.ensures.lines) law.0

pub returns-clause-tree : goal.returns-clause-tree
returns-clause-tree c =
    let p = problem_in c.args.store.now c.args.problem.now in
    let law = trees-written p (lines_in c.args.store.now c.args.tree.now) c.requires.section in
    ap (λ (ls : List CertLine). (listed_by p ls).lines) c.in_ok-lines.ensures.lines ∙ law.1
