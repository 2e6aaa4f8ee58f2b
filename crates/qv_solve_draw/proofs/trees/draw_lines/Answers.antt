use Rattle.std.proofs.Common.{List, length, sym, ap, ◌∙◌, subst, arith}
use Rattle.std.specs.Prelude.{All}
use Rattle.std.proofs.lemmas.List.{length-map}
use Rattle.qv_words.specs.declared.op.Answer.TheVariants.{Unsat}
use Rattle.qv_words.specs.Problem.{Problem}
use Rattle.qv_words.specs.Expansion.{ExpansionLine, leaves_of}
use Rattle.qv_store.specs.Problems.{problem_in}
use Rattle.qv_store.proofs.Replacement.{grows-more, if-ok}
use Rattle.qv_entries.specs.Rows.{entries_in}
use Rattle.qv_cert.specs.Listed.{listed_by}
use Rattle.qv_expand.proofs.OneLine.{posed-grown, problem-grown}
use Rattle.qv_expand.specs.declared.tree.TreeLine.{TreeLine}
use Rattle.qv_expand.specs.Charges.{more_instances}
use Rattle.qv_expand.specs.Trees.{line_in, lines_in, AreNeverAllTrue, IsLineIn}
use Rattle.qv_solve_write.specs.Said.{lines_said}
use Rattle.qv_solve_draw.specs.Drawing.{IsListing}
use Rattle.qv_solve_draw.proofs.Begun.{few-lines, lines-there, memory-fault, when-ok}
use Rattle.qv_solve_draw.proofs.trees.draw_lines.Goals as goal

pub list_tree-requires-clause-posed : goal.list_tree-requires-clause-posed
list_tree-requires-clause-posed c = posed-grown c.args.store.now c.expansion.new.store c.expansion.ensures.grows c.args.problem.now c.requires.posed

pub list_tree-requires-clause-few : goal.list_tree-requires-clause-few
list_tree-requires-clause-few c =
    let few = few-lines (problem_in c.args.store.now c.args.problem.now) (entries_in c.args.store.now c.args.entries.now) c.args.meter.now c.expansion.new.meter (length c.in_ok-tree.tree.lines.items) c.requires.«record» c.in_ok-tree.ensures.counted c.newest-record.ensures.metering in
    omega (arith, few, ap (λ (ls : List TreeLine). length ls) c.deref.ensures.value)

pub list_tree-requires-clause-below : goal.list_tree-requires-clause-below
list_tree-requires-clause-below c =
    subst (λ (ls : List TreeLine). All (IsLineIn c.expansion.new.store) ls) (sym c.deref.ensures.value) c.in_ok-tree.ensures.terms

pub list_tree-requires-clause-section : goal.list_tree-requires-clause-section
list_tree-requires-clause-section c =
    lines-there c.args.store.now c.expansion.new.store c.expansion.ensures.grows c.args.problem.now c.requires.posed c.in_ok-tree.tree.lines.items c.deref.result.now c.deref.ensures.value c.in_ok-tree.ensures.list

pub returns-clause-tree : goal.returns-clause-tree
returns-clause-tree c =
    let mid = c.expansion.new.store in
    let same = problem-grown c.args.store.now mid c.expansion.ensures.grows c.args.problem.now c.requires.posed in
    if-ok c.list_tree.result
    (λ written h. ap (λ (p : Problem). (listed_by p (lines_said written.lines.items)).lines) (sym same) ∙ h ∙ ap (lines_in mid) c.deref.ensures.value ∙ c.in_ok-tree.ensures.lines) c.list_tree.ensures.tree

pub returns-clause-listing : goal.returns-clause-listing
returns-clause-listing c =
    let same = problem-grown c.args.store.now c.expansion.new.store c.expansion.ensures.grows c.args.problem.now c.requires.posed in
    if-ok c.list_tree.result (λ written h. subst (λ (p : Problem). IsListing c.list_tree.new.store p Unsat written) same h) c.list_tree.ensures.listing

pub returns-clause-leaves : goal.returns-clause-leaves
returns-clause-leaves c =
    let p = problem_in c.args.store.now c.args.problem.now in
    when-ok c.list_tree.result (subst (λ (ls : List ExpansionLine). AreNeverAllTrue (leaves_of p ls)) c.in_ok-tree.ensures.lines c.in_ok-tree.ensures.leaves)

pub returns-clause-counted : goal.returns-clause-counted
returns-clause-counted c =
    let many = sym (length-map c.in_ok-tree.tree.lines.items (line_in c.expansion.new.store)) ∙ ap (λ (ls : List ExpansionLine). length ls) c.in_ok-tree.ensures.lines in
    when-ok c.list_tree.result (c.in_ok-tree.ensures.counted ∙ ap (λ n. more_instances n c.args.meter.now) many)

pub returns-clause-fault : goal.returns-clause-fault
returns-clause-fault c = memory-fault c.list_tree.result c.expansion.new.meter c.list_tree.ensures.fault

pub returns-clause-grows : goal.returns-clause-grows
returns-clause-grows c = grows-more c.args.store.now c.expansion.new.store c.list_tree.new.store c.expansion.ensures.grows c.list_tree.ensures.grows
