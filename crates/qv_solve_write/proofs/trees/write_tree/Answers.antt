use Rattle.std.proofs.Common.{◌≡◌, ◌+◌, ◌≤◌, Some, length, slice_get, refl, sym, subst, ◌∙◌, arith}
use Rattle.std.specs.Prelude.{All}
use Rattle.std.proofs.lemmas.List.Elements.{recursion_from_All}
use Rattle.qv_words.proofs.Elements.{all-at, get-map}
use Rattle.qv_cert.specs.Line.{IsCertLine}
use Rattle.qv_expand.specs.Trees.{line_in, lines_in}
use Rattle.qv_cert_nodes.proofs.Kept.{found-there}
use Rattle.qv_solve_write.specs.Ranges.{IsLineInRange}
use Rattle.qv_solve_write.proofs.Written.{treeing-end, treeing-first, treeing-next}
use Rattle.qv_solve_write.proofs.trees.write_tree.Goals as goal

pub written-init : goal.written-init
written-init c = treeing-first c.args.store.now c.args.tree.now c.new-writer.result (c.new-writer.ensures.nodes c.args.store.now) c.new-writer.ensures.lines (c.new-writer.ensures.writing c.args.store.now)

pub write_line-requires-clause-range : goal.write_line-requires-clause-range
write_line-requires-clause-range c =
    let trees = c.args.store.now in
    let tree = c.args.tree.now in
    let line = c.index-tree-index.result in
    let at : slice_get tree c.written.index ≡ Some line = found-there tree c.written.index line c.written-test.true c.index-tree-index.is in
    all-at IsLineInRange (lines_in trees tree) c.written.index (line_in trees line) (recursion_from_All IsLineInRange (lines_in trees tree) c.requires.range) (get-map (line_in trees) tree c.written.index line at)

pub written-preserved : goal.written-preserved
written-preserved c =
    let tree = c.args.tree.now in
    let line = c.index-tree-index.result in
    let at : slice_get tree c.written.index ≡ Some line = found-there tree c.written.index line c.written-test.true c.index-tree-index.is in
    treeing-next c.args.store.now tree c.written.index (c.written.index + 1) line c.written.writer c.write_line.new.writer at refl c.written.invariant c.in_ok-write_line.ensures.lines c.in_ok-write_line.ensures.writing

pub returns-clause-lines : goal.returns-clause-lines
returns-clause-lines c =
    let end : length c.args.tree.now ≤ c.written.index = omega (arith, c.written-test.false) in
    c.into_lines.ensures ∙ treeing-end c.args.store.now c.args.tree.now c.written.index c.written.writer end c.written.invariant

pub returns-clause-form : goal.returns-clause-form
returns-clause-form c = subst (All IsCertLine) (sym c.into_lines.ensures) c.written.invariant.writing.form
