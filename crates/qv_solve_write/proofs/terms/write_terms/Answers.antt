use Rattle.std.proofs.Common.{◌≡◌, ◌+◌, ◌≤◌, Some, length, slice_get, refl, sym, subst, ◌∙◌, arith}
use Rattle.std.specs.Prelude.{All}
use Rattle.std.proofs.lemmas.List.Elements.{recursion_from_All}
use Rattle.qv_words.proofs.Elements.{all-at, get-map}
use Rattle.qv_cert.specs.Line.{IsCertLine}
use Rattle.qv_cert_nodes.proofs.Kept.{found-there}
use Rattle.qv_skolem.specs.Skolems.{skolem_in, skolems_in}
use Rattle.qv_solve_write.specs.Ranges.{IsTermInRange}
use Rattle.qv_solve_write.proofs.Written.{terming-end, terming-first, terming-next}
use Rattle.qv_solve_write.proofs.terms.write_terms.Goals as goal

pub written-init : goal.written-init
written-init c = terming-first c.args.store.now c.args.terms.now c.new-writer.result (c.new-writer.ensures.nodes c.args.store.now) c.new-writer.ensures.lines (c.new-writer.ensures.writing c.args.store.now)

pub write_term-requires-clause-range : goal.write_term-requires-clause-range
write_term-requires-clause-range c =
    let trees = c.args.store.now in
    let terms = c.args.terms.now in
    let s = c.term-item.result in
    let at : slice_get terms c.written.term-index ≡ Some s = found-there terms c.written.term-index s c.written-test.true c.term-item.is in
    all-at IsTermInRange (skolems_in trees terms) c.written.term-index (skolem_in trees s) (recursion_from_All IsTermInRange (skolems_in trees terms) c.requires.range) (get-map (skolem_in trees) terms c.written.term-index s at)

pub written-preserved : goal.written-preserved
written-preserved c =
    let terms = c.args.terms.now in
    let s = c.term-item.result in
    let at : slice_get terms c.written.term-index ≡ Some s = found-there terms c.written.term-index s c.written-test.true c.term-item.is in
    terming-next c.args.store.now terms c.written.term-index (c.written.term-index + 1) s c.written.writer c.write_term.new.writer at refl c.written.invariant c.in_ok-write_term.ensures.lines c.in_ok-write_term.ensures.writing

pub returns-clause-lines : goal.returns-clause-lines
returns-clause-lines c =
    let end : length c.args.terms.now ≤ c.written.term-index = omega (arith, c.written-test.false) in
    c.into_lines.ensures ∙ terming-end c.args.store.now c.args.terms.now c.written.term-index c.written.writer end c.written.invariant

pub returns-clause-form : goal.returns-clause-form
returns-clause-form c = subst (All IsCertLine) (sym c.into_lines.ensures) c.written.invariant.writing.form
