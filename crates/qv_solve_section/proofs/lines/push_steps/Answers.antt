use Rattle.std.proofs.Common.{◌≡◌, ◌≤◌, ◌++◌, Some, List, length, slice_get, ap, ◌∙◌, arith}
use Rattle.std.proofs.lemmas.List.Elements.{recursion_from_All}
use Rattle.qv_words.proofs.Elements.{all-at, get-map}
use Rattle.qv_cnf.specs.LratLine.{line_of, lines_of}
use Rattle.qv_lrat_text.specs.Grammar.{HasIds}
use Rattle.qv_cert.specs.Line.{CertLine, Step}
use Rattle.qv_cert_nodes.proofs.Kept.{found-there}
use Rattle.qv_solve_write.specs.Said.{lines_said}
use Rattle.qv_solve_section.proofs.Lined.{lining-end, lining-next, lining-none, map-twice}
use Rattle.qv_solve_section.proofs.lines.push_steps.Goals as goal

pub stepped-init : goal.stepped-init
stepped-init c = lining-none (λ s. Step (line_of s)) c.args.lines.now.items c.args.steps.now c.requires.form

pub step_line-requires : goal.step_line-requires
step_line-requires c =
    let steps = c.args.steps.now in
    let i = c.stepped.step-index in
    let s = c.step-item.result in
    let at : slice_get steps i ≡ Some s = found-there steps i s c.stepped-test.true c.step-item.is in
    all-at HasIds (lines_of steps) i (line_of s) (recursion_from_All HasIds (lines_of steps) c.requires.ids) (get-map line_of steps i s at)

pub stepped-preserved : goal.stepped-preserved
stepped-preserved c =
    let steps = c.args.steps.now in
    let i = c.stepped.step-index in
    let s = c.step-item.result in
    let at : slice_get steps i ≡ Some s = found-there steps i s c.stepped-test.true c.step-item.is in
    lining-next (λ x. Step (line_of x)) c.args.lines.now.items steps i s c.stepped.lines.items c.push.new.self.items c.in_ok-line.line at c.in_ok-push.ensures.items c.in_ok-line.ensures.line c.in_ok-line.ensures.form c.stepped.invariant

pub returns-clause-lines : goal.returns-clause-lines
returns-clause-lines c =
    let end : length c.args.steps.now ≤ c.stepped.step-index = omega (arith, c.stepped-test.false) in
    lining-end (λ s. Step (line_of s)) c.args.lines.now.items c.args.steps.now c.stepped.step-index c.stepped.lines.items end c.stepped.invariant
    ∙ ap (λ (ls : List CertLine). lines_said c.args.lines.now.items ++ ls) (map-twice line_of Step c.args.steps.now)
