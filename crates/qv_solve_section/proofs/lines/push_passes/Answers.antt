use Rattle.std.proofs.Common.{◌≤◌, length, refl, get_or, arith}
use Rattle.std.proofs.lemmas.Option.{slice_get-get_or}
use Rattle.qv_words.specs.declared.rule.Rule.TheVariants.{Fold}
use Rattle.qv_rewrite_passes.specs.declared.pass.Pass.TheVariants.{By}
use Rattle.qv_cert.specs.Line.{Rewrite}
use Rattle.qv_cert.specs.declared.line.Line.TheVariants as line
use Rattle.qv_solve_section.proofs.Lined.{lining-end, lining-next, lining-none}
use Rattle.qv_solve_section.proofs.lines.push_passes.Goals as goal

pub passed-init : goal.passed-init
passed-init c = lining-none Rewrite c.args.lines.now.items c.args.passes.now c.requires

pub passed-preserved : goal.passed-preserved
passed-preserved c =
    let passes = c.args.passes.now in
    let i = c.passed.pass-index in
    lining-next Rewrite c.args.lines.now.items passes i (get_or passes i (By Fold)) c.passed.lines.items c.push.new.self.items (line.Rewrite (get_or passes i (By Fold))) (slice_get-get_or passes i (By Fold) c.passed-test.true) c.in_ok-push.ensures.items refl tt c.passed.invariant

pub returns-clause-lines : goal.returns-clause-lines
returns-clause-lines c =
    let end : length c.args.passes.now ≤ c.passed.pass-index = omega (arith, c.passed-test.false) in
    lining-end Rewrite c.args.lines.now.items c.args.passes.now c.passed.pass-index c.passed.lines.items end c.passed.invariant
