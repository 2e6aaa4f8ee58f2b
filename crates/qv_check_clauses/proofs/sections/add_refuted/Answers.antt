use Rattle.std.proofs.Common.{◌++◌}
use Rattle.qv_cert.specs.Text.{text_of}
use Rattle.qv_check_clauses.proofs.Written.{goes-on, on-weaker, refuted-added}
use Rattle.qv_check_clauses.proofs.sections.add_refuted.Goals as goal

pub returns-in_ok-add_dimacs-in-Ok-clause-adds : goal.returns-in_ok-add_dimacs-in-Ok-clause-adds
returns-in_ok-add_dimacs-in-Ok-clause-adds c =
    let old = text_of (c.args.reader.now.rest ++ c.args.cert.now.left.now) in
    let mid = text_of (c.read_to_lrat.new.reader.rest ++ c.read_to_lrat.new.source.left.now) in
    let new = text_of (c.check_refutation.new.reader.rest ++ c.check_refutation.new.source.left.now) in
    on-weaker c.accepted.result c.accepted.ensures
    (λ is task about.
    refuted-added task c.args.answer c.in-Ok.checker c.args.reader.now.given c.read_to_lrat.new.reader.given c.check_refutation.new.reader.given old mid new c.check_refutation.result c.args.out.now.items c.add_dimacs.new.out.items
    (c.in-Ok.ensures.goes task about) (c.check_refutation.ensures.verdict task) is c.in_ok-add_dimacs-in-Ok.ensures)

pub returns-in_ok-add_dimacs-in-Ok-clause-goes_on : goal.returns-in_ok-add_dimacs-in-Ok-clause-goes_on
returns-in_ok-add_dimacs-in-Ok-clause-goes_on c =
    on-weaker c.accepted.result c.accepted.ensures (λ is. goes-on c.check_refutation.result c.args.answer _ _ c.check_refutation.new.reader c.check_refutation.ensures.ends is)
