use Rattle.std.proofs.Common.{◌++◌}
use Rattle.qv_words.specs.declared.op.Answer.TheVariants.{Unknown}
use Rattle.qv_cert.specs.Text.{text_of}
use Rattle.qv_check_clauses.proofs.Written.{goes-on, on-weaker, unknown-added}
use Rattle.qv_check_clauses.proofs.sections.add_answered.Goals as goal

pub returns-in-Unknown-clause-adds : goal.returns-in-Unknown-clause-adds
returns-in-Unknown-clause-adds c =
    let old = text_of (c.args.reader.now.rest ++ c.args.cert.now.left.now) in
    let new = text_of (c.close.new.reader.rest ++ c.close.new.source.left.now) in
    rw c.in-Unknown.is (on-weaker c.accepted.result c.accepted.ensures
    (λ is task about. unknown-added task c.args.reader.now.given c.close.new.reader.given old new c.close.result c.args.out.now.items (c.close.ensures.verdict task) is))

pub returns-in-Unknown-clause-goes_on : goal.returns-in-Unknown-clause-goes_on
returns-in-Unknown-clause-goes_on c = on-weaker c.accepted.result c.accepted.ensures (λ is. goes-on c.close.result Unknown _ _ c.close.new.reader c.close.ensures.ends is)

pub returns-in-Sat-clause-adds : goal.returns-in-Sat-clause-adds
returns-in-Sat-clause-adds c =
    rw c.in-Sat.is (on-weaker c.add_refuted.result c.add_refuted.ensures.adds (λ h task about. let a = h task about in record { verdict = a.verdict; added = a.added }))

pub returns-in-Unsat-clause-adds : goal.returns-in-Unsat-clause-adds
returns-in-Unsat-clause-adds c =
    rw c.in-Unsat.is (on-weaker c.add_refuted-in-Unsat.result c.add_refuted-in-Unsat.ensures.adds (λ h task about. let a = h task about in record { verdict = a.verdict; added = a.added }))
