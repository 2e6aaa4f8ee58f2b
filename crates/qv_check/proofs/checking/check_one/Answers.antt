use Rattle.qv_store.proofs.Replacement.{grows-more}
use Rattle.std.proofs.Common.{map, refl, sym, subst}
use Rattle.qv_store.specs.Nodes.{tree_at}
use Rattle.qv_cert.specs.CertReader.{to_give}
use Rattle.qv_cert.specs.Section.{Opening}
use Rattle.qv_check_laws.specs.AnswerLaws.{task_of}
use Rattle.qv_check_lines.specs.declared.verdict.Verdict.{Verdict}
use Rattle.qv_check_lines.specs.Judging.{IsVerdictFrom}
use Rattle.qv_check_lines.proofs.TakenBy.{nothing-took}
use Rattle.qv_check.proofs.Shown.{sat-shown, unsat-shown}
use Rattle.qv_check.proofs.checking.check_one.Goals as goal

pub returns-in-Ok-clause-sat : goal.returns-in-Ok-clause-sat
returns-in-Ok-clause-sat g c tells is =
    let formulas = map (tree_at c.args.store.now) c.args.assertions.now in
    let task = task_of formulas c.args.number c.args.reader.now.version in
    let old = g.S.Source.left c.args.source.now in
    let new = g.S.Source.left c.check_section.new.source in
    let read = c.check_section.new.reader in
    sat-shown formulas c.args.number c.args.reader.now.version c.args.reader.now.given read.given c.args.reader.now.rest read.rest old new c.requires.assertions c.requires.sorts c.check_section.ensures.telling tells
    (subst (λ (v : Verdict). IsVerdictFrom task Opening c.args.reader.now.given (to_give c.args.reader.now.rest old) read.given (to_give read.rest new) v) is
    (c.check_section.ensures.verdict task (record { problem = sym c.in-Ok.ensures.problem; version = refl }) refl))

pub returns-in-Ok-clause-unsat : goal.returns-in-Ok-clause-unsat
returns-in-Ok-clause-unsat g c tells is =
    let formulas = map (tree_at c.args.store.now) c.args.assertions.now in
    let task = task_of formulas c.args.number c.args.reader.now.version in
    let old = g.S.Source.left c.args.source.now in
    let new = g.S.Source.left c.check_section.new.source in
    let read = c.check_section.new.reader in
    unsat-shown formulas c.args.number c.args.reader.now.version c.args.reader.now.given read.given c.args.reader.now.rest read.rest old new c.requires.assertions c.requires.sorts c.check_section.ensures.telling tells
    (subst (λ (v : Verdict). IsVerdictFrom task Opening c.args.reader.now.given (to_give c.args.reader.now.rest old) read.given (to_give read.rest new) v) is
    (c.check_section.ensures.verdict task (record { problem = sym c.in-Ok.ensures.problem; version = refl }) refl))

pub returns-in-Ok-clause-took : goal.returns-in-Ok-clause-took
returns-in-Ok-clause-took g c = c.check_section.ensures.took

pub returns-in-Err-PrefixLimit-clause-took : goal.returns-in-Err-PrefixLimit-clause-took
returns-in-Err-PrefixLimit-clause-took g c = nothing-took g.S.Source.read_gives g.S.Source.left c.args.reader.now c.args.source.now

pub returns-in-Ok-clause-grows : goal.returns-in-Ok-clause-grows
returns-in-Ok-clause-grows g c = grows-more c.args.store.now c.prenex.new.store c.check_section.new.store c.prenex.ensures.grows c.check_section.ensures.grows
