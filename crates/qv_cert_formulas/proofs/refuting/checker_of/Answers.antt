use Rattle.std.proofs.Common.{Option, subst}
use Rattle.std.specs.Prelude.{IfSome}
use Rattle.qv_store.specs.Walks.{named}
use Rattle.qv_blast.specs.declared.blaster.Blaster.{Blaster}
use Rattle.qv_blast.specs.States.{HasFormulas}
use Rattle.qv_cert_formulas.proofs.Given.{clauses-given}
use Rattle.qv_cert_formulas.proofs.refuting.checker_of.Goals as goal

pub returns-in_ok-give_clauses-in-Some-clause-standing : goal.returns-in_ok-give_clauses-in-Some-clause-standing
returns-in_ok-give_clauses-in-Some-clause-standing c =
    let formulas = named c.args.store.now c.args.formulas.now in
    let has = subst (λ (o : Option Blaster). IfSome o (λ b. HasFormulas c.args.store.now formulas b)) c.in-Some.is c.in_ok-blaster.ensures.list in
    clauses-given formulas c.clauses.result.now c.in_ok-give_clauses-in-Some.field-0 (c.clauses.ensures.cnf c.args.store.now formulas has) c.in_ok-give_clauses-in-Some.ensures
