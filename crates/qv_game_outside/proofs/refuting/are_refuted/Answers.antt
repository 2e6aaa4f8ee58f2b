use Rattle.std.proofs.Common.{Option, subst}
use Rattle.std.specs.Prelude.{IfSome}
use Rattle.qv_blast.specs.States.{HasFormulas}
use Rattle.qv_blast.specs.declared.blaster.Blaster.{Blaster}
use Rattle.qv_game_lanes.proofs.Growing.{blaster-base, blaster-filled}
use Rattle.qv_store.specs.Walks.{named}
use Rattle.qv_store.proofs.Replacement.{if-ok}
use Rattle.qv_game_outside.proofs.refuting.are_refuted.Goals as goal

pub have_no_model-requires-clause-each : goal.have_no_model-requires-clause-each
have_no_model-requires-clause-each c =
    let trees = c.args.store.now in
    let formulas = named trees c.args.formulas.now in
    let has : HasFormulas trees formulas c.in-Some.blaster = subst (λ (o : Option Blaster). IfSome o (HasFormulas trees formulas)) c.in-Some.is c.in_ok-blaster.ensures in
    blaster-filled formulas c.clauses.result.now (c.clauses.ensures.cnf trees formulas has) c.requires.terms

pub returns-in-Some : goal.returns-in-Some
returns-in-Some c =
    let trees = c.args.store.now in
    let formulas = named trees c.args.formulas.now in
    let has : HasFormulas trees formulas c.in-Some.blaster = subst (λ (o : Option Blaster). IfSome o (HasFormulas trees formulas)) c.in-Some.is c.in_ok-blaster.ensures in
    if-ok c.have_no_model.result
    (λ none given yes. given yes formulas (blaster-base formulas c.clauses.result.now (c.clauses.ensures.cnf trees formulas has))) c.have_no_model.ensures
