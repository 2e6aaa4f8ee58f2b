use Rattle.std.proofs.Common.{◌≡◌, ◌⊎◌, List, Result, sym, subst}
use Rattle.std.specs.Prelude.{All, IfErr}
use Rattle.std.proofs.lemmas.Result.{err_from_is_err_and}
use Rattle.qv_cnf.specs.declared.steps.Step.{Step}
use Rattle.qv_cnf.specs.LratLine.{lines_of}
use Rattle.qv_lrat_text.specs.Grammar.{HasIds}
use Rattle.qv_meter.specs.declared.faults.PlayFault.{PlayFault}
use Rattle.qv_meter.specs.declared.faults.PlayFault.TheVariants.{NoMemory, Spent}
use Rattle.qv_meter.specs.declared.records.SpentKind.TheVariants.{Conflicts}
use Rattle.qv_solve_refute.specs.declared.refuting.Refutation.{Refutation}
use Rattle.qv_solve_refute.specs.Refuting.{IsSpentBy}
use Rattle.qv_solve_refute.specs.Feeding.{listed_in}
use Rattle.qv_solve_refute.proofs.Charged.{ids-laid, may-laid, no-model-laid, refutes-laid}
use Rattle.qv_solve_refute.proofs.Tried.{lines-have_ids}
use Rattle.qv_solve_refute.proofs.refuting.refutation_of.Goals as goal

pub conclude-requires-clause-may : goal.conclude-requires-clause-may
conclude-requires-clause-may c =
    let laid = c.in_ok-laid.laid in
    may-laid c.args.meter.now (listed_in c.args.clauses.now) laid.core c.requires.may c.in_ok-laid.ensures.base c.in_ok-laid.ensures.laid.fed.steps

pub conclude-requires-clause-no_model : goal.conclude-requires-clause-no_model
conclude-requires-clause-no_model c =
    let laid = c.in_ok-laid.laid in
    no-model-laid (listed_in c.args.clauses.now) (lines_of laid.steps.items) laid.core c.requires.no_model c.in_ok-laid.ensures.laid

pub returns-clause-refutes : goal.returns-clause-refutes
returns-clause-refutes c =
    let laid = c.in_ok-laid.laid in
    refutes-laid c.refutes_behind.ensures (listed_in c.args.clauses.now) (lines_of laid.steps.items) c.conclude.new.core.steps laid.core c.in_ok-laid.ensures.laid c.in_ok-conclude.ensures.refutes

pub returns-clause-ids : goal.returns-clause-ids
returns-clause-ids c =
    let laid = c.in_ok-laid.laid in
    ids-laid (listed_in c.args.clauses.now) (lines_of laid.steps.items) c.conclude.new.core.steps laid.core c.in_ok-laid.ensures.laid c.in_ok-conclude.ensures.ids

pub returns-then-have_ids-clause-ids : goal.returns-then-have_ids-clause-ids
returns-then-have_ids-clause-ids c =
    let read = c.deref.ensures.value in
    let taken = c.in_ok-steps.steps-is in
    let same : c.deref.result.now ≡ c.in_ok-steps.field-0.steps.items = cc in
    subst (λ (xs : List Step). All HasIds (lines_of xs)) same (lines-have_ids c.deref.result.now (c.have_ids.ensures.0 c.if-have_ids.true))

pub returns-in_err-conclude-clause-fault : goal.returns-in_err-conclude-clause-fault
returns-in_err-conclude-clause-fault c =
    let P : PlayFault → Type 0 = λ fault. (fault ≡ NoMemory) ⊎ (fault ≡ Spent Conflicts) in
    let p = err_from_is_err_and c.from_residual-in_err-conclude.result c.from_residual-in_err-conclude.ensures.1 in
    let same : p.0 ≡ c.in_err-conclude.field-0.0 = let q = p.1 in let r = p.2 in cc in
    subst (λ (x : Result Refutation PlayFault). IfErr x P) (sym p.1) (subst P (sym same) c.in_err-conclude.ensures.fault)

pub returns-in_err-conclude-clause-spent : goal.returns-in_err-conclude-clause-spent
returns-in_err-conclude-clause-spent c =
    let P = IsSpentBy c.conclude.new.meter in
    let p = err_from_is_err_and c.from_residual-in_err-conclude.result c.from_residual-in_err-conclude.ensures.1 in
    let same : p.0 ≡ c.in_err-conclude.field-0.0 = let q = p.1 in let r = p.2 in cc in
    subst (λ (x : Result Refutation PlayFault). IfErr x P) (sym p.1) (subst P (sym same) c.in_err-conclude.ensures.spent)
