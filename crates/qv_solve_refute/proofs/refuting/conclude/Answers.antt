use Rattle.std.proofs.Common.{◌≡◌, List, [], sym, subst}
use Rattle.std.specs.Prelude.{All, IfOk, OnOk, Result}
use Rattle.qv_cnf.specs.Listing.{Numbered}
use Rattle.qv_cnf.specs.Refutation.{Refutes}
use Rattle.qv_lrat_text.specs.Grammar.{HasIds}
use Rattle.qv_sat.specs.declared.outcomes.Outcome.{Outcome}
use Rattle.qv_sat.specs.declared.outcomes.SatFault.{SatFault}
use Rattle.qv_sat.specs.Answering.{IsFailed, OnEmptyCore, OnUnsat}
use Rattle.qv_sat.specs.Feeding.{ComesFirst}
use Rattle.qv_solve_refute.proofs.Owed.{none-failed, steps-numbered}
use Rattle.qv_solve_refute.proofs.refuting.conclude.Goals as goal
use Rattle.qv_solve_refute.proofs.refuting.conclude.Goals.{in-Ok-Unsat, in-Err-Spent, in-Err-NoMemory}

pub returns-clause-refutes : goal.returns-clause-refutes
returns-clause-refutes c =
    let old = c.args.core.now in
    let new = c.solve.new.self in
    elim c.match-solve.branch [
      | in-Ok-Unsat w ↦
          let P : Type 0 = Refutes new.base new.steps in
          let first : ComesFirst old.base old.steps = subst (ComesFirst old.base) (sym c.requires.steps) tt in
          let refutes = subst (λ (o : Outcome). OnUnsat o (λ cs. cs ≡ [] → P)) w.in-Ok-Unsat.field-0-is (subst (λ (r : Result Outcome SatFault). OnEmptyCore r P) w.in-Ok-Unsat.is (c.solve.ensures.refutes first)) in
          let failed : IsFailed old.base [] w.in-Ok-Unsat.field-0-0.items =
          subst (λ (o : Outcome). OnUnsat o (IsFailed old.base [])) w.in-Ok-Unsat.field-0-is (subst (λ (r : Result Outcome SatFault). IfOk r (λ o. OnUnsat o (IsFailed old.base []))) w.in-Ok-Unsat.is c.solve.ensures.unsat) in
          let done : Refutes old.base new.steps = subst (λ (b : List Numbered). Refutes b new.steps) c.solve.ensures.goes_on.base (refutes (none-failed w.in-Ok-Unsat.field-0-0.items failed.among_assumptions)) in
          subst (λ r. OnOk r (Refutes old.base new.steps)) (sym w.result-is) done
      | in-Err-Spent w ↦ subst (λ r. OnOk r (Refutes old.base new.steps)) (sym w.result-is) tt
      | in-Err-NoMemory w ↦ subst (λ r. OnOk r (Refutes old.base new.steps)) (sym w.result-is) tt
    ]

pub returns-clause-ids : goal.returns-clause-ids
returns-clause-ids c =
    let old = c.args.core.now in
    let new = c.solve.new.self in
    elim c.match-solve.branch [
      | in-Ok-Unsat w ↦
          subst (λ r. OnOk r (All HasIds new.steps)) (sym w.result-is)
          (steps-numbered old new c.args.meter.now c.solve.new.budget c.requires.steps c.requires.few c.requires.ids c.solve.ensures.goes_on w.steps-steps.ensures.core c.newest-newest.ensures.metering c.solve.ensures.same c.solve.ensures.top)
      | in-Err-Spent w ↦ subst (λ r. OnOk r (All HasIds new.steps)) (sym w.result-is) tt
      | in-Err-NoMemory w ↦ subst (λ r. OnOk r (All HasIds new.steps)) (sym w.result-is) tt
    ]
