use Rattle.std.proofs.Common.{◌≡◌, ◌≤◌, List, [], refl, sym, subst, ap, ◌∙◌}
use Rattle.qv_words.specs.Clauses.{cnf_variables}
use Rattle.qv_cnf.specs.Listing.{Numbered, clauses_of}
use Rattle.qv_cnf.specs.LratLine.{lines_of}
use Rattle.qv_cnf.specs.Refutation.{Refutes}
use Rattle.qv_store.specs.Walks.{named}
use Rattle.qv_blast.specs.States.{HasFormulas}
use Rattle.qv_cert.specs.ClauseList.{clause_list}
use Rattle.qv_solve_refute.specs.Feeding.{IsBlasted, listed_in}
use Rattle.qv_solve_refute.specs.Greatest.{greatest_variable}
use Rattle.qv_solve_refute.specs.Refuting.{steps_in}
use Rattle.qv_solve_refute.proofs.Fed.{clauses-filled, clauses-in, list-clauses, listed-clauses, terms-free}
use Rattle.qv_solve_refute.proofs.Owed.{may-charge, may-exceed, no-values, owed-terms}
use Rattle.qv_solve_refute.proofs.refuting.refute.Goals as goal

pub blast-requires-clause-free : goal.blast-requires-clause-free
blast-requires-clause-free c = terms-free c.args.store.now c.args.list.now (owed-terms c.args.meter.now (named c.args.store.now c.args.list.now) c.requires.owed)

pub refutation_of-requires-clause-each : goal.refutation_of-requires-clause-each
refutation_of-requires-clause-each c =
    let trees = c.args.store.now in
    let fs = named trees c.args.list.now in
    let l = c.clauses-clauses.result.now in
    let has : HasFormulas trees fs c.in-Some.blaster × (cnf_variables fs ≤ c.variable_limit-limit.result) = subst (IsBlasted trees fs c.variable_limit-limit.result) c.in-Some.is c.in_ok-blaster.ensures in
    clauses-filled fs (clauses_of l.live) (clauses-in fs l (c.clauses-clauses.ensures.cnf trees fs has.0)) (owed-terms c.args.meter.now fs c.requires.owed)

pub refutation_of-requires-clause-may : goal.refutation_of-requires-clause-may
refutation_of-requires-clause-may c =
    let trees = c.args.store.now in
    let fs = named trees c.args.list.now in
    let l = c.clauses-clauses.result.now in
    let has : HasFormulas trees fs c.in-Some.blaster × (cnf_variables fs ≤ c.variable_limit-limit.result) = subst (IsBlasted trees fs c.variable_limit-limit.result) c.in-Some.is c.in_ok-blaster.ensures in
    let same : listed_in l ≡ clause_list fs = listed-clauses fs l (c.clauses-clauses.ensures.cnf trees fs has.0) in
    may-charge c.args.meter.now c.lane.new.self fs (listed_in l) [] c.requires.owed c.lane.ensures (ap clauses_of same ∙ list-clauses fs) refl

pub refutation_of-requires-clause-no_model : goal.refutation_of-requires-clause-no_model
refutation_of-requires-clause-no_model c =
    let trees = c.args.store.now in
    let fs = named trees c.args.list.now in
    let l = c.clauses-clauses.result.now in
    let has : HasFormulas trees fs c.in-Some.blaster × (cnf_variables fs ≤ c.variable_limit-limit.result) = subst (IsBlasted trees fs c.variable_limit-limit.result) c.in-Some.is c.in_ok-blaster.ensures in
    no-values c.args.meter.now fs (listed_in l) c.requires.owed (listed-clauses fs l (c.clauses-clauses.ensures.cnf trees fs has.0))

pub variables-spent-requires : goal.variables-spent-requires
variables-spent-requires c =
    let trees = c.args.store.now in
    let fs = named trees c.args.list.now in
    may-exceed c.args.meter.now c.lane.new.self fs c.variable_limit-limit.result c.requires.owed c.lane.ensures c.variable_limit-limit.ensures.limit
    (subst (IsBlasted trees fs c.variable_limit-limit.result) c.in_default.is c.in_ok-blaster.ensures)

pub returns-clause-refutes : goal.returns-clause-refutes
returns-clause-refutes c =
    let trees = c.args.store.now in
    let fs = named trees c.args.list.now in
    let l = c.clauses-clauses.result.now in
    let has : HasFormulas trees fs c.in-Some.blaster × (cnf_variables fs ≤ c.variable_limit-limit.result) = subst (IsBlasted trees fs c.variable_limit-limit.result) c.in-Some.is c.in_ok-blaster.ensures in
    let same : listed_in l ≡ clause_list fs = listed-clauses fs l (c.clauses-clauses.ensures.cnf trees fs has.0) in
    subst (λ (b : List Numbered). Refutes b (steps_in (lines_of c.args.noted.now) c.in_ok-refutation.refutation)) same c.in_ok-refutation.ensures.refutes

pub returns-clause-noted : goal.returns-clause-noted
returns-clause-noted c =
    let trees = c.args.store.now in
    let fs = named trees c.args.list.now in
    let l = c.clauses-clauses.result.now in
    let has : HasFormulas trees fs c.in-Some.blaster × (cnf_variables fs ≤ c.variable_limit-limit.result) = subst (IsBlasted trees fs c.variable_limit-limit.result) c.in-Some.is c.in_ok-blaster.ensures in
    let same : listed_in l ≡ clause_list fs = listed-clauses fs l (c.clauses-clauses.ensures.cnf trees fs has.0) in
    λ refutes ids. c.in_ok-refutation.ensures.noted (subst (λ (b : List Numbered). Refutes b (lines_of c.args.noted.now)) (sym same) refutes) ids

pub returns-clause-greatest : goal.returns-clause-greatest
returns-clause-greatest c =
    let trees = c.args.store.now in
    let fs = named trees c.args.list.now in
    let l = c.clauses-clauses.result.now in
    let has : HasFormulas trees fs c.in-Some.blaster × (cnf_variables fs ≤ c.variable_limit-limit.result) = subst (IsBlasted trees fs c.variable_limit-limit.result) c.in-Some.is c.in_ok-blaster.ensures in
    c.in_ok-variables.ensures ∙ ap greatest_variable (listed-clauses fs l (c.clauses-clauses.ensures.cnf trees fs has.0))
