use Rattle.std.proofs.Common.{◌≤◌, List, map, sym, subst, ◌∙◌}
use Rattle.qv_words.specs.Tree.{Tree}
use Rattle.qv_store.specs.Nodes.{tree_at}
use Rattle.qv_meter.specs.Views.{limits_of}
use Rattle.qv_script_stack.specs.declared.held.Declared.{Declared}
use Rattle.qv_script_transcript.specs.Lawful.{prefix_length}
use Rattle.qv_solve_offer.proofs.Staying.{shared-stays}
use Rattle.qv_shell_answer.specs.Checks.{IsCheckedFor, IsKept, Suits}
use Rattle.qv_shell_answer.proofs.Answered.{answer-suits, ids-assertions, ids-below, ids-one_sort, ids-over, is-checked, same-formulas}
use Rattle.qv_shell_answer.proofs.checking.answer_once.Goals as goal

pub words-offered-requires-clause-ids : goal.words-offered-requires-clause-ids
words-offered-requires-clause-ids c =
    ids-below c.args.store.now c.args.script.now c.deref.result.now (c.deref.ensures.value ∙ c.in_ok-formulas.ensures) c.requires.check

pub solve_one-requires-clause-ids : goal.solve_one-requires-clause-ids
solve_one-requires-clause-ids c =
    ids-below c.args.store.now c.args.script.now c.deref-2.result.now (c.deref-2.ensures.value ∙ c.in_ok-formulas.ensures) c.requires.check

pub solve_one-requires-clause-assertions : goal.solve_one-requires-clause-assertions
solve_one-requires-clause-assertions c =
    ids-assertions c.args.store.now c.args.script.now c.deref-2.result.now (c.deref-2.ensures.value ∙ c.in_ok-formulas.ensures) c.requires.check

pub solve_one-requires-clause-sorts : goal.solve_one-requires-clause-sorts
solve_one-requires-clause-sorts c =
    ids-one_sort c.args.store.now c.args.script.now c.deref-2.result.now (c.deref-2.ensures.value ∙ c.in_ok-formulas.ensures) c.requires.check

pub finish-requires : goal.finish-requires
finish-requires c =
    let trees = c.args.store.now in
    let held = c.args.script.now in
    let ids = c.deref-2.result.now in
    let are = c.deref-2.ensures.value ∙ c.in_ok-formulas.ensures in
    let s = c.in_ok-solved.solved in
    subst (λ (owns : List Declared). Suits owns s) (sym c.constants.ensures)
    (answer-suits held.constants (map (tree_at trees) ids) s c.requires.check.lawful (ids-over trees held ids are c.requires.check) c.in_ok-solved.ensures.constants c.in_ok-solved.ensures.form)

pub returns-clause-checked : goal.returns-clause-checked
returns-clause-checked c =
    let trees = c.args.store.now in
    let held = c.args.script.now in
    let ids = c.deref-2.result.now in
    let are = c.deref-2.ensures.value ∙ c.in_ok-formulas.ensures in
    let s = c.in_ok-solved.solved in
    let made = c.in_ok-solved.ensures in
    let it = c.in_ok-finish.field-0 in
    let limits = limits_of c.args.limits in
    let counts = c.counts_in-counts.result in
    let kept : IsKept held.constants s counts it = subst (λ (owns : List Declared). IsKept owns s counts it) c.constants.ensures c.in_ok-finish.ensures in
    subst (λ (fs : List Tree). IsCheckedFor c.args.number limits held.constants fs c.solve_one.new.meter it) (same-formulas trees held ids are)
    (is-checked c.args.number limits held.constants (map (tree_at trees) ids) c.solve_one.new.meter s (ids-over trees held ids are c.requires.check) made.counted made.form made.truth made.constants made.record.limited made.settled it counts kept c.counts_in-counts.ensures.newest c.counts_in-counts.ensures.variables)

pub returns-clause-within : goal.returns-clause-within
returns-clause-within c =
    let are = c.deref-2.ensures.value ∙ c.in_ok-formulas.ensures in
    subst (λ (fs : List Tree). prefix_length fs ≤ c.args.places) (same-formulas c.args.store.now c.args.script.now c.deref-2.result.now are) c.in_ok-solved.ensures.within

pub returns-in_err-solved-clause-shared : goal.returns-in_err-solved-clause-shared
returns-in_err-solved-clause-shared c = shared-stays c.args.store.now c.solve_one.new.store c.words-offered.new.self c.solve_one.ensures.grows c.words-offered.ensures.shared

pub returns-clause-shared : goal.returns-clause-shared
returns-clause-shared c = shared-stays c.args.store.now c.solve_one.new.store c.words-offered.new.self c.solve_one.ensures.grows c.words-offered.ensures.shared

pub returns-in_err-finish-clause-shared : goal.returns-in_err-finish-clause-shared
returns-in_err-finish-clause-shared c = shared-stays c.args.store.now c.solve_one.new.store c.words-offered.new.self c.solve_one.ensures.grows c.words-offered.ensures.shared
