use Rattle.std.proofs.Common.{ℕ, List, ◌∙◌, sym, subst}
use Rattle.qv_words.specs.Tree.{Tree}
use Rattle.qv_shell_answer.specs.Checks.{formulas_in}
use Rattle.qv_shell_answer.specs.Refusals.{IsSectionText}
use Rattle.qv_shell_answer.proofs.Answered.{ids-assertions, ids-below, ids-one_sort, same-formulas}
use Rattle.qv_shell_answer.proofs.checking.recheck.Goals as goal

pub refusal_of-requires-clause-ids : goal.refusal_of-requires-clause-ids
refusal_of-requires-clause-ids c =
    ids-below c.args.store.now c.args.script.now c.deref.result.now (c.deref.ensures.value ∙ c.in_ok-formulas.ensures) c.requires.check

pub refusal_of-requires-clause-assertions : goal.refusal_of-requires-clause-assertions
refusal_of-requires-clause-assertions c =
    ids-assertions c.args.store.now c.args.script.now c.deref.result.now (c.deref.ensures.value ∙ c.in_ok-formulas.ensures) c.requires.check

pub refusal_of-requires-clause-sorts : goal.refusal_of-requires-clause-sorts
refusal_of-requires-clause-sorts c =
    ids-one_sort c.args.store.now c.args.script.now c.deref.result.now (c.deref.ensures.value ∙ c.in_ok-formulas.ensures) c.requires.check

pub refusal_of-requires-clause-section : goal.refusal_of-requires-clause-section
refusal_of-requires-clause-section c =
    let ids = c.deref.result.now in
    let are = c.deref.ensures.value ∙ c.in_ok-formulas.ensures in
    let same = same-formulas c.args.store.now c.args.script.now ids are in
    subst (λ (ts : List Tree). IsSectionText ts c.args.number c.deref-2.result.now) (sym same)
    (subst (λ (bytes : List ℕ). IsSectionText (formulas_in c.args.store.now c.args.script.now) c.args.number bytes) (sym c.deref-2.ensures.value) c.requires.section)
