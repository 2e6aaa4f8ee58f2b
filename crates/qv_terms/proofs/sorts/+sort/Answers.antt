use Rattle.std.proofs.Common.{◌≡◌, IfOk, OnErr, Some, None, ap, sym, arith, ◌∙◌, subst}
use Rattle.std.proofs.lemmas.Grind.{common_steps}
use Rattle.qv_words.specs.Tree.{Tree, tree_sort, Apply}
use Rattle.qv_terms.specs.View.{tree, trees}
use Rattle.qv_terms.proofs.Rows.{tree-App, too_many, tree_sort-missing, on_err, sorts-more, tree_sort-each, ok_or-sort}
use Rattle.qv_terms.proofs.sorts.+sort.Goals as goal

pub application_sort-returns-then-args-gt-MOST_ARGUMENTS-clause-fault :
    goal.application_sort-returns-then-args-gt-MOST_ARGUMENTS-clause-fault
application_sort-returns-then-args-gt-MOST_ARGUMENTS-clause-fault t c =
    too_many c.args.op c.args.args.now c.if-args-gt-MOST_ARGUMENTS.true

pub sort_of-returns-in-App-clause-sort : goal.sort_of-returns-in-App-clause-sort
sort_of-returns-in-App-clause-sort t c =
    let shape : tree c.args.term.now ≡ Apply c.in-App.op (trees c.deref.result.now) =
    ap tree c.in-App.is ∙ tree-App c.in-App.op c.in-App.kids ∙ ap (λ kids. Apply c.in-App.op (trees kids)) (sym c.deref.ensures.value) in
    subst (λ (x : Tree). IfOk c.application_sort.result (λ sort. tree_sort x ≡ Some sort)) (sym shape) c.application_sort.ensures.sort

pub sort_of-returns-in-App-clause-fault : goal.sort_of-returns-in-App-clause-fault
sort_of-returns-in-App-clause-fault t c =
    let shape : tree c.args.term.now ≡ Apply c.in-App.op (trees c.deref.result.now) =
    ap tree c.in-App.is ∙ tree-App c.in-App.op c.in-App.kids ∙ ap (λ kids. Apply c.in-App.op (trees kids)) (sym c.deref.ensures.value) in
    subst (λ (x : Tree). OnErr c.application_sort.result (tree_sort x ≡ None)) (sym shape) c.application_sort.ensures.fault

pub application_sort-loop-i-preserved : goal.application_sort-loop-i-preserved
application_sort-loop-i-preserved t c =
    (grind (arith, common_steps), sorts-more c.args.args.now c.loop-i.sorts c.loop-i.i c.index-args-i.result c.in_ok-sorts.field-0 (omega arith) (omega arith) c.index-args-i.is c.in_ok-sorts.ensures.sort c.loop-i.invariant.1)

pub application_sort-returns-clause-sort : goal.application_sort-returns-clause-sort
application_sort-returns-clause-sort t c =
    (ok_or-sort c.result_sort.result (tree_sort (Apply c.args.op (trees c.args.args.now))) c.ok_or.result _ c.ok_or.ensures.value
    (tree_sort-each c.args.op c.args.args.now c.loop-i.sorts (omega arith) (λ k d h. c.loop-i.invariant.1 k d (omega arith)) ∙ sym c.result_sort.ensures)).0

pub application_sort-returns-clause-fault : goal.application_sort-returns-clause-fault
application_sort-returns-clause-fault t c =
    (ok_or-sort c.result_sort.result (tree_sort (Apply c.args.op (trees c.args.args.now))) c.ok_or.result _ c.ok_or.ensures.value
    (tree_sort-each c.args.op c.args.args.now c.loop-i.sorts (omega arith) (λ k d h. c.loop-i.invariant.1 k d (omega arith)) ∙ sym c.result_sort.ensures)).1

pub application_sort-returns-in_err-sorts-clause-fault :
    goal.application_sort-returns-in_err-sorts-clause-fault
application_sort-returns-in_err-sorts-clause-fault t c =
    on_err c.from_residual.result (tree_sort (Apply c.args.op (trees c.args.args.now)) ≡ None)
    (tree_sort-missing c.args.op c.args.args.now c.loop-i.i c.index-args-i.result c.loop-i-test.true c.index-args-i.is c.in_err-sorts.ensures.fault)
