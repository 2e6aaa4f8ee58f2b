use Rattle.std.proofs.Common.{◌≡◌, ◌<◌, ◌≤◌, length, Some, ap, sym, ◌∙◌, subst, arith, rules}
use Rattle.std.proofs.lemmas.Grind.{common_steps}
use Rattle.qv_words.specs.Word.{word_value}
use Rattle.qv_words.specs.Tree.{Tree, Apply, Constant, Variable, tree_sort}
use Rattle.qv_words.specs.Values.{HasWords, MeansUnder}
use Rattle.qv_terms.specs.View.{tree, trees}
use Rattle.qv_terms.specs.declared.term.Term.TheViews.{the_lemmas}
use Rattle.qv_terms.proofs.Rows.{tree-App}
use Rattle.qv_terms.proofs.Evaluating.{leaf_within, leaf_word, IsReady, ready_at, few, values-more, value-Apply, rank-Apply}
use Rattle.qv_terms.proofs.evaluate.+eval.Goals as goal

pub eval-index-requires : goal.eval-index-requires
eval-index-requires t c =
    let words : HasWords c.args.values.now.consts.items c.args.values.now.levels.items (Constant c.in-Const.index c.in-Const.sort) = rw c.in-Const.is at c.requires.words in
    let inside : c.in-Const.index < length c.args.values.now.consts.items = leaf_within _ c.in-Const.index c.in-Const.sort words.constants in
    omega (arith, inside, c.args.values.now.consts.ok.0)

pub eval-index-requires-in-Var : goal.eval-index-requires-in-Var
eval-index-requires-in-Var t c =
    let words : HasWords c.args.values.now.consts.items c.args.values.now.levels.items (Variable c.in-Var.level c.in-Var.sort) = rw c.in-Var.is at c.requires.words in
    let inside : c.in-Var.level < length c.args.values.now.levels.items = leaf_within _ c.in-Var.level c.in-Var.sort words.levels in
    omega (arith, inside, c.args.values.now.levels.ok.0)

pub eval-returns-in-Const-clause-sort : goal.eval-returns-in-Const-clause-sort
eval-returns-in-Const-clause-sort t c =
    let words : HasWords c.args.values.now.consts.items c.args.values.now.levels.items (Constant c.in-Const.index c.in-Const.sort) = rw c.in-Const.is at c.requires.words in
    let known = leaf_word _ c.in-Const.index c.in-Const.sort c.index.result.now words.constants c.index.ensures in
    rw c.in-Const.is (ap Some (sym known.0))

pub eval-returns-in-Const-clause-value : goal.eval-returns-in-Const-clause-value
eval-returns-in-Const-clause-value t c =
    let words : HasWords c.args.values.now.consts.items c.args.values.now.levels.items (Constant c.in-Const.index c.in-Const.sort) = rw c.in-Const.is at c.requires.words in
    let known = leaf_word _ c.in-Const.index c.in-Const.sort c.index.result.now words.constants c.index.ensures in
    rw c.in-Const.is known.1

pub eval-returns-in-Var-clause-sort : goal.eval-returns-in-Var-clause-sort
eval-returns-in-Var-clause-sort t c =
    let words : HasWords c.args.values.now.consts.items c.args.values.now.levels.items (Variable c.in-Var.level c.in-Var.sort) = rw c.in-Var.is at c.requires.words in
    let known = leaf_word _ c.in-Var.level c.in-Var.sort c.index-in-Var.result.now words.levels c.index-in-Var.ensures in
    rw c.in-Var.is (ap Some (sym known.0))

pub eval-returns-in-Var-clause-value : goal.eval-returns-in-Var-clause-value
eval-returns-in-Var-clause-value t c =
    let words : HasWords c.args.values.now.consts.items c.args.values.now.levels.items (Variable c.in-Var.level c.in-Var.sort) = rw c.in-Var.is at c.requires.words in
    let known = leaf_word _ c.in-Var.level c.in-Var.sort c.index-in-Var.result.now words.levels c.index-in-Var.ensures in
    rw c.in-Var.is known.1

pub eval-eval_application-requires : goal.eval-eval_application-requires
eval-eval_application-requires t c =
    let shape : tree c.args.term.now ≡ Apply c.in-App.op (trees c.deref.result.now) =
    ap tree c.in-App.is ∙ tree-App c.in-App.op c.in-App.kids ∙ ap (λ kids. Apply c.in-App.op (trees kids)) (sym c.deref.ensures.value) in
    let before : IsReady c.args.values.now.consts.items c.args.values.now.levels.items (tree c.args.term.now) =
    record { sorted = c.requires.sorted; quantifier_free = c.requires.quantifier_free; words = c.requires.words } in
    let ready : IsReady c.args.values.now.consts.items c.args.values.now.levels.items (Apply c.in-App.op (trees c.deref.result.now)) =
    subst (IsReady c.args.values.now.consts.items c.args.values.now.levels.items) shape before in
    (search (rules, the_lemmas), (ready.sorted, (ready.quantifier_free, ready.words)))

pub eval-returns-in-App-clause-sort : goal.eval-returns-in-App-clause-sort
eval-returns-in-App-clause-sort t c =
    let shape : tree c.args.term.now ≡ Apply c.in-App.op (trees c.deref.result.now) =
    ap tree c.in-App.is ∙ tree-App c.in-App.op c.in-App.kids ∙ ap (λ kids. Apply c.in-App.op (trees kids)) (sym c.deref.ensures.value) in
    ap tree_sort shape ∙ c.eval_application.ensures.sort

pub eval-returns-in-App-clause-value : goal.eval-returns-in-App-clause-value
eval-returns-in-App-clause-value t c =
    let shape : tree c.args.term.now ≡ Apply c.in-App.op (trees c.deref.result.now) =
    ap tree c.in-App.is ∙ tree-App c.in-App.op c.in-App.kids ∙ ap (λ kids. Apply c.in-App.op (trees kids)) (sym c.deref.ensures.value) in
    subst (λ (x : Tree). MeansUnder c.args.values.now.consts.items c.args.values.now.levels.items x (word_value c.eval_application.result)) (sym shape) c.eval_application.ensures.value

pub eval_application-eval-requires : goal.eval_application-eval-requires
eval_application-eval-requires t c =
    let before : IsReady c.args.values.now.consts.items c.args.values.now.levels.items (Apply c.args.op (trees c.args.args.now)) =
    record { sorted = c.requires.sorted; quantifier_free = c.requires.quantifier_free; words = c.requires.words } in
    let ready : IsReady c.args.values.now.consts.items c.args.values.now.levels.items (tree c.index-args-i.result) =
    ready_at _ _ c.args.op c.args.args.now c.loop-i.i c.index-args-i.result (omega arith) c.index-args-i.is before in
    (search (rules, the_lemmas), (ready.sorted, (ready.quantifier_free, ready.words)))

pub eval_application-bounds-words-i : goal.eval_application-bounds-words-i
eval_application-bounds-words-i t c = omega (arith, few c.args.op c.args.args.now c.requires.sorted.1)

pub eval_application-loop-i-preserved : goal.eval_application-loop-i-preserved
eval_application-loop-i-preserved t c =
    let at_most : length c.args.args.now ≤ 3 = few c.args.op c.args.args.now c.requires.sorted.1 in (
      grind (arith, common_steps),
      values-more _ _ c.args.args.now c.loop-i.words c.loop-i.i c.index-args-i.result c.eval.result (omega arith) (omega (arith, at_most, c.loop-i.invariant.0)) c.index-args-i.is
          (record { sort = c.eval.ensures.sort; value = c.eval.ensures.value })
          c.loop-i.invariant.1,
    )

pub eval_application-slice_bounds-words-end : goal.eval_application-slice_bounds-words-end
eval_application-slice_bounds-words-end t c = omega (arith, few c.args.op c.args.args.now c.requires.sorted.1, c.loop-i.invariant.0)

pub eval_application-slice_bounds-apply-end : goal.eval_application-slice_bounds-apply-end
eval_application-slice_bounds-apply-end t c =
    let at_most : length c.args.args.now ≤ 3 = few c.args.op c.args.args.now c.requires.sorted.1 in
    grind (arith, common_steps)

pub eval_application-apply-requires : goal.eval_application-apply-requires
eval_application-apply-requires t c =
    rank-Apply _ _ c.args.op c.args.args.now c.loop-i.words (omega (arith, few c.args.op c.args.args.now c.requires.sorted.1, c.loop-i.invariant.0)) (λ k d v h. c.loop-i.invariant.1 k d v (omega arith)) c.requires.sorted.1

pub eval_application-returns-clause-sort : goal.eval_application-returns-clause-sort
eval_application-returns-clause-sort t c =
    (value-Apply _ _ c.args.op c.args.args.now c.loop-i.words c.apply.result (omega (arith, few c.args.op c.args.args.now c.requires.sorted.1, c.loop-i.invariant.0)) (λ k d v h. c.loop-i.invariant.1 k d v (omega arith)) c.apply.ensures.sort c.apply.ensures.value).sort

pub eval_application-returns-clause-value : goal.eval_application-returns-clause-value
eval_application-returns-clause-value t c =
    (value-Apply _ _ c.args.op c.args.args.now c.loop-i.words c.apply.result (omega (arith, few c.args.op c.args.args.now c.requires.sorted.1, c.loop-i.invariant.0)) (λ k d v h. c.loop-i.invariant.1 k d v (omega arith)) c.apply.ensures.sort c.apply.ensures.value).value
