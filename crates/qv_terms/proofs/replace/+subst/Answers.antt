use Rattle.std.proofs.Common.{◌≡◌, sym, ap, ◌∙◌, subst, rules}
use Rattle.qv_words.specs.Tree.{Apply, IsQuantifierFree}
use Rattle.qv_words.specs.Replacement.{replaced}
use Rattle.qv_terms.specs.View.{tree, trees, trees_by_level}
use Rattle.qv_terms.specs.declared.term.Term.TheViews.{the_lemmas}
use Rattle.qv_terms.proofs.Rows.{tree-App}
use Rattle.qv_terms.proofs.Growing.{replaced-push}
use Rattle.qv_terms.proofs.Evaluating.{plain_at}
use Rattle.qv_terms.proofs.replace.+subst.Goals as goal

pub subst-subst_all-requires : goal.subst-subst_all-requires
subst-subst_all-requires t c =
    let shape : tree c.args.term.now ≡ Apply c.in-App.op (trees c.deref.result.now) =
    ap tree c.in-App.is ∙ tree-App c.in-App.op c.in-App.kids ∙ ap (λ kids. Apply c.in-App.op (trees kids)) (sym c.deref.ensures.value) in
    (search (rules, the_lemmas), subst IsQuantifierFree shape c.requires)

pub subst-returns-in_ok-subst_all-in-App : goal.subst-returns-in_ok-subst_all-in-App
subst-returns-in_ok-subst_all-in-App t c =
    let shape : tree c.args.term.now ≡ Apply c.in-App.op (trees c.deref.result.now) =
    ap tree c.in-App.is ∙ tree-App c.in-App.op c.in-App.kids ∙ ap (λ kids. Apply c.in-App.op (trees kids)) (sym c.deref.ensures.value) in
    tree-App c.in-App.op c.in_ok-subst_all-in-App.field-0
    ∙ ap (Apply c.in-App.op) c.in_ok-subst_all-in-App.ensures ∙ ap (replaced (trees_by_level c.args.terms.now)) (sym shape)

pub subst_all-subst-requires : goal.subst_all-subst-requires
subst_all-subst-requires t c = (
  search (rules, the_lemmas),
  subst (λ x. IsQuantifierFree (tree x)) (sym c.arg-item.is) (plain_at c.args.args.now c.loop-arg.arg-index c.arg-item.result c.loop-arg-test.true c.requires),
)

pub subst_all-loop-arg-preserved : goal.subst_all-loop-arg-preserved
subst_all-loop-arg-preserved t c =
    ap trees c.in_ok-push.ensures.items
    ∙ replaced-push (trees_by_level c.args.terms.now) c.loop-arg.made.items c.in_ok-subst.field-0 c.arg-item.result c.args.args.now c.loop-arg.arg-index c.loop-arg-test.true c.loop-arg.invariant c.in_ok-subst.ensures c.arg-item.is
