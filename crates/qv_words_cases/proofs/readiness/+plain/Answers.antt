use Rattle.std.proofs.Common.{◌≡◌, IsTrue, List, ap, sym, ◌∙◌, subst, arith, take, get_or}
use Rattle.std.proofs.lemmas.Grind.{common_steps}
use Rattle.std.proofs.lemmas.List.{take_more}
use Rattle.qv_words.specs.Tree.{Apply, IsQuantifierFree, AreQuantifierFree}
use Rattle.qv_terms.specs.declared.term.Term.{Term}
use Rattle.qv_terms.specs.View.{tree, trees}
use Rattle.qv_terms.proofs.Rows.{tree-App}
use Rattle.qv_words_cases.proofs.Arguments.{plain-push}
use Rattle.qv_words_cases.proofs.readiness.+plain.Goals as goal

pub are_plain-loop-term-preserved : goal.are_plain-loop-term-preserved
are_plain-loop-term-preserved t c =
    let plain : IsTrue c.is_plain.result = grind (arith, common_steps) in
    let P : List Term → Type 0 = λ ts. AreQuantifierFree (trees ts) in
    let Q : Term → Type 0 = λ u. IsQuantifierFree (tree u) in
    subst P (sym (take_more c.args.terms.now c.loop-term.term-index c.term-item.result c.loop-term-test.true))
    (plain-push (take c.loop-term.term-index c.args.terms.now) (get_or c.args.terms.now c.loop-term.term-index c.term-item.result) c.loop-term.invariant
    (subst Q c.term-item.is (c.is_plain.ensures plain)))

pub is_plain-returns-in-App : goal.is_plain-returns-in-App
is_plain-returns-in-App t c =
    let shape : tree c.args.term.now ≡ Apply c.in-App.op (trees c.deref.result.now) =
    ap tree c.in-App.is ∙ tree-App c.in-App.op c.in-App.kids ∙ ap (λ kids. Apply c.in-App.op (trees kids)) (sym c.deref.ensures.value) in
    λ h. subst IsQuantifierFree (sym shape) (c.are_plain.ensures h)
