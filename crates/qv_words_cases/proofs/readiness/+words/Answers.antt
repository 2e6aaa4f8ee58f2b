use Rattle.std.proofs.Common.{◌≡◌, IsTrue, List, ap, sym, ◌∙◌, subst, arith, take, get_or}
use Rattle.std.proofs.lemmas.Grind.{common_steps}
use Rattle.std.proofs.lemmas.List.{take_more}
use Rattle.qv_words.specs.Tree.{Apply}
use Rattle.qv_words.specs.Values.{HasWords}
use Rattle.qv_terms.specs.declared.term.Term.{Term}
use Rattle.qv_terms.specs.View.{tree, trees}
use Rattle.qv_terms.proofs.Rows.{tree-App}
use Rattle.qv_words_cases.specs.Ready.{HaveWords}
use Rattle.qv_words_cases.proofs.Arguments.{words-push, words-Apply}
use Rattle.qv_words_cases.proofs.readiness.+words.Goals as goal

pub have_words-loop-term-preserved : goal.have_words-loop-term-preserved
have_words-loop-term-preserved t c =
    let has : IsTrue c.has_words.result = grind (arith, common_steps) in
    let P : List Term → Type 0 = λ ts. HaveWords c.args.values.now.consts.items c.args.values.now.levels.items (trees ts) in
    let Q : Term → Type 0 = λ u. HasWords c.args.values.now.consts.items c.args.values.now.levels.items (tree u) in
    subst P (sym (take_more c.args.terms.now c.loop-term.term-index c.term-item.result c.loop-term-test.true))
    (words-push _ _ (take c.loop-term.term-index c.args.terms.now) (get_or c.args.terms.now c.loop-term.term-index c.term-item.result) c.loop-term.invariant
    (subst Q c.term-item.is (c.has_words.ensures has)))

pub has_words-returns-in-App : goal.has_words-returns-in-App
has_words-returns-in-App t c =
    let shape : tree c.args.term.now ≡ Apply c.in-App.op (trees c.deref-in-App.result.now) =
    ap tree c.in-App.is ∙ tree-App c.in-App.op c.in-App.kids ∙ ap (λ kids. Apply c.in-App.op (trees kids)) (sym c.deref-in-App.ensures.value) in
    λ h. subst (HasWords c.args.values.now.consts.items c.args.values.now.levels.items) (sym shape)
    (words-Apply _ _ c.in-App.op c.deref-in-App.result.now (c.have_words.ensures h))
