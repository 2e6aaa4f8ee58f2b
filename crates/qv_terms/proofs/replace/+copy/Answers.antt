use Rattle.std.proofs.Common.{sym, ap, ◌∙◌}
use Rattle.qv_words.specs.Tree.{Apply}
use Rattle.qv_terms.specs.View.{tree, trees}
use Rattle.qv_terms.proofs.Rows.{tree-App}
use Rattle.qv_terms.proofs.Growing.{trees-push}
use Rattle.qv_terms.proofs.replace.+copy.Goals as goal

pub copy-returns-in_ok-copy_all-in-App : goal.copy-returns-in_ok-copy_all-in-App
copy-returns-in_ok-copy_all-in-App t c =
    tree-App c.in-App.op c.in_ok-copy_all-in-App.field-0
    ∙ ap (Apply c.in-App.op) (c.in_ok-copy_all-in-App.ensures ∙ ap trees c.deref.ensures.value)
    ∙ sym (tree-App c.in-App.op c.in-App.kids) ∙ ap tree (sym c.in-App.is)

pub copy_all-loop-term-preserved : goal.copy_all-loop-term-preserved
copy_all-loop-term-preserved t c =
    ap trees c.in_ok-push.ensures.items
    ∙ trees-push c.loop-term.copied.items c.in_ok-copy.field-0 c.term-item.result c.args.terms.now c.loop-term.term-index c.loop-term-test.true c.loop-term.invariant c.in_ok-copy.ensures c.term-item.is
