use Rattle.std.proofs.Common.{◌≡◌, ◌<◌, ℕ, List, false, length, get_or, ap, sym, subst, ◌∙◌, arith}
use Rattle.std.specs.Prelude.{All}
use Rattle.qv_store.specs.declared.node.Node.TheVariants.{App, Ex}
use Rattle.qv_store.specs.declared.node.Node.TheVariants.{All as AllNode}
use Rattle.qv_store.specs.Nodes.{node_tree, HasChildrenBelow}
use Rattle.qv_cases_terms.specs.Free.{IsFreeOf}
use Rattle.qv_cases_terms.proofs.Marks.{node-apply-free, unmarked, binder-free}
use Rattle.qv_cases_terms.proofs.closed.is_free.Goals as goal

pub returns-in-App : goal.returns-in-App
returns-in-App c = λ h.
    let trees = c.args.store.now in
    let free = c.args.free.now in
    let kids : HasChildrenBelow c.args.id (App c.in-App.op c.in-App.kids) = subst (HasChildrenBelow c.args.id) c.in-App.is c.node.ensures.children in
    let none = c.none_of.ensures (unmarked c.none_of.result h) in
    node-apply-free c.args.level trees free c.args.id c.in-App.op c.in-App.kids.items c.requires.free c.requires.next kids
    (subst (λ (xs : List ℕ). All (λ k. get_or free k false ≡ false) xs) c.as_slice.ensures none)
    (sym (ap (node_tree trees) c.in-App.is) ∙ c.node.ensures.tree)

pub returns-in-All : goal.returns-in-All
returns-in-All c = λ h.
    let trees = c.args.store.now in
    let free = c.args.free.now in
    let kids : HasChildrenBelow c.args.id (AllNode c.in-All.other c.in-All.sort c.in-All.body) = subst (HasChildrenBelow c.args.id) c.in-All.is c.node.ensures.children in
    let one : 0 < 1 = omega arith in
    let first : c.in-All.body < c.args.id = kids 0 0 one in
    let low : c.in-All.body < length free = omega (arith, first, c.requires.next) in
    subst (IsFreeOf c.args.level) (sym (ap (node_tree trees) c.in-All.is) ∙ c.node.ensures.tree)
    (binder-free c.args.level c.in-All.other c.in-All.sort trees free c.in-All.body c.requires.free low (c.is_free_below.ensures h))

pub returns-in-Ex : goal.returns-in-Ex
returns-in-Ex c = λ h.
    let trees = c.args.store.now in
    let free = c.args.free.now in
    let kids : HasChildrenBelow c.args.id (Ex c.in-Ex.other c.in-Ex.sort c.in-Ex.body) = subst (HasChildrenBelow c.args.id) c.in-Ex.is c.node.ensures.children in
    let one : 0 < 1 = omega arith in
    let first : c.in-Ex.body < c.args.id = kids 0 0 one in
    let low : c.in-Ex.body < length free = omega (arith, first, c.requires.next) in
    subst (IsFreeOf c.args.level) (sym (ap (node_tree trees) c.in-Ex.is) ∙ c.node.ensures.tree)
    (binder-free c.args.level c.in-Ex.other c.in-Ex.sort trees free c.in-Ex.body c.requires.free low (c.is_free_below-in-Ex.ensures h))
