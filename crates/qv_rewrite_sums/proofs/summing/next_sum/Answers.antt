use Rattle.std.proofs.Common.{◌≡◌, ℕ, List, length, ap, sym, ◌∙◌}
use Rattle.qv_words.specs.Tree.{Apply}
use Rattle.qv_store.specs.Nodes.{tree_at, trees_at, node_tree, children}
use Rattle.qv_rewrite_sums.specs.Held.{sums_in}
use Rattle.qv_rewrite_sums.proofs.Built.{grows-itself}
use Rattle.qv_rewrite_sums.proofs.Applying.{if-ok_two, next-application, leaf-held}
use Rattle.qv_rewrite_sums.proofs.summing.next_sum.Goals as goal

pub application_sum-requires-clause-application : goal.application_sum-requires-clause-application
application_sum-requires-clause-application c =
    let trees = c.args.store.now in
    let same : c.as_slice-in-App.result.now ≡ c.in-App.kids.items = c.as_slice-in-App.ensures ∙ c.in_ok-kids-in-App.ensures.ok ∙ c.as_slice.ensures in
    next-application trees c.args.walk.now (sums_in c.args.sums.now) c.args.id c.node.result.now c.in-App.op c.as_slice-in-App.result.now c.requires.next c.node.ensures.shared c.requires.id c.node.ensures.tree c.node.ensures.children
    (ap children c.in-App.is ∙ sym same)
    (sym c.node.ensures.tree ∙ ap (node_tree trees) c.in-App.is ∙ ap (λ (ks : List ℕ). Apply c.in-App.op (trees_at trees ks)) (sym same))

pub returns-in_default : goal.returns-in_default
returns-in_default c =
    let trees = c.args.store.now in
    record {
      sum = if-ok_two c.atom.result (λ sum e below. leaf-held trees (tree_at trees c.args.id) c.node.result.now sum.items c.node.ensures.tree c.in_default.not-Lit c.in_default.not-App e below) (c.atom.ensures.sum trees) (c.atom.ensures.below (length trees) c.requires.id);
      grows = grows-itself trees;
    }
