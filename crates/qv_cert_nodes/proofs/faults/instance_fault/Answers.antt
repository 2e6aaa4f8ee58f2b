use Rattle.std.proofs.Common.{◌∙◌, refl, ap}
use Rattle.qv_store.specs.Problems.{problem_in}
use Rattle.qv_cert.specs.Faults.{is_place, is_universal, has_sort_at}
use Rattle.qv_cert.specs.Listed.{tree_of_node}
use Rattle.qv_cert_nodes.specs.Lists.{listed_in}
use Rattle.qv_cert_nodes.proofs.FirstFaults.{skip, fits}
use Rattle.qv_cert_nodes.proofs.Kept.{number-there}
use Rattle.qv_cert_nodes.proofs.faults.instance_fault.Goals as goal

pub returns-then-not-has_node : goal.returns-then-not-has_node
returns-then-not-has_node c =
    skip _ _ _ _ (c.if-not-is_next_line.ensures c.args.store.now)
    (fits _ _ _ (c.if-not-has_node.ensures.node ∙ number-there c.args.store.now c.args.listed.now c.args.node))

pub returns-then-not-is_parent : goal.returns-then-not-is_parent
returns-then-not-is_parent c =
    skip _ _ _ _ (c.if-not-is_next_line.ensures c.args.store.now)
    (skip _ _ _ _ (c.if-not-has_node.ensures.node ∙ number-there c.args.store.now c.args.listed.now c.args.node)
    (fits _ _ _ (c.if-not-is_parent.ensures c.args.store.now c.requires)))

pub returns-then-not-is_universal : goal.returns-then-not-is_universal
returns-then-not-is_universal c =
    let deep = c.depth-depth.ensures.depth c.args.store.now (problem_in c.args.store.now c.args.problem.now) c.requires in
    skip _ _ _ _ (c.if-not-is_next_line.ensures c.args.store.now)
    (skip _ _ _ _ (c.if-not-has_node.ensures.node ∙ number-there c.args.store.now c.args.listed.now c.args.node)
    (skip _ _ _ _ (c.if-not-is_parent.ensures c.args.store.now c.requires)
    (fits _ _ _ (c.if-not-is_universal.ensures c.args.store.now ∙ ap (is_place is_universal (problem_in c.args.store.now c.args.problem.now)) deep))))

pub returns-then-not-has_sort : goal.returns-then-not-has_sort
returns-then-not-has_sort c =
    let deep = c.depth-depth.ensures.depth c.args.store.now (problem_in c.args.store.now c.args.problem.now) c.requires in
    skip _ _ _ _ (c.if-not-is_next_line.ensures c.args.store.now)
    (skip _ _ _ _ (c.if-not-has_node.ensures.node ∙ number-there c.args.store.now c.args.listed.now c.args.node)
    (skip _ _ _ _ (c.if-not-is_parent.ensures c.args.store.now c.requires)
    (skip _ _ _ _ (c.if-not-is_universal.ensures c.args.store.now ∙ ap (is_place is_universal (problem_in c.args.store.now c.args.problem.now)) deep)
    (fits _ _ _ (c.if-not-has_sort.ensures c.args.store.now (tree_of_node (listed_in c.args.store.now c.args.listed.now) c.args.node) c.sort_of.ensures ∙ ap (λ j. has_sort_at (problem_in c.args.store.now c.args.problem.now) j (tree_of_node (listed_in c.args.store.now c.args.listed.now) c.args.node)) deep)))))

pub returns : goal.returns
returns c =
    let deep = c.depth-depth.ensures.depth c.args.store.now (problem_in c.args.store.now c.args.problem.now) c.requires in
    skip _ _ _ _ (c.if-not-is_next_line.ensures c.args.store.now)
    (skip _ _ _ _ (c.if-not-has_node.ensures.node ∙ number-there c.args.store.now c.args.listed.now c.args.node)
    (skip _ _ _ _ (c.if-not-is_parent.ensures c.args.store.now c.requires)
    (skip _ _ _ _ (c.if-not-is_universal.ensures c.args.store.now ∙ ap (is_place is_universal (problem_in c.args.store.now c.args.problem.now)) deep)
    (skip _ _ _ _ (c.if-not-has_sort.ensures c.args.store.now (tree_of_node (listed_in c.args.store.now c.args.listed.now) c.args.node) c.sort_of.ensures ∙ ap (λ j. has_sort_at (problem_in c.args.store.now c.args.problem.now) j (tree_of_node (listed_in c.args.store.now c.args.listed.now) c.args.node)) deep) refl))))
