use Rattle.std.proofs.Common.{◌∙◌, refl}
use Rattle.qv_cert_nodes.proofs.FirstFaults.{skip, fits}
use Rattle.qv_cert_nodes.proofs.Kept.{numbers-there}
use Rattle.qv_cert_nodes.proofs.faults.operator_fault.Goals as goal

pub returns-then-not-has_nodes : goal.returns-then-not-has_nodes
returns-then-not-has_nodes c p =
    skip _ _ _ _ (c.if-not-is_next_node.ensures c.args.store.now)
    (fits _ _ _ (c.if-not-has_nodes.ensures.nodes ∙ numbers-there c.args.store.now c.args.listed.now c.args.kids.now))

pub returns-then-not-has_rank : goal.returns-then-not-has_rank
returns-then-not-has_rank c p =
    skip _ _ _ _ (c.if-not-is_next_node.ensures c.args.store.now)
    (skip _ _ _ _ (c.if-not-has_nodes.ensures.nodes ∙ numbers-there c.args.store.now c.args.listed.now c.args.kids.now)
    (fits _ _ _ c.if-not-has_rank.ensures))

pub returns : goal.returns
returns c p =
    skip _ _ _ _ (c.if-not-is_next_node.ensures c.args.store.now)
    (skip _ _ _ _ (c.if-not-has_nodes.ensures.nodes ∙ numbers-there c.args.store.now c.args.listed.now c.args.kids.now)
    (skip _ _ _ _ c.if-not-has_rank.ensures refl))
