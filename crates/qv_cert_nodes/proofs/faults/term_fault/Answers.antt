use Rattle.std.proofs.Common.{◌∙◌, refl}
use Rattle.qv_store.specs.Problems.{problem_in}
use Rattle.qv_cert.specs.Listed.{tree_of_node}
use Rattle.qv_cert_nodes.specs.Lists.{listed_in}
use Rattle.qv_cert_nodes.proofs.FirstFaults.{skip, fits, skip-none, fits-some}
use Rattle.qv_cert_nodes.proofs.Kept.{number-there, term-given, depends-not, depends}
use Rattle.qv_cert_nodes.proofs.faults.term_fault.Goals as goal

pub returns-then-not-has_node : goal.returns-then-not-has_node
returns-then-not-has_node c = fits _ _ _ (c.if-not-has_node.ensures.node ∙ number-there c.args.store.now c.args.listed.now c.args.node)

pub returns-then-not-is_existential : goal.returns-then-not-is_existential
returns-then-not-is_existential c =
    skip _ _ _ _ (c.if-not-has_node.ensures.node ∙ number-there c.args.store.now c.args.listed.now c.args.node)
    (fits _ _ _ (c.if-not-is_existential.ensures c.args.store.now))

pub returns-then-has_term : goal.returns-then-has_term
returns-then-has_term c =
    skip _ _ _ _ (c.if-not-has_node.ensures.node ∙ number-there c.args.store.now c.args.listed.now c.args.node)
    (skip _ _ _ _ (c.if-not-is_existential.ensures c.args.store.now)
    (fits-some _ _ _ (c.if-has_term.ensures ∙ term-given c.args.store.now c.args.listed.now.terms.items c.args.place)))

pub returns-then-not-has_sort : goal.returns-then-not-has_sort
returns-then-not-has_sort c =
    skip _ _ _ _ (c.if-not-has_node.ensures.node ∙ number-there c.args.store.now c.args.listed.now c.args.node)
    (skip _ _ _ _ (c.if-not-is_existential.ensures c.args.store.now)
    (skip-none _ _ _ _ (c.if-has_term.ensures ∙ term-given c.args.store.now c.args.listed.now.terms.items c.args.place)
    (fits _ _ _ (c.if-not-has_sort.ensures c.args.store.now (tree_of_node (listed_in c.args.store.now c.args.listed.now) c.args.node) c.sort_of.ensures))))

pub returns-then-reach-place : goal.returns-then-reach-place
returns-then-reach-place c =
    skip _ _ _ _ (c.if-not-has_node.ensures.node ∙ number-there c.args.store.now c.args.listed.now c.args.node)
    (skip _ _ _ _ (c.if-not-is_existential.ensures c.args.store.now)
    (skip-none _ _ _ _ (c.if-has_term.ensures ∙ term-given c.args.store.now c.args.listed.now.terms.items c.args.place)
    (skip _ _ _ _ (c.if-not-has_sort.ensures c.args.store.now (tree_of_node (listed_in c.args.store.now c.args.listed.now) c.args.node) c.sort_of.ensures)
    (fits _ _ _ (depends-not c.args.place c.reach.result (tree_of_node (listed_in c.args.store.now c.args.listed.now) c.args.node) (c.reach.ensures.reach c.args.store.now (problem_in c.args.store.now c.args.problem.now) c.requires) c.if-reach-place.true)))))

pub returns : goal.returns
returns c =
    skip _ _ _ _ (c.if-not-has_node.ensures.node ∙ number-there c.args.store.now c.args.listed.now c.args.node)
    (skip _ _ _ _ (c.if-not-is_existential.ensures c.args.store.now)
    (skip-none _ _ _ _ (c.if-has_term.ensures ∙ term-given c.args.store.now c.args.listed.now.terms.items c.args.place)
    (skip _ _ _ _ (c.if-not-has_sort.ensures c.args.store.now (tree_of_node (listed_in c.args.store.now c.args.listed.now) c.args.node) c.sort_of.ensures)
    (skip _ _ _ _ (depends c.args.place c.reach.result (tree_of_node (listed_in c.args.store.now c.args.listed.now) c.args.node) (c.reach.ensures.reach c.args.store.now (problem_in c.args.store.now c.args.problem.now) c.requires) c.if-reach-place.false) refl))))
