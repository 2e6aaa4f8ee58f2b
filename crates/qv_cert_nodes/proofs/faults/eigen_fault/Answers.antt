use Rattle.std.proofs.Common.{◌∙◌, refl, ap}
use Rattle.qv_store.specs.Problems.{problem_in}
use Rattle.qv_cert.specs.Faults.{is_place, is_existential}
use Rattle.qv_cert_nodes.proofs.FirstFaults.{skip, fits}
use Rattle.qv_cert_nodes.proofs.faults.eigen_fault.Goals as goal

pub returns-then-not-is_parent : goal.returns-then-not-is_parent
returns-then-not-is_parent c trees h = skip _ _ _ _ (c.if-not-is_next_line.ensures trees) (fits _ _ _ (c.if-not-is_parent.ensures trees h))

pub returns-then-not-is_existential : goal.returns-then-not-is_existential
returns-then-not-is_existential c trees h =
    let deep = c.depth.ensures.depth trees _ h in
    skip _ _ _ _ (c.if-not-is_next_line.ensures trees)
    (skip _ _ _ _ (c.if-not-is_parent.ensures trees h)
    (fits _ _ _ (c.if-not-is_existential.ensures trees ∙ ap (is_place is_existential (problem_in trees c.args.problem.now)) deep)))

pub returns : goal.returns
returns c trees h =
    let deep = c.depth.ensures.depth trees _ h in
    skip _ _ _ _ (c.if-not-is_next_line.ensures trees)
    (skip _ _ _ _ (c.if-not-is_parent.ensures trees h)
    (skip _ _ _ _ (c.if-not-is_existential.ensures trees ∙ ap (is_place is_existential (problem_in trees c.args.problem.now)) deep) refl))
