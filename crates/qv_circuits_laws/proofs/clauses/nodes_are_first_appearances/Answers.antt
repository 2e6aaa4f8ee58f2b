use Rattle.std.proofs.Common.{[]}
use Rattle.qv_circuits_laws.proofs.Nodes.{of-formulas}
use Rattle.qv_circuits_laws.proofs.clauses.nodes_are_first_appearances.Goals as goal

pub returns : goal.returns
returns _ formulas = of-formulas [] formulas (λ u x h k. h)
