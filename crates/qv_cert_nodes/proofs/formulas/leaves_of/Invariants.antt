-- the leaves of the lines so far
use Rattle.qv_cert_nodes.proofs.Gathering.{IsGathered}
use Rattle.qv_cert_nodes.proofs.formulas.leaves_of.Given as goal

abbrev pub invariant-lines : goal.invariant-lines
invariant-lines l = IsGathered l.fn.store l.store l.problem l.listed l.leaves.items l.line
