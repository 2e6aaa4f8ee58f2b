use Rattle.std.proofs.Common.{List, subst}
use Rattle.std.specs.Prelude.{IfOk, IsTrue}
use Rattle.qv_cnf.specs.Listing.{Numbered}
use Rattle.qv_cnf.specs.LratLine.{lines_of}
use Rattle.qv_cnf.specs.Refutation.{Refutes, standing_at}
use Rattle.qv_gates.specs.Closing.{Adds}
use Rattle.qv_solve_refute.proofs.Fed.{numbered-list}
use Rattle.qv_solve_refute.proofs.laying.close_list.Goals as goal

pub returns-clause-adds : goal.returns-clause-adds
returns-clause-adds c =
    subst (λ (b : List Numbered). IfOk c.close.result (λ closed. Adds (standing_at b) (lines_of closed.steps.items))) (numbered-list c.args.clauses.now c.requires) c.close.ensures.adds

pub returns-clause-refutes : goal.returns-clause-refutes
returns-clause-refutes c =
    subst (λ (b : List Numbered). IfOk c.close.result (λ closed. IsTrue closed.refuted → Refutes b (lines_of closed.steps.items))) (numbered-list c.args.clauses.now c.requires) c.close.ensures.refutes
