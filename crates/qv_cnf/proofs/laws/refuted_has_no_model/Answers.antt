use Rattle.std.proofs.Common.{arith}
use Rattle.qv_cnf.proofs.Refuted.{none_refuted}
use Rattle.qv_cnf.specs.Refutation.{standing_at}
use Rattle.qv_cnf.proofs.laws.refuted_has_no_model.Goals as goal

pub returns : goal.returns
returns c = λ clauses lines rises h v m. none_refuted (standing_at clauses) lines (record { rises = rises; below = omega arith }) h v m
