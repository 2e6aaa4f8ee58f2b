-- the variables of the literals so far
use Rattle.std.proofs.Common.{◌≡◌, take}
use Rattle.std.specs.Prelude.{is_some, nat_eq}
use Rattle.std.specs.HashMap.{get}
use Rattle.qv_qdimacs.specs.Outer.{clause_variables, left_by, put_among}
use Rattle.qv_qdimacs.proofs.outer.add_clause.Given as goal

abbrev pub invariant-lits : goal.invariant-lits
invariant-lits l = l.free.keys ≡ put_among l.fn.free.keys (left_by (λ v. is_some (get nat_eq l.quantified v)) (clause_variables (take l.lit-index l.clause)))
