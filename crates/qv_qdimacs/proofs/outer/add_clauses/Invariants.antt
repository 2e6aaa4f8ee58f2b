-- the variables of the clauses so far
use Rattle.std.proofs.Common.{◌≡◌, take}
use Rattle.std.specs.Prelude.{is_some, nat_eq}
use Rattle.std.specs.HashMap.{get}
use Rattle.qv_qdimacs.specs.Outer.{occurring, left_by, put_among}
use Rattle.qv_qdimacs.proofs.outer.add_clauses.Given as goal

abbrev pub invariant-clauses : goal.invariant-clauses
invariant-clauses l = l.free.keys ≡ put_among l.fn.free.keys (left_by (λ v. is_some (get nat_eq l.quantified v)) (occurring (take l.at l.clauses)))
