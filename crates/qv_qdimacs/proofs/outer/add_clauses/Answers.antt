use Rattle.std.specs.Prelude.{is_some, nat_eq}
use Rattle.std.specs.HashMap.{get}
use Rattle.qv_qdimacs.proofs.Gathered.{clauses-more}
use Rattle.qv_qdimacs.proofs.outer.add_clauses.Goals as goal

pub clauses-preserved : goal.clauses-preserved
clauses-preserved c =
    clauses-more (λ v. is_some (get nat_eq c.args.quantified.now v)) c.args.free.now.keys c.clauses.free.keys c.add_clause.new.free.keys
    c.args.clauses.now c.clauses.at c.get.result.now c.clauses.invariant c.get.ensures c.in_ok-add_clause.ensures
