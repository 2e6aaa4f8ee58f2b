use Rattle.std.proofs.Common.{◌∷◌, ◌++◌, []}
use Rattle.qv_cnf.proofs.RunLaws.{rises-ids_of}
use Rattle.qv_cnf.proofs.numbering.Numbering.find.Goals as goal

pub returns-then-spot-clause-rises : goal.returns-then-spot-clause-rises
returns-then-spot-clause-rises c =
    rw (← c.self.view_is) (rises-ids_of 0 0 (c.self.inside.before.items ++ c.self.inside.last ∷ []) c.self.invariant.runs)

pub returns-else-spot-clause-rises : goal.returns-else-spot-clause-rises
returns-else-spot-clause-rises c =
    rw (← c.self.view_is) (rises-ids_of 0 0 (c.self.inside.before.items ++ c.self.inside.last ∷ []) c.self.invariant.runs)
