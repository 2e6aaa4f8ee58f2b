use Rattle.std.proofs.Common.{◌∙◌}
use Rattle.qv_blast.proofs.Staying.{listed-cnf}
use Rattle.qv_blast.proofs.blaster.Blaster.clauses.Goals as goal

pub returns-clause-cnf : goal.returns-clause-cnf
returns-clause-cnf c trees formulas h = c.list.ensures.list ∙ listed-cnf trees formulas c.args.self.now h c.list.ensures.listed
