use Rattle.std.proofs.Common.{[]}
use Rattle.qv_words.specs.Clauses.{cnf}
use Rattle.qv_cnf_bridge_laws.specs.Bridge.{clauses_for}
use Rattle.qv_blast.proofs.FromOne.{with-clauses-of}
use Rattle.qv_blast.proofs.laws.numbered_from_one.Goals as goal

pub returns : goal.returns
returns _ formulas = with-clauses-of (record { live = []; given = [] }) 1 (clauses_for (cnf formulas))
