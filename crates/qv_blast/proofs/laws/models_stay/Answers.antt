use Rattle.std.proofs.Common.{◌∙◌, List, ap}
use Rattle.std.specs.List.{list_all}
use Rattle.qv_words.specs.Clauses.{cnf}
use Rattle.qv_cnf.specs.Literal.{Literal}
use Rattle.qv_cnf.specs.Truth.{clause_value}
use Rattle.qv_cnf_bridge_laws.proofs.Bridging.{clauses-value}
use Rattle.qv_blast.proofs.laws.models_stay.Goals as goal

pub returns : goal.returns
returns _ v base formulas h = ap (λ (cs : List (List Literal)). list_all (clause_value v) cs) h ∙ clauses-value v (cnf formulas)
