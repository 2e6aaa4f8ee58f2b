-- Clauses of circuits and numbered clauses.
use Rattle.std.proofs.Common.{◌≡◌, ℕ, suc, List, [], ◌∷◌, map, refl, ap, sym, ◌∙◌}
use Rattle.std.specs.List.{list_all}
use Rattle.qv_words.specs.Gate.{Lit}
use Rattle.qv_words.specs.Clauses.{cnf}
use Rattle.qv_cnf.specs.Literal.{Literal}
use Rattle.qv_cnf.specs.Listing.{clauses_of}
use Rattle.qv_cnf.specs.Truth.{clause_value}
use Rattle.qv_cnf_bridge_laws.specs.Bridge.{literal_for, clauses_for}
use Rattle.qv_cnf_bridge_laws.proofs.Bridging.{clauses-value}
use Rattle.qv_cert.specs.ClauseList.{numbered_from, ClausesMeanTheSame}

-- ids aside, numbered clauses are the clauses
pub clauses-of : (id : ℕ) (clauses : List (List Lit)) → clauses_of (numbered_from id clauses) ≡ clauses_for clauses
clauses-of id [] = refl
clauses-of id (clause ∷ clauses) = ap (λ (cs : List (List Literal)). map literal_for clause ∷ cs) (clauses-of (suc id) clauses)

pub clauses-mean-the-same : ClausesMeanTheSame
clauses-mean-the-same formulas v =
    let same = ap (λ (cs : List (List Literal)). list_all (clause_value v) cs) (clauses-of 1 (cnf formulas)) ∙ clauses-value v (cnf formulas) in
    (λ h. sym same ∙ h, λ h. same ∙ h)
