-- The numbered clause list of formulas: what a refutation is held against.
use Rattle.std.specs.Prelude.{◌≡◌, ◌↔◌, ℕ, suc, Bool, true, List, [], ◌∷◌, map}
use Rattle.qv_words.specs.Tree.{Tree}
use Rattle.qv_words.specs.Gate.{Lit, clauses_value}
use Rattle.qv_words.specs.Clauses.{cnf, cnf_variables}
use Rattle.qv_cnf.specs.Listing.{Numbered, clauses_of}
use Rattle.qv_cnf.specs.Truth.{IsModel}
use Rattle.qv_cnf_bridge_laws.specs.Bridge.{literal_for}

-- clauses with ids, the first of which is this one
abbrev pub numbered_from : ℕ → List (List Lit) → List Numbered
numbered_from id [] = []
numbered_from id (clause ∷ clauses) = record { id = id; lits = map literal_for clause } ∷ numbered_from (suc id) clauses

-- the clause list of formulas, with ids from 1
abbrev pub clause_list : List Tree → List Numbered
clause_list formulas = numbered_from 1 (cnf formulas)

-- how many variables it has, from 1
abbrev pub variables_of : List Tree → ℕ
variables_of formulas = cnf_variables formulas

-- an assignment is a model of the one exactly where it is one of the other
abbrev pub ClausesMeanTheSame : Type 0
ClausesMeanTheSame =
    (formulas : List Tree) (v : ℕ → Bool) → IsModel v (clauses_of (clause_list formulas)) ↔ (clauses_value v (cnf formulas) ≡ true)
