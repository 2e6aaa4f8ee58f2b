-- From the literals of circuits to those of clause lists with ids.
use Rattle.std.specs.Prelude.{◌≡◌, List, map}
use Rattle.qv_words.specs.Tree.{Tree}
use Rattle.qv_words.specs.Gate.{Lit}
use Rattle.qv_words.specs.Clauses.{cnf}
use Rattle.qv_cnf.specs.Literal.{Literal}
use Rattle.qv_cnf.specs.Listing.{Numbered, clauses_of}

-- the literal of the same variable and sign
abbrev pub literal_for : Lit → Literal
literal_for l = record { variable = l.variable; positive = l.positive }

-- the same of each literal of each clause
abbrev pub clauses_for : List (List Lit) → List (List Literal)
clauses_for clauses = map (map literal_for) clauses

-- the clauses, ids aside, are those of the formulas' clause list
abbrev pub HasClausesOf : List Numbered → List Tree → Type 0
HasClausesOf base formulas = clauses_of base ≡ clauses_for (cnf formulas)
