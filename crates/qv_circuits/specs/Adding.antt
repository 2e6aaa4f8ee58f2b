-- Clauses of gates behind those of a list, under the next ids.
use Rattle.std.specs.Prelude.{ℕ, suc, List, [], ◌∷◌, map}
use Rattle.qv_words.specs.Gate.{Lit, Gate, gates_clauses}
use Rattle.qv_cnf.specs.Literal.{Literal}
use Rattle.qv_cnf.specs.Listing.{Listing, with_clause}
use Rattle.qv_cnf_bridge_laws.specs.Bridge.{clauses_for}

-- the literal of the same variable and sign, as circuits have it
abbrev pub lit_of : Literal → Lit
lit_of l = record { variable = l.variable; positive = l.positive }

abbrev pub lits_of : List Literal → List Lit
lits_of lits = map lit_of lits

-- clauses in their order, under the ids from this one on
abbrev pub with_clauses : Listing → ℕ → List (List Literal) → Listing
with_clauses l id [] = l
with_clauses l id (c ∷ cs) = with_clauses (with_clause l id c) (suc id) cs

-- the clauses of gates, the first of which has this variable
abbrev pub gate_list : ℕ → List Gate → List (List Literal)
gate_list next gates = clauses_for (gates_clauses next gates)
