-- Which literals are named in a core.
use Rattle.std.specs.Prelude.{Bool, false, List, slice_index_or}
use Rattle.qv_words.specs.Gate.{Lit}
use Rattle.qv_cnf.specs.Literal.{Literal, index_of}
use Rattle.qv_cnf.specs.Refutation.{among}
use Rattle.qv_cnf_bridge_laws.specs.Bridge.{literal_for}

-- whether a core has the literal
abbrev pub named_by : List Literal → Lit → Bool
named_by core l = among core (literal_for l)

-- whether a table of the places of literals has a mark there
abbrev pub is_marked_in : List Bool → Lit → Bool
is_marked_in marks l = slice_index_or marks (index_of (literal_for l)) false
