-- Clauses under ids from 1 on, as a checker is given them.
use Rattle.std.specs.Prelude.{ℕ, suc, List, [], ◌∷◌}
use Rattle.qv_cnf.specs.Literal.{Literal}
use Rattle.qv_cnf.specs.Listing.{Numbered}

-- clauses with ids, the first of which is this one
abbrev pub under_ids : ℕ → List (List Literal) → List Numbered
under_ids id [] = []
under_ids id (clause ∷ clauses) = record { id = id; lits = clause } ∷ under_ids (suc id) clauses
