-- Clauses that are searched for those of a list.
use Rattle.std.specs.Prelude.{◌≡◌, ◌⊎◌, ℤ, List, [], ◌∷◌, ◌++◌}
use Rattle.qv_words.specs.Tree.{Tree}
use Rattle.qv_words.specs.Clauses.{cnf}
use Rattle.qv_cnf.specs.Literal.{Literal}
use Rattle.qv_cnf.specs.Listing.{Numbered}
use Rattle.qv_cnf.specs.Refutation.{IsRup}
use Rattle.qv_cnf_bridge_laws.specs.Bridge.{clauses_for}

-- behind others, clauses under ids are these clauses in their order, and among them further ones,
-- each of which follows by hints from all that stand before it
abbrev pub HaveClauses : (before base : List Numbered) → List (List Literal) → Type 0
HaveClauses before [] clauses = clauses ≡ []
HaveClauses before (c ∷ base) clauses =
    ((rest : List (List Literal)) × (clauses ≡ c.lits ∷ rest) × HaveClauses (before ++ c ∷ []) base rest)
    ⊎ (((hints : List ℤ) × IsRup before c.lits hints) × HaveClauses (before ++ c ∷ []) base clauses)

-- a base has the clauses of the formulas, and may have such as follow
abbrev pub IsBaseOf : List Numbered → List Tree → Type 0
IsBaseOf base formulas = HaveClauses [] base (clauses_for (cnf formulas))
