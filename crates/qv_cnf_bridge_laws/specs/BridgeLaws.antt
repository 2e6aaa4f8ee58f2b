-- What pins the bridge down.
use Rattle.std.specs.Prelude.{◌≡◌, ℕ, Bool, List, ◌++◌}
use Rattle.std.specs.List.{list_all}
use Rattle.qv_words.specs.Gate.{Lit, neg, clauses_value}
use Rattle.qv_cnf.specs.Literal.{negated}
use Rattle.qv_cnf.specs.Truth.{clause_value}
use Rattle.qv_cnf_bridge_laws.specs.Bridge.{literal_for, clauses_for}

-- clauses are true under the same values on both sides
abbrev pub ValuesStay : Type 0
ValuesStay = (v : ℕ → Bool) (clauses : List (List Lit)) → list_all (clause_value v) (clauses_for clauses) ≡ clauses_value v clauses

-- a list that was put together stays so
abbrev pub ListsStay : Type 0
ListsStay = (clauses more : List (List Lit)) → clauses_for (clauses ++ more) ≡ clauses_for clauses ++ clauses_for more

-- literals that differ stay apart, and a negation stays one
abbrev pub LiteralsStayApart : Type 0
LiteralsStayApart = (a b : Lit) → (literal_for a ≡ literal_for b → a ≡ b) × (literal_for (neg a) ≡ negated (literal_for a))
