-- Values of clauses on both sides of the bridge.
use Rattle.std.proofs.Common.{◌≡◌, ℕ, Bool, true, false, List, [], ◌∷◌, refl}
use Rattle.std.specs.List.{list_all}
use Rattle.std.specs.Prelude.{map}
use Rattle.qv_words.specs.Gate.{Lit, lit_value, clauses_value}
use Rattle.qv_words.specs.Gate.{clause_value as circuit_clause_value}
use Rattle.qv_cnf.specs.Truth.{literal_value, clause_value}
use Rattle.qv_cnf_bridge_laws.specs.Bridge.{literal_for, clauses_for}

literal-value : (v : ℕ → Bool) (n : ℕ) (b : Bool) → literal_value v (record { variable = n; positive = b }) ≡ lit_value v (record { variable = n; positive = b })
literal-value v n true = refl
literal-value v n false = refl

clause-value : (v : ℕ → Bool) (lits : List Lit) → clause_value v (map literal_for lits) ≡ circuit_clause_value v lits
clause-value v [] = refl
clause-value v (l ∷ ls) = rw (literal-value v l.variable l.positive, clause-value v ls) refl

pub clauses-value : (v : ℕ → Bool) (clauses : List (List Lit)) → list_all (clause_value v) (clauses_for clauses) ≡ clauses_value v clauses
clauses-value v [] = refl
clauses-value v (c ∷ cs) = rw (clause-value v c, clauses-value v cs) refl
