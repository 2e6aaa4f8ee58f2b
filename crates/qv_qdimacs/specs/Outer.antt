-- The outer variables of a file, and when the file is true.
use Rattle.std.specs.Prelude.{◌≡◌, ℕ, nat_eq, Bool, true, false, not, if◌then◌else◌, Option, List, [], ◌∷◌, ◌++◌, length, map, filter, fold}
use Rattle.std.specs.List.{list_any, flat_map, position_from}
use Rattle.std.specs.Ordering.{nat_cmp}
use Rattle.std.specs.BTreeSet.{insert_key}
use Rattle.qv_cnf.specs.Literal.{Literal}
use Rattle.qv_store.specs.declared.problem.Quant.{Quant}
use Rattle.qv_store.specs.declared.problem.Quant.TheVariants.{Exists, Forall}
use Rattle.qv_qdimacs.specs.declared.files.Quantified.{Quantified}
use Rattle.qv_qdimacs.specs.BooleanMeaning.{q_true}

-- whether a variable is among these, and where it first is
abbrev pub is_in : ℕ → List ℕ → Bool
is_in v vs = list_any (nat_eq v) vs

abbrev pub place_in : List ℕ → ℕ → Option ℕ
place_in vs v = position_from (nat_eq v) 0 vs

-- no variable is there twice
abbrev pub AreOnce : List ℕ → Type 0
AreOnce [] = Unit {0}
AreOnce (v ∷ vs) = (is_in v vs ≡ false) × AreOnce vs

-- the variables of a prefix
abbrev pub variables_of : List Quantified → List ℕ
variables_of prefix = map (λ q. q.variable) prefix

abbrev pub is_existential : Quant → Bool
is_existential Exists = true
is_existential Forall = false

-- the variables before the first universal quantifier, and the prefix from there on
abbrev pub leading : List Quantified → List ℕ
leading [] = []
leading (q ∷ prefix) = if is_existential q.quant then q.variable ∷ leading prefix else []

abbrev pub rest_of : List Quantified → List Quantified
rest_of [] = []
rest_of (q ∷ prefix) = if is_existential q.quant then rest_of prefix else q ∷ prefix

-- the variables of clauses, one of each literal
abbrev pub clause_variables : List Literal → List ℕ
clause_variables clause = map (λ l. l.variable) clause

abbrev pub occurring : List (List Literal) → List ℕ
occurring clauses = flat_map (λ clause. clause_variables clause) clauses

-- those of them that some test leaves
abbrev pub left_by : (ℕ → Bool) → List ℕ → List ℕ
left_by test vs = filter (λ v. not (test v)) vs

-- variables put among others, which rise: each at its place, unless it is there
abbrev pub put_among : List ℕ → List ℕ → List ℕ
put_among others vs = fold (insert_key nat_cmp) others vs

-- the variables of the clauses that the prefix doesn't quantify, each once, in rising order
abbrev pub free_of : List Quantified → List (List Literal) → List ℕ
free_of prefix clauses = put_among [] (left_by (λ v. is_in v (variables_of prefix)) (occurring clauses))

-- the outer variables: the free ones, and those before the first universal quantifier
abbrev pub outer_of : List Quantified → List (List Literal) → List ℕ
outer_of prefix clauses = free_of prefix clauses ++ leading prefix

-- variables with a value each
abbrev pub given : List ℕ → List Bool → List (ℕ × Bool)
given [] values = []
given (v ∷ vs) [] = []
given (v ∷ vs) (b ∷ values) = (v, b) ∷ given vs values

-- whether a file holds under values of its outer variables
abbrev pub holds_under : List Quantified → List (List Literal) → List Bool → Bool
holds_under prefix clauses values = q_true (rest_of prefix) clauses (given (outer_of prefix clauses) values)

-- a file is true: it holds under some values of its outer variables
abbrev pub IsTrueFile : List Quantified → List (List Literal) → Type 0
IsTrueFile prefix clauses =
    (values : List Bool) × (length values ≡ length (outer_of prefix clauses)) × (holds_under prefix clauses values ≡ true)
