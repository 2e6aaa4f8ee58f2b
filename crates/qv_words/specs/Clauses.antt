-- The clause list of formulas.
use Rattle.std.specs.Prelude.{ℕ, zero, suc, ◌+◌, ◌-◌, Bool, if◌then◌else◌, unwrap_or, Option, Some, None, List, [], ◌∷◌, ◌++◌, map, length, drop}
use Rattle.std.specs.List.{list_any}
use Rattle.qv_words.specs.declared.sort.Sort.{Sort}
use Rattle.qv_words.specs.Sort.{width_of}
use Rattle.qv_words.specs.Tree.{Tree, Trees, Constant, Variable, Literal, Apply, ForAll, Exists, Nil, Cons}
use Rattle.qv_words.specs.Equality.{tree_eq}
use Rattle.qv_words.specs.Gate.{Lit, Built, positive_lit, gates_clauses, yes}
use Rattle.qv_words.specs.Routine.{bits_of_number}
use Rattle.qv_words.specs.OpCircuit.{op_circuit}

-- whether a tree is among others
abbrev pub is_among : List Tree → Tree → Bool
is_among trees t = list_any (tree_eq t) trees

-- the distinct subtrees of a tree that stand below no quantifier, behind those seen before, in
-- post-order of first appearance
abbrev mutual
  pub with_nodes : List Tree → Tree → List Tree
  with_nodes seen (Apply o args) = if is_among seen (Apply o args) then seen else with_nodes_of seen args ++ Apply o args ∷ []
  with_nodes seen t = if is_among seen t then seen else seen ++ t ∷ []

  -- the same of each tree of a list
  pub with_nodes_of : List Tree → Trees → List Tree
  with_nodes_of seen Nil = seen
  with_nodes_of seen (Cons t ts) = with_nodes_of (with_nodes seen t) ts

-- those of formulas
abbrev pub nodes_behind : List Tree → List Tree → List Tree
nodes_behind seen [] = seen
nodes_behind seen (f ∷ fs) = nodes_behind (with_nodes seen f) fs

abbrev pub nodes : List Tree → List Tree
nodes formulas = nodes_behind [] formulas

-- a tree with its bits, low bit first
pub record Blasted : Type 0 where
  pub tree : Tree
  pub bits : List Lit

-- where the list stands: the next variable, the trees that have bits, and the clauses
pub record Blasting : Type 0 where
  pub next : ℕ
  pub known : List Blasted
  pub clauses : List (List Lit)

-- at the start variable 1 is true
abbrev pub first_blasting : Blasting
first_blasting = record { next = 2; known = []; clauses = (yes ∷ []) ∷ [] }

-- the bits of a tree that has some
abbrev pub bits_of : List Blasted → Tree → Option (List Lit)
bits_of [] t = None
bits_of (b ∷ bs) t = if tree_eq t b.tree then Some b.bits else bits_of bs t

abbrev pub bits_of_each : List Blasted → Trees → List (List Lit)
bits_of_each known Nil = []
bits_of_each known (Cons t ts) = unwrap_or (bits_of known t) [] ∷ bits_of_each known ts

-- so many variables from this one on
unfoldable pub variables_from : ℕ → ℕ → List Lit
variables_from next zero = []
variables_from next (suc n) = positive_lit next ∷ variables_from (suc next) n

-- a tree with these bits, of which so many are new variables
abbrev pub with_bits : Blasting → Tree → List Lit → ℕ → Blasting
with_bits b t bits taken = record { next = b.next + taken; known = b.known ++ record { tree = t; bits = bits } ∷ []; clauses = b.clauses }

-- a leaf that isn't a literal has new variables
abbrev pub with_leaf : Blasting → Tree → Sort → Blasting
with_leaf b t s = with_bits b t (variables_from b.next (width_of s)) (width_of s)

-- an application has its operator's circuit
abbrev pub with_built : Blasting → Tree → Built (List Lit) → Blasting
with_built b t built = record {
  next = b.next + length built.gates;
  known = b.known ++ record { tree = t; bits = built.result } ∷ [];
  clauses = b.clauses ++ gates_clauses b.next built.gates;
}

-- a node whose children have their bits
abbrev pub with_node : Blasting → Tree → Blasting
with_node b (Constant i s) = with_leaf b (Constant i s) s
with_node b (Variable l s) = with_leaf b (Variable l s) s
with_node b (Literal s n) = with_bits b (Literal s n) (bits_of_number (width_of s) n) 0
with_node b (Apply o args) = with_built b (Apply o args) (op_circuit o (bits_of_each b.known args) b.next)
with_node b (ForAll l s body) = b
with_node b (Exists l s body) = b

-- nodes in their order
abbrev pub with_each_node : Blasting → List Tree → Blasting
with_each_node b [] = b
with_each_node b (t ∷ ts) = with_each_node (with_node b t) ts

-- the trees of a list that have no bits yet
abbrev pub new_nodes : List Blasted → Tree → List Tree
new_nodes known t = drop (length known) (with_nodes (map (λ k. k.tree) known) t)

-- the unit clause of a formula's bit
abbrev pub with_unit : Tree → Blasting → Blasting
with_unit t b = record { next = b.next; known = b.known; clauses = b.clauses ++ unwrap_or (bits_of b.known t) [] ∷ [] }

-- one more formula: the clauses of its new nodes, and the unit clause of its literal
abbrev pub with_formula : Blasting → Tree → Blasting
with_formula b t = with_unit t (with_each_node b (new_nodes b.known t))

abbrev pub with_formulas : Blasting → List Tree → Blasting
with_formulas b [] = b
with_formulas b (f ∷ fs) = with_formulas (with_formula b f) fs

-- the clause list of some formulas; the ids of its clauses run from 1
unfoldable pub cnf : List Tree → List (List Lit)
cnf formulas = (with_formulas first_blasting formulas).clauses

-- how many variables it has: those before the next one
unfoldable pub cnf_variables : List Tree → ℕ
cnf_variables formulas = (with_formulas first_blasting formulas).next - 1
