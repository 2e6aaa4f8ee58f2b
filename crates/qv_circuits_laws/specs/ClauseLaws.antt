-- What pins clause lists down, and the theorem that they are for.
use Rattle.std.specs.Prelude.{◌≡◌, ℕ, suc, ◌+◌, ◌≤◌, Bool, true, Option, Some, is_some, option_map, List, [], ◌∷◌, ◌++◌, if◌then◌else◌, map, length, All, unwrap_or}
use Rattle.std.specs.List.{flat_map}
use Rattle.qv_words.specs.declared.sort.Sort.{Sort}
use Rattle.qv_words.specs.declared.sort.Sort.TheVariants.{Bool as BoolSort}
use Rattle.qv_words.specs.Sort.{width_of}
use Rattle.qv_words.specs.Tree.{Tree, Trees, Constant, Variable, Apply, Nil, Cons, tree_sort, IsQuantifierFree}
use Rattle.qv_words.specs.Sorted.{HasValues, constants_of, free_levels}
use Rattle.qv_words.specs.Meaning.{Means}
use Rattle.qv_words.specs.Gate.{Lit, Gate, gates_clauses, clause_value, clauses_value, IsEvaluation}
use Rattle.qv_words.specs.OpCircuit.{op_circuit}
use Rattle.qv_words.specs.Clauses.{is_among, nodes, Blasted, Blasting, first_blasting, bits_of, bits_of_each, with_node, with_each_node, new_nodes, with_formula, with_formulas, cnf, cnf_variables}
use Rattle.qv_words.specs.PassLaws.{IsPlain}
use Rattle.qv_circuits_laws.specs.CircuitLaws.{number_of}

-- the subtrees of a tree that stand below no quantifier, in post-order, children from left to
-- right, as often as they stand there
abbrev mutual
  pub post_order : Tree → List Tree
  post_order (Apply o args) = post_order_each args ++ Apply o args ∷ []
  post_order t = t ∷ []

  pub post_order_each : Trees → List Tree
  post_order_each Nil = []
  post_order_each (Cons t ts) = post_order t ++ post_order_each ts

-- the trees of a list behind those seen before, each where it first appears
abbrev pub first_appearances : List Tree → List Tree → List Tree
first_appearances seen [] = seen
first_appearances seen (t ∷ ts) = first_appearances (if is_among seen t then seen else seen ++ t ∷ []) ts

-- the nodes are these subtrees, each where it first appears
abbrev pub NodesAreFirstAppearances : Type 0
NodesAreFirstAppearances = (formulas : List Tree) → nodes formulas ≡ first_appearances [] (flat_map post_order formulas)

-- where the list of some formulas stands
abbrev pub standing : List Tree → Blasting
standing formulas = with_formulas first_blasting formulas

-- the trees that have bits, with them
abbrev pub blasted : List Tree → List Blasted
blasted formulas = (standing formulas).known

-- the trees that have bits are the nodes, in their order
abbrev pub NodesHaveBits : Type 0
NodesHaveBits = (formulas : List Tree) → All IsQuantifierFree formulas → map (λ k. k.tree) (blasted formulas) ≡ nodes formulas

-- a tree has bits exactly where it is such a subtree of a formula
abbrev pub SubtreesHaveBits : Type 0
SubtreesHaveBits =
    (formulas : List Tree) (t : Tree) → All IsQuantifierFree formulas →
    is_some (bits_of (blasted formulas) t) ≡ is_among (flat_map post_order formulas) t

-- the bits that are found for a tree are those that it was given
abbrev pub BitsAreFound : Type 0
BitsAreFound = (formulas : List Tree) → All IsQuantifierFree formulas → All (λ k. bits_of (blasted formulas) k.tree ≡ Some k.bits) (blasted formulas)

-- bits are found where a tree is among those that have some, and in front of a list before behind
-- it
abbrev pub BitsAreFoundInOrder : Type 0
BitsAreFoundInOrder =
    (known more : List Blasted) (t : Tree) →
    (is_some (bits_of known t) ≡ is_among (map (λ k. k.tree) known) t)
    × (bits_of (known ++ more) t ≡ (if is_some (bits_of known t) then bits_of known t else bits_of more t))

-- a literal of one of the first n variables, which are numbered from 1
pub record IsOfFirst (n : ℕ) (l : Lit) : Type 0 where
  pub some : 1 ≤ l.variable
  pub within : l.variable ≤ n

-- a tree has as many bits as its sort, of such variables
pub record HasWord (n : ℕ) (k : Blasted) : Type 0 where
  pub sort : Sort
  pub is : tree_sort k.tree ≡ Some sort
  pub bit_count : length k.bits ≡ width_of sort
  pub variables : All (IsOfFirst n) k.bits

-- clauses and bits are of the list's variables, and a tree has as many bits as its sort
abbrev pub ClauseListsAreWellFormed : Type 0
ClauseListsAreWellFormed =
    (formulas : List Tree) → All IsPlain formulas →
    All (All (IsOfFirst (cnf_variables formulas))) (cnf formulas) × All (HasWord (cnf_variables formulas)) (blasted formulas)

-- the next variable is the one behind those of the list, which has variable 1
abbrev pub NextIsBehind : Type 0
NextIsBehind = (formulas : List Tree) → (1 ≤ cnf_variables formulas) × ((standing formulas).next ≡ suc (cnf_variables formulas))

-- the clauses of a longer list begin with those of the list
abbrev pub LongerListsBeginAlike : Type 0
LongerListsBeginAlike = (formulas more : List Tree) → (rest : List (List Lit)) × (cnf (formulas ++ more) ≡ cnf formulas ++ rest)

-- a list goes on with further formulas, or nodes, from where it stands
abbrev pub ListsGoOn : Type 0
ListsGoOn =
    (b : Blasting) (ts more : List Tree) →
    (with_formulas b (ts ++ more) ≡ with_formulas (with_formulas b ts) more) × (with_each_node b (ts ++ more) ≡ with_each_node (with_each_node b ts) more)

-- the clauses of a node where a list stands, and of nodes in their order
abbrev pub node_clauses : Blasting → Tree → List (List Lit)
node_clauses b (Apply o args) = gates_clauses b.next (op_circuit o (bits_of_each b.known args) b.next).gates
node_clauses b t = []

abbrev pub nodes_clauses : Blasting → List Tree → List (List Lit)
nodes_clauses b [] = []
nodes_clauses b (t ∷ ts) = node_clauses b t ++ nodes_clauses (with_node b t) ts

-- how many variables a node takes there, and nodes in their order
abbrev pub node_variables : Blasting → Tree → ℕ
node_variables b (Constant i s) = width_of s
node_variables b (Variable l s) = width_of s
node_variables b (Apply o args) = length (op_circuit o (bits_of_each b.known args) b.next).gates
node_variables b t = 0

abbrev pub nodes_variables : Blasting → List Tree → ℕ
nodes_variables b [] = 0
nodes_variables b (t ∷ ts) = node_variables b t + nodes_variables (with_node b t) ts

-- nodes add their clauses behind those that are there, and take the next variables
abbrev pub NodesAddTheirs : Type 0
NodesAddTheirs =
    (b : Blasting) (ts : List Tree) →
    ((with_each_node b ts).clauses ≡ b.clauses ++ nodes_clauses b ts) × ((with_each_node b ts).next ≡ b.next + nodes_variables b ts)

-- the nodes that one more formula adds to a list's
abbrev pub added_nodes : List Tree → Tree → List Tree
added_nodes formulas f = new_nodes (blasted formulas) f

-- one more formula: behind the clauses of the list come those of the added nodes and then the
-- formula's bit
abbrev pub OneMoreFormula : Type 0
OneMoreFormula =
    (formulas : List Tree) (f : Tree) →
    (cnf (formulas ++ f ∷ []) ≡ cnf formulas ++ nodes_clauses (standing formulas) (added_nodes formulas f) ++ unwrap_or (bits_of (blasted (formulas ++ f ∷ [])) f) [] ∷ [])
    × (cnf_variables (formulas ++ f ∷ []) ≡ cnf_variables formulas + nodes_variables (standing formulas) (added_nodes formulas f))
    × (blasted (formulas ++ f ∷ []) ≡ (with_each_node (standing formulas) (added_nodes formulas f)).known)

-- the nodes of a tree by one walk: a tree that has bits stays, and else its arguments come first
abbrev mutual
  pub walked : Blasting → Tree → Blasting
  walked b (Apply o args) = if is_among (map (λ k. k.tree) b.known) (Apply o args) then b else with_node (walked_each b args) (Apply o args)
  walked b t = if is_among (map (λ k. k.tree) b.known) t then b else with_node b t

  pub walked_each : Blasting → Trees → Blasting
  walked_each b Nil = b
  walked_each b (Cons t ts) = walked_each (walked b t) ts

-- the new nodes of a tree, one after the other, are that walk
abbrev pub NodesAreWalked : Type 0
NodesAreWalked = (b : Blasting) (t : Tree) → IsQuantifierFree t → with_each_node b (new_nodes b.known t) ≡ walked b t

-- the clauses of gates behind others
abbrev pub GatesGoOn : Type 0
GatesGoOn = (next : ℕ) (gates more : List Gate) → gates_clauses next (gates ++ more) ≡ gates_clauses next gates ++ gates_clauses (next + length gates) more

-- the gates of a node have their values, and so have those of each node of a list
abbrev pub EvaluatesNode : (ℕ → Bool) → Blasting → Tree → Type 0
EvaluatesNode v b (Apply o args) = IsEvaluation v b.next (op_circuit o (bits_of_each b.known args) b.next).gates
EvaluatesNode v b t = Unit {0}

abbrev pub EvaluatesNodes : (ℕ → Bool) → Blasting → List Tree → Type 0
EvaluatesNodes v b [] = Unit {0}
EvaluatesNodes v b (t ∷ ts) = EvaluatesNode v b t × EvaluatesNodes v (with_node b t) ts

-- the gates of the formulas' nodes have their values, and the bit of each formula is true
abbrev pub EvaluatesFormulas : (ℕ → Bool) → Blasting → List Tree → Type 0
EvaluatesFormulas v b [] = Unit {0}
EvaluatesFormulas v b (f ∷ fs) =
    EvaluatesNodes v b (new_nodes b.known f)
    × (clause_value v (unwrap_or (bits_of (with_each_node b (new_nodes b.known f)).known f) []) ≡ true)
    × EvaluatesFormulas v (with_formula b f) fs

-- the models of the clauses of formulas evaluate the gates and make variable 1 and each formula's
-- bit true
abbrev pub ModelsEvaluateFormulas : Type 0
ModelsEvaluateFormulas =
    (v : ℕ → Bool) (formulas : List Tree) →
    (clauses_value v (cnf formulas) ≡ true → (v 1 ≡ true) × EvaluatesFormulas v first_blasting formulas)
    × ((v 1 ≡ true) → EvaluatesFormulas v first_blasting formulas → clauses_value v (cnf formulas) ≡ true)

-- a constant or a variable
abbrev pub IsLeaf : Tree → Type 0
IsLeaf (Constant i s) = Unit {0}
IsLeaf (Variable l s) = Unit {0}
IsLeaf t = ⊥

-- a leaf's bits are those of its value
abbrev pub HasItsBits : (ℕ → Bool) → List ℕ → (ℕ → Option ℕ) → Blasted → Type 0
HasItsBits v c e k = IsLeaf k.tree → Means c e k.tree (number_of v k.bits)

-- the theorem of clause lists: values make all formulas true exactly where some assignment with
-- their bits at the leaves makes the clauses true
abbrev pub ClausesTheorem : Type 0
ClausesTheorem =
    (formulas : List Tree) (c : List ℕ) (e : ℕ → Option ℕ) → All IsPlain formulas → All (λ t. tree_sort t ≡ Some BoolSort) formulas → All (HasValues c e) formulas →
    (All (λ t. Means c e t 1) formulas → (v : ℕ → Bool) × All (HasItsBits v c e) (blasted formulas) × (clauses_value v (cnf formulas) ≡ true))
    × ((v : ℕ → Bool) → All (HasItsBits v c e) (blasted formulas) → clauses_value v (cnf formulas) ≡ true → All (λ t. Means c e t 1) formulas)

-- values whose bits stand at the leaves are of the leaves' sorts
abbrev pub BitsGiveValues : Type 0
BitsGiveValues =
    (formulas : List Tree) (c : List ℕ) (e : ℕ → Option ℕ) (v : ℕ → Bool) → All IsPlain formulas →
    All (HasItsBits v c e) (blasted formulas) → All (HasValues c e) formulas

-- the number of the bits of a level's variable, where it has some
abbrev pub level_value : (ℕ → Bool) → (ℕ → Sort) → List Tree → ℕ → Option ℕ
level_value v sorts formulas l = option_map (number_of v) (bits_of (blasted formulas) (Variable l (sorts l)))

-- values that give these numbers to these levels, and anything to the others
abbrev pub HasLevelValues : (ℕ → Bool) → (ℕ → Sort) → List Tree → (ℕ → Option ℕ) → Type 0
HasLevelValues v sorts formulas e = (l x : ℕ) → level_value v sorts formulas l ≡ Some x → e l ≡ Some x

-- a formula without constants in which each level's variables have the level's sort
pub record IsOverLevels (sorts : ℕ → Sort) (t : Tree) : Type 0 where
  pub constant_free : constants_of t ≡ []
  pub levels : All (λ leaf. leaf.1 ≡ sorts leaf.0) (free_levels t)

-- an assignment that makes the clauses true gives values, which have the leaves' sorts and make the
-- formulas true
abbrev pub ModelsGiveValues : Type 0
ModelsGiveValues =
    (formulas : List Tree) (sorts : ℕ → Sort) (v : ℕ → Bool) (e : ℕ → Option ℕ) → All IsPlain formulas → All (λ t. tree_sort t ≡ Some BoolSort) formulas → All (IsOverLevels sorts) formulas →
    HasLevelValues v sorts formulas e → clauses_value v (cnf formulas) ≡ true →
    All (HasValues [] e) formulas × All (HasItsBits v [] e) (blasted formulas) × All (λ t. Means [] e t 1) formulas
