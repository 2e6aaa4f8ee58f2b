-- What is kept of the lines of a section, over a store, and what it stands for.
use Rattle.std.specs.Prelude.{◌≡◌, ℕ, zero, suc, ◌<◌, ◌≤◌, ◌++◌, max, nat_lt, nat_le, Bool, true, false, ◌==◌, ◌&&◌, if◌then◌else◌, Option, Some, None, List, [], ◌∷◌, map, length, slice_get, slice_index_or}
use Rattle.std.specs.Option.{option_map_or}
use Rattle.std.specs.List.{AllByRecursion, list_any}
use Rattle.qv_words.specs.declared.sort.Sort.{Sort}
use Rattle.qv_words.specs.Sort.{IsLawful}
use Rattle.qv_words.specs.Tree.{Tree, Variable, tree_sort}
use Rattle.qv_words.specs.Sorted.{free_levels}
use Rattle.qv_words.specs.Problem.{Problem}
use Rattle.qv_words.specs.Skolem.{SkolemTerm}
use Rattle.qv_words.specs.Expansion.{ExpansionLine, Grown, line_numbered, path_of}
use Rattle.qv_words.specs.Expansion.{Instance as InstanceOf, Eigen as EigenOf}
use Rattle.qv_store.specs.Nodes.{tree_at}
use Rattle.qv_store.specs.Walks.{named}
use Rattle.qv_store.specs.declared.problem.Place.{Place}
use Rattle.qv_store.specs.declared.problem.Problem.{Problem as StoreProblem}
use Rattle.qv_cert.specs.Listed.{Listed as PlainListed, grown_of}
use Rattle.qv_cert_nodes.specs.declared.listed.Listed.{Listed}
use Rattle.qv_cert_nodes.specs.declared.listed.Term.{Term}
use Rattle.qv_cert_nodes.specs.declared.listed.Branch.{Branch}

-- ---- what it stands for

abbrev pub term_in : List Tree → Term → SkolemTerm
term_in trees t = record { place = t.place; term = tree_at trees t.id }

abbrev pub line_in : List Tree → Branch → ExpansionLine
line_in trees b = if b.is_eigen then EigenOf b.parent else InstanceOf b.parent (tree_at trees b.id)

-- what was listed
abbrev pub listed_in : List Tree → Listed → PlainListed
listed_in trees a = record {
  nodes = named trees a.nodes.items;
  terms = map (term_in trees) a.terms.items;
  lines = map (line_in trees) a.branches.items;
}

-- ---- what is kept beside it

-- what is kept of a line
abbrev pub branch_numbered : Listed → ℕ → Option Branch
branch_numbered a zero = None
branch_numbered a (suc n) = slice_get a.branches.items n

-- one more than the greatest level of these variables, or 0
abbrev pub reach_of_leaves : List (ℕ × Sort) → ℕ
reach_of_leaves [] = 0
reach_of_leaves (leaf ∷ leaves) = max (suc leaf.0) (reach_of_leaves leaves)

-- of a tree's variables
abbrev pub reach_of : Tree → ℕ
reach_of t = reach_of_leaves (free_levels t)

-- the sort of a line's eigenvariable, if it has one
abbrev pub eigen_in : List Tree → Branch → Option Sort
eigen_in trees b = if b.is_eigen then tree_sort (tree_at trees b.id) else None

-- what is kept of the line behind n others: its parent is earlier or the root, its term stands
-- last on its path, which is as long as it says, and is its own variable where it has one
pub record IsBranch (trees : List Tree) (grown : List Grown) (n : ℕ) (b : Branch) : Type 0 where
  pub below : b.id < length trees
  pub parent : b.parent ≤ n
  pub depth : b.depth ≡ suc (length (path_of (line_numbered grown b.parent)))
  pub grown_is : slice_get grown n ≡ Some (record { path = path_of (line_numbered grown b.parent) ++ tree_at trees b.id ∷ []; eigen = eigen_in trees b })
  pub own : b.is_eigen ≡ true → (s : Sort) × (tree_at trees b.id ≡ Variable (suc n) s)

-- there is a node of this number
pub record IsNodeOf (a : Listed) (node : ℕ) : Type 0 where
  pub some : 0 < node
  pub there : node ≤ length a.nodes.items

-- how deep a line is
abbrev pub depth_in : Listed → ℕ → ℕ
depth_in a line = option_map_or (λ b. b.depth) (branch_numbered a line) 0

-- whether there is a node of this number
abbrev pub has_number : Listed → ℕ → Bool
has_number a node = nat_lt 0 node && nat_le node (length a.nodes.items)

-- the line has an eigenvariable
pub record IsEigenLine (a : Listed) (line : ℕ) : Type 0 where
  pub branch : Branch
  pub branch_is : branch_numbered a line ≡ Some branch
  pub eigen : branch.is_eigen ≡ true

-- the term of a node
abbrev pub id_at : Listed → ℕ → ℕ
id_at a zero = 0
id_at a (suc k) = slice_index_or a.nodes.items k 0

-- the greatest reach beside these nodes
abbrev pub reach_at : Listed → ℕ → ℕ
reach_at a zero = 0
reach_at a (suc k) = slice_index_or a.reaches.items k 0

abbrev pub reach_of_nodes : Listed → List ℕ → ℕ
reach_of_nodes a [] = 0
reach_of_nodes a (k ∷ ks) = max (reach_at a k) (reach_of_nodes a ks)

-- whether a place is marked
abbrev pub mark_at : List Bool → ℕ → Bool
mark_at marks place = slice_index_or marks place false

-- the places that are marked are those of the terms
abbrev pub MarksTerms : Listed → Type 0
MarksTerms a = (place : ℕ) → mark_at a.marks.items place ≡ list_any (λ t. t.place == place) a.terms.items

-- a place of a lawful sort
pub record IsLawfulPlace (p : StoreProblem) (place : ℕ) : Type 0 where
  pub found : Place
  pub place_is : slice_get p.prefix.items place ≡ Some found
  pub lawful : IsLawful found.sort

-- the nodes' terms stand in the store
abbrev pub HasTerms : List Tree → Listed → Type 0
HasTerms trees a = AllByRecursion (λ id. id < length trees) a.nodes.items

-- the terms stand in the store, each node has its reach beside it, the places of terms are marked,
-- and the lines have beside them what is known of them
pub record IsListed (trees : List Tree) (p : Problem) (a : Listed) : Type 0 where
  pub nodes : HasTerms trees a
  pub reaches : a.reaches.items ≡ map (λ id. reach_of (tree_at trees id)) a.nodes.items
  pub terms : AllByRecursion (λ t. t.id < length trees) a.terms.items
  pub marks : MarksTerms a
  pub branches : (n : ℕ) (b : Branch) → slice_get a.branches.items n ≡ Some b → IsBranch trees (grown_of p (listed_in trees a)) n b
