-- What the lines of a section list: nodes, and then Skolem terms or lines of an expansion list.
use Rattle.std.specs.Prelude.{ℕ, zero, suc, Option, None, unwrap_or, option_and_then, List, [], ◌∷◌, ◌++◌, slice_get}
use Rattle.qv_words.specs.declared.sort.Sort.{Sort}
use Rattle.qv_words.specs.declared.sort.Sort.TheVariants.{Bool as BoolSort}
use Rattle.qv_words.specs.Tree.{Tree, Trees, Variable, Literal, Apply, Nil, Cons}
use Rattle.qv_words.specs.Problem.{Problem}
use Rattle.qv_words.specs.Skolem.{SkolemTerm}
use Rattle.qv_words.specs.Expansion.{ExpansionLine, Grown, line_numbered, grown_behind, sort_at}
use Rattle.qv_words.specs.Expansion.{Instance as InstanceOf, Eigen as EigenOf}
use Rattle.qv_cert.specs.Line.{CertLine, VariableNode, EigenNode, LiteralNode, OperatorNode, Skolem, Instance, Eigen}

-- what was listed so far: the trees of the nodes, the terms of places, and the lines of an
-- expansion list
pub record Listed : Type 0 where
  pub nodes : List Tree
  pub terms : List SkolemTerm
  pub lines : List ExpansionLine

abbrev pub nothing : Listed
nothing = record { nodes = []; terms = []; lines = [] }

-- the tree of a node; nodes are numbered from 1
abbrev pub node_numbered : Listed → ℕ → Option Tree
node_numbered l zero = None
node_numbered l (suc k) = slice_get l.nodes k

-- the same where the node is known to be there
abbrev pub tree_of_node : Listed → ℕ → Tree
tree_of_node l k = unwrap_or (node_numbered l k) (Literal BoolSort 0)

abbrev pub trees_of_nodes : Listed → List ℕ → Trees
trees_of_nodes l [] = Nil
trees_of_nodes l (k ∷ ks) = Cons (tree_of_node l k) (trees_of_nodes l ks)

-- what is known of the lines so far
abbrev pub grown_of : Problem → Listed → List Grown
grown_of p l = grown_behind p [] l.lines

-- a line of the expansion list, where 0 is the root
abbrev pub grown_line : Problem → Listed → ℕ → Option Grown
grown_line p l n = line_numbered (grown_of p l) n

-- the sort of a line's eigenvariable, where it has one
abbrev pub eigen_sort : Problem → Listed → ℕ → Option Sort
eigen_sort p l n = option_and_then (λ g. g.eigen) (grown_line p l n)

abbrev pub with_node : Tree → Listed → Listed
with_node t l = record { nodes = l.nodes ++ t ∷ []; terms = l.terms; lines = l.lines }

abbrev pub with_term : SkolemTerm → Listed → Listed
with_term s l = record { nodes = l.nodes; terms = l.terms ++ s ∷ []; lines = l.lines }

abbrev pub with_line : ExpansionLine → Listed → Listed
with_line line l = record { nodes = l.nodes; terms = l.terms; lines = l.lines ++ line ∷ [] }

-- one more line, where none of its faults fits
abbrev pub listing : Problem → Listed → CertLine → Listed
listing p l (VariableNode node place) = with_node (Variable place (sort_at p place)) l
listing p l (EigenNode node line) = with_node (Variable line (unwrap_or (eigen_sort p l line) BoolSort)) l
listing p l (LiteralNode node s value) = with_node (Literal s value) l
listing p l (OperatorNode node o children) = with_node (Apply o (trees_of_nodes l children)) l
listing p l (Skolem place node) = with_term (record { place = place; term = tree_of_node l node }) l
listing p l (Instance line parent node) = with_line (InstanceOf parent (tree_of_node l node)) l
listing p l (Eigen line parent) = with_line (EigenOf parent) l
listing p l _ = l

-- what lines list
abbrev pub listed_behind : Problem → Listed → List CertLine → Listed
listed_behind p l [] = l
listed_behind p l (line ∷ lines) = listed_behind p (listing p l line) lines

abbrev pub listed_by : Problem → List CertLine → Listed
listed_by p lines = listed_behind p nothing lines
