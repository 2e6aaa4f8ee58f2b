-- The faults of the lines that list nodes, terms and lines of an expansion list.
use Rattle.std.specs.Prelude.{ℕ, suc, ◌==◌, nat_lt, Bool, true, false, not, ◌&&◌, ◌||◌, if◌then◌else◌, Option, Some, None, is_some, List, [], ◌∷◌, length, slice_get}
use Rattle.std.specs.List.{list_all}
use Rattle.std.specs.Option.{option_map_or}
use Rattle.qv_words.specs.declared.op.Answer.{Answer}
use Rattle.qv_words.specs.declared.op.Answer.TheVariants.{Sat, Unsat, Unknown}
use Rattle.qv_words.specs.Rank.{sort_eq}
use Rattle.qv_words.specs.Tree.{Tree, Apply, tree_sort}
use Rattle.qv_words.specs.Sorted.{free_levels}
use Rattle.qv_words.specs.Problem.{Problem, Place, Quantifier, Existential, Universal}
use Rattle.qv_words.specs.Skolem.{term_of}
use Rattle.qv_cert.specs.declared.kind.RefusalKind.{RefusalKind}
use Rattle.qv_cert.specs.declared.kind.RefusalKind.TheVariants as kind
use Rattle.qv_cert.specs.Line.{CertLine, VariableNode, EigenNode, LiteralNode, OperatorNode, Skolem, Instance, Eigen}
use Rattle.qv_cert.specs.Listed.{Listed, node_numbered, tree_of_node, trees_of_nodes, grown_line, eigen_sort}

-- a kind, and whether it fits
abbrev pub Fault : Type 0
Fault = RefusalKind × Bool

-- the first kind that fits
abbrev pub first_fit : List Fault → Option RefusalKind
first_fit [] = None
first_fit (f ∷ fs) = if f.1 then Some f.0 else first_fit fs

abbrev pub is_universal : Quantifier → Bool
is_universal Universal = true
is_universal Existential = false

abbrev pub is_existential : Quantifier → Bool
is_existential q = not (is_universal q)

-- whether the quantifier of a place passes a test; none passes behind the last place
abbrev pub is_place : (Quantifier → Bool) → Problem → ℕ → Bool
is_place test p j = option_map_or (λ place. test place.quantifier) (slice_get p.prefix j) false

-- whether a node was given before
abbrev pub is_node : Listed → ℕ → Bool
is_node l k = is_some (node_numbered l k)

-- whether a tree has a rank, and whether it has the sort of a place
abbrev pub has_rank : Tree → Bool
has_rank t = is_some (tree_sort t)

abbrev pub has_sort_at : Problem → ℕ → Tree → Bool
has_sort_at p j t = option_map_or (λ place. option_map_or (λ s. sort_eq s place.sort) (tree_sort t) false) (slice_get p.prefix j) false

-- whether each variable of a tree is at a smaller place
abbrev pub depends_before : ℕ → Tree → Bool
depends_before j t = list_all (λ leaf. nat_lt leaf.0 j) (free_levels t)

-- how deep a line is; 0 where there is no such line
abbrev pub depth_of : Problem → Listed → ℕ → ℕ
depth_of p l n = option_map_or (λ g. length g.path) (grown_line p l n) 0

-- whether a line may stand below this one: it is the root or an earlier line, and no leaf
abbrev pub is_parent : Problem → Listed → ℕ → Bool
is_parent p l n = is_some (grown_line p l n) && not (depth_of p l n == length p.prefix)

-- the faults of a line, in the order of the kinds
abbrev pub faults_of : Problem → Listed → CertLine → List Fault
faults_of p l (VariableNode node place) =
    (kind.Order, not (node == suc (length l.nodes)))
    ∷ (kind.Place, not (is_place is_universal p place))
    ∷ []
faults_of p l (EigenNode node line) =
    (kind.Order, not (node == suc (length l.nodes)))
    ∷ (kind.Eigenvariable, not (is_some (eigen_sort p l line)))
    ∷ []
faults_of p l (LiteralNode node s value) =
    (kind.Order, not (node == suc (length l.nodes)))
    ∷ []
faults_of p l (OperatorNode node o children) =
    (kind.Order, not (node == suc (length l.nodes)))
    ∷ (kind.Node, not (list_all (is_node l) children))
    ∷ (kind.Rank, not (has_rank (Apply o (trees_of_nodes l children))))
    ∷ []
faults_of p l (Skolem place node) =
    (kind.Node, not (is_node l node))
    ∷ (kind.Place, not (is_place is_existential p place))
    ∷ (kind.Repeated, is_some (term_of l.terms place))
    ∷ (kind.Sort, not (has_sort_at p place (tree_of_node l node)))
    ∷ (kind.Dependence, not (depends_before place (tree_of_node l node)))
    ∷ []
faults_of p l (Instance line parent node) =
    (kind.Order, not (line == suc (length l.lines)))
    ∷ (kind.Node, not (is_node l node))
    ∷ (kind.Parent, not (is_parent p l parent))
    ∷ (kind.Quantifier, not (is_place is_universal p (depth_of p l parent)))
    ∷ (kind.Sort, not (has_sort_at p (depth_of p l parent) (tree_of_node l node)))
    ∷ []
faults_of p l (Eigen line parent) =
    (kind.Order, not (line == suc (length l.lines)))
    ∷ (kind.Parent, not (is_parent p l parent))
    ∷ (kind.Quantifier, not (is_place is_existential p (depth_of p l parent)))
    ∷ []
faults_of p l _ = []

-- whether a line may stand before the refutation of a section of this answer
abbrev pub belongs : Answer → CertLine → Bool
belongs Unknown line = false
belongs answer (LiteralNode node s value) = true
belongs answer (OperatorNode node o children) = true
belongs Sat (VariableNode node place) = true
belongs Sat (Skolem place node) = true
belongs Unsat (EigenNode node line) = true
belongs Unsat (Instance line parent node) = true
belongs Unsat (Eigen line parent) = true
belongs answer line = false

-- whether some existential place, from this one on, has no term
abbrev pub lacks_from : Listed → ℕ → List Place → Bool
lacks_from l j [] = false
lacks_from l j (place ∷ places) = (is_existential place.quantifier && not (is_some (term_of l.terms j))) || lacks_from l (suc j) places

abbrev pub lacks_term : Problem → Listed → Bool
lacks_term p l = lacks_from l 0 p.prefix
