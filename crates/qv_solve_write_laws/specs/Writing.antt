-- The lines that list Skolem terms, or an expansion list: each tree's new nodes in post-order, and
-- behind them the line of the term.
use Rattle.std.specs.Prelude.{ℕ, suc, if◌then◌else◌, List, [], ◌∷◌, ◌++◌, length, drop}
use Rattle.qv_words.specs.declared.op.Answer.{Answer}
use Rattle.qv_words.specs.declared.op.Answer.TheVariants.{Sat, Unsat, Unknown}
use Rattle.qv_words.specs.Tree.{Tree, Trees, Constant, Variable, Literal, Apply, ForAll, Exists, Nil, Cons}
use Rattle.qv_words.specs.Equality.{tree_eq}
use Rattle.qv_words.specs.Clauses.{with_nodes}
use Rattle.qv_words.specs.Skolem.{SkolemTerm}
use Rattle.qv_words.specs.Expansion.{ExpansionLine}
use Rattle.qv_words.specs.Expansion.{Instance as InstanceOf, Eigen as EigenOf}
use Rattle.qv_cert.specs.Line.{CertLine, VariableNode, EigenNode, LiteralNode, OperatorNode, Skolem, Instance, Eigen, End}

-- where a tree first stands among nodes, and its number there
abbrev pub place_of : List Tree → Tree → ℕ
place_of [] t = 0
place_of (u ∷ us) t = if tree_eq t u then 0 else suc (place_of us t)

abbrev pub number_of : List Tree → Tree → ℕ
number_of nodes t = suc (place_of nodes t)

abbrev pub numbers_of : List Tree → Trees → List ℕ
numbers_of nodes Nil = []
numbers_of nodes (Cons t ts) = number_of nodes t ∷ numbers_of nodes ts

-- the line of a variable's node
abbrev pub variable_line : Answer → ℕ → ℕ → CertLine
variable_line Sat node level = VariableNode node level
variable_line Unsat node level = EigenNode node level
variable_line Unknown node level = End

-- the line of the next node, behind these; constants and quantifiers have none
abbrev pub node_line : Answer → List Tree → Tree → CertLine
node_line answer nodes (Variable level s) = variable_line answer (suc (length nodes)) level
node_line answer nodes (Literal s value) = LiteralNode (suc (length nodes)) s value
node_line answer nodes (Apply o args) = OperatorNode (suc (length nodes)) o (numbers_of nodes args)
node_line answer nodes (Constant i s) = End
node_line answer nodes (ForAll level s body) = End
node_line answer nodes (Exists level s body) = End

-- the lines of further nodes
abbrev pub node_lines : Answer → List Tree → List Tree → List CertLine
node_lines answer nodes [] = []
node_lines answer nodes (t ∷ ts) = node_line answer nodes t ∷ node_lines answer (nodes ++ t ∷ []) ts

-- the lines of a tree's nodes that are new
abbrev pub tree_lines : Answer → List Tree → Tree → List CertLine
tree_lines answer nodes t = node_lines answer nodes (drop (length nodes) (with_nodes nodes t))

-- the lines of terms, behind these nodes
abbrev pub term_lines : List Tree → List SkolemTerm → List CertLine
term_lines nodes [] = []
term_lines nodes (s ∷ rest) =
    let known = with_nodes nodes s.term in
    tree_lines Sat nodes s.term ++ Skolem s.place (number_of known s.term) ∷ term_lines known rest

-- the lines of an expansion list from this number on, behind these nodes
abbrev pub expansion_lines : ℕ → List Tree → List ExpansionLine → List CertLine
expansion_lines line nodes [] = []
expansion_lines line nodes (InstanceOf parent t ∷ rest) =
    let known = with_nodes nodes t in
    tree_lines Unsat nodes t ++ Instance line parent (number_of known t) ∷ expansion_lines (suc line) known rest
expansion_lines line nodes (EigenOf parent ∷ rest) = Eigen line parent ∷ expansion_lines (suc line) nodes rest
