-- The two sides of a conjunction, or of a disjunction.
use Rattle.std.specs.Prelude.{◌≡◌, ℕ, Bool, true, false, Option, Some, None, List, [], ◌∷◌, ◌++◌}
use Rattle.qv_words.specs.declared.op.Op.{Op}
use Rattle.qv_words.specs.Tree.{Tree, Apply}
use Rattle.qv_words.specs.Choice.{is_and, is_or, joined}
use Rattle.qv_store.specs.declared.node.Node.{Node}
use Rattle.qv_store.specs.Nodes.{tree_at, trees_at, node_tree, children, HasChildrenBelow}

-- whether an operator is `and`, or else whether it is `or`
abbrev pub connects : (both : Bool) → Op → Bool
connects true = is_and
connects false = is_or

-- what it joins in a tree is what it joins in both of its sides
pub record AreJoined (both : Bool) (trees : List Tree) (id a b : ℕ) : Type 0 where
  pub node : Node
  pub tree : node_tree trees node ≡ tree_at trees id
  pub below : HasChildrenBelow id node
  pub kids : children node ≡ a ∷ b ∷ []
  pub parts : joined (connects both) (tree_at trees id) ≡ joined (connects both) (tree_at trees a) ++ joined (connects both) (tree_at trees b)

-- the sides of a tree, or it joins nothing there
abbrev pub AreSidesOf : Bool → List Tree → ℕ → Option (ℕ × ℕ) → Type 0
AreSidesOf both trees id None = joined (connects both) (tree_at trees id) ≡ tree_at trees id ∷ []
AreSidesOf both trees id (Some sides) = AreJoined both trees id sides.0 sides.1

-- the same of an application
abbrev pub AreKidsOf : Bool → Op → List ℕ → Option (ℕ × ℕ) → Type 0
AreKidsOf both op kids None = (trees : List Tree) → joined (connects both) (Apply op (trees_at trees kids)) ≡ Apply op (trees_at trees kids) ∷ []
AreKidsOf both op kids (Some sides) = (kids ≡ sides.0 ∷ sides.1 ∷ []) × (connects both op ≡ true)
