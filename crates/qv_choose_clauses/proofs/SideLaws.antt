-- What a connective joins in a term of a store.
use Rattle.std.proofs.Common.{◌≡◌, ℕ, ◌<◌, Bool, true, false, cond, Option, Some, None, List, [], ◌∷◌, ◌++◌, length, refl, sym, ap, ◌∙◌, subst, slice_get, arith}
use Rattle.std.specs.List.{AllByRecursion}
use Rattle.qv_words.specs.declared.op.Op.{Op}
use Rattle.qv_words.specs.Tree.{Tree, Apply, Nil, Cons}
use Rattle.qv_words.specs.Prenex.{binary}
use Rattle.qv_words.specs.Choice.{joined}
use Rattle.qv_store.specs.declared.node.Node.{Node}
use Rattle.qv_store.specs.Nodes.{tree_at, trees_at, node_tree, children, HasChildrenBelow}
use Rattle.qv_store.specs.Stores.{AreShared}
use Rattle.qv_store.specs.Walks.{IsWalk, IsEarlier}
use Rattle.qv_store.proofs.Passes.{walk-kids}
use Rattle.qv_choose_clauses.specs.Sides.{connects, AreJoined, AreSidesOf, AreKidsOf}

pub two-joined : (both : Bool) (op : Op) (a b : Tree) (c : Bool) → connects both op ≡ c → joined (connects both) (binary op a b) ≡ cond c (joined (connects both) a ++ joined (connects both) b) (binary op a b ∷ [])
two-joined both op a b c is = ap (λ k. cond k (joined (connects both) a ++ joined (connects both) b) (binary op a b ∷ [])) is

-- the sides of an application are those of the term
pub sides-from : (both : Bool) (trees : List Tree) (id : ℕ) (op : Op) (node : Node) (kids : List ℕ) (r : Option (ℕ × ℕ)) → node_tree trees node ≡ tree_at trees id → HasChildrenBelow id node → children node ≡ kids
    → Apply op (trees_at trees kids) ≡ tree_at trees id → AreKidsOf both op kids r → AreSidesOf both trees id r
sides-from both trees id op node kids None tree below own is h = subst (λ (t : Tree). joined (connects both) t ≡ t ∷ []) is (h trees)
sides-from both trees id op node kids (Some sides) tree below own is h =
    let a = tree_at trees sides.0 in
    let b = tree_at trees sides.1 in
    let shape : binary op a b ≡ tree_at trees id = ap (λ ks. Apply op (trees_at trees ks)) (sym h.0) ∙ is in
    record {
      node = node;
      tree = tree;
      below = below;
      kids = own ∙ h.0;
      parts = ap (joined (connects both)) (sym shape) ∙ two-joined both op a b true h.1;
    }

-- they stand in a walk before it
pub sides-earlier : (both : Bool) (trees : List Tree) (ids : List ℕ) (k id a b : ℕ) → AreShared trees → IsWalk trees ids → slice_get ids k ≡ Some id → AreJoined both trees id a b → IsEarlier ids k a × IsEarlier ids k b
sides-earlier both trees ids k id a b shared walk at h =
    let kids = subst (AllByRecursion (IsEarlier ids k)) h.kids (walk-kids trees ids shared walk k id h.node at h.tree h.below) in
    (kids.0, kids.1.0)

-- applications that join nothing
pub few-kids : (both : Bool) (op : Op) (kids : List ℕ) → length kids < 2 → AreKidsOf both op kids None
few-kids both op [] h trees = refl
few-kids both op (a ∷ []) h trees = refl
few-kids both op (a ∷ b ∷ rest) h trees = absurd (omega (arith, h))

pub many-kids : (both : Bool) (op : Op) (kids : List ℕ) → 2 < length kids → AreKidsOf both op kids None
many-kids both op [] h trees = absurd (omega (arith, h))
many-kids both op (a ∷ []) h trees = absurd (omega (arith, h))
many-kids both op (a ∷ b ∷ []) h trees = absurd (omega (arith, h))
many-kids both op (a ∷ b ∷ c ∷ rest) h trees = refl
