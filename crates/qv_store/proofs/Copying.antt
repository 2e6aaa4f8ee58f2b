-- A copy of a store, term by term.
use Rattle.std.proofs.Common.{◌≡◌, ℕ, ◌+◌, ◌<◌, Bool, true, false, cond, List, [], ◌∷◌, ◌++◌, length, take, drop, refl, ap, subst, sym, ◌∙◌, arith}
use Rattle.std.specs.Prelude.{All}
use Rattle.std.proofs.lemmas.List.{take_more, get_or-take, take-append-drop}
use Rattle.std.proofs.Common.{length-take-le}
use Rattle.qv_words.specs.declared.sort.Sort.TheVariants.{Bool as BoolSort}
use Rattle.qv_words.specs.Tree.{Tree, Literal}
use Rattle.qv_words.specs.Sorted.{IsSorted}
use Rattle.qv_words.specs.Clauses.{is_among}
use Rattle.qv_store.specs.declared.node.Node.{Node}
use Rattle.qv_store.specs.Nodes.{tree_at, node_tree, HasChildrenBelow, IsLike}
use Rattle.qv_store.specs.Stores.{AreShared, with_tree}
use Rattle.qv_store.proofs.Standing.{node_tree-before}
use Rattle.qv_store.proofs.Sharing.{at-among}

pub record IsCopied (trees copied : List Tree) (n : ℕ) (node : Node) : Type 0 where
  pub children : HasChildrenBelow (length copied) node
  pub sorted : IsSorted (node_tree copied node)
  pub next : with_tree copied (node_tree copied node) ≡ take (n + 1) trees

module _ (trees : List Tree) (shared : AreShared trees) (n : ℕ) (h : n < length trees) where
  long : length (take n trees) ≡ n
  long = length-take-le n trees (omega (arith, h))

  -- the next tree isn't among those before it
  next-new : is_among (take n trees) (tree_at trees n) ≡ false
  next-new = by (is_among (take n trees) (tree_at trees n)) refl
    where
      by : (b : Bool) → is_among (take n trees) (tree_at trees n) ≡ b → b ≡ false
      by false e = refl
      by true e =
          let there = at-among (take n trees) (tree_at trees n) e in
          let low : there.0 < n = omega (arith, there.1.below, long) in
          let same : tree_at trees there.0 ≡ tree_at trees n = sym (get_or-take n trees there.0 (Literal BoolSort 0) low) ∙ there.1.tree in
          let one = shared.once there.0 n (omega (arith, low, h)) h same in
          absurd (omega (arith, one, low))

  pub copied-next : (copied : List Tree) (node other : Node) → copied ≡ take n trees → node_tree trees node ≡ tree_at trees n → HasChildrenBelow n node → IsLike node other → IsCopied trees copied n other
  copied-next copied node other e tree kids like =
      let kids' : HasChildrenBelow n other = subst (λ ks. All (λ k. k < n) ks) (sym like.children) kids in
      let low : HasChildrenBelow (length (take n trees)) other = subst (λ k. HasChildrenBelow k other) (sym long) kids' in
      let over : node_tree (take n trees) other ≡ tree_at trees n =
      sym (node_tree-before (take n trees) (drop n trees) other low) ∙ ap (λ ts. node_tree ts other) (take-append-drop n trees) ∙ like.tree trees ∙ tree in
      let all : IsCopied trees (take n trees) n other = record {
        children = low;
        sorted = subst IsSorted (sym over) (shared.sorted n h);
        next = ap (with_tree (take n trees)) over ∙ ap (λ b. cond b (take n trees) (take n trees ++ tree_at trees n ∷ [])) next-new ∙ sym (take_more trees n (Literal BoolSort 0) h);
      } in
      subst (λ c. IsCopied trees c n other) (sym e) all
