-- The parts of a store with one node more.
use Rattle.std.proofs.Common.{◌≡◌, ℕ, ◌+◌, ◌<◌, ◌≤◌, ◌^◌, Bool, true, false, cond, List, [], ◌∷◌, ◌++◌, length, map, get_or, slice_get, Some, is_some, IsSome, refl, ap, subst, sym, ◌∙◌, arith, length-append}
use Rattle.std.specs.Prelude.{if◌then◌else◌}
use Rattle.std.specs.List.{list_any}
use Rattle.std.proofs.lemmas.List.{map-append, length-map, get_or_default}
use Rattle.std.proofs.lemmas.List.Elements.{All-weaker}
use Rattle.std.proofs.lemmas.Option.{slice_get_within}
use Rattle.qv_words.specs.Tree.{Tree}
use Rattle.qv_words.specs.Sorted.{IsSorted, no_levels}
use Rattle.qv_words.specs.Clauses.{is_among}
use Rattle.qv_words.proofs.Existing.{has_sort}
use Rattle.qv_words.proofs.Elements.{found-at}
use Rattle.qv_words.proofs.NewNodes.{nil-behind}
use Rattle.qv_store.specs.declared.node.Node.{Node}
use Rattle.qv_store.specs.declared.facts.Facts.{Facts}
use Rattle.qv_store.specs.Nodes.{tree_at, children, node_tree, HasChildrenBelow}
use Rattle.qv_store.specs.Stores.{StandsAt, with_tree, Grows, AreShared}
use Rattle.qv_store.specs.Facts.{facts_of, facts_at, deepest, sort_over, is_quantified_over}
use Rattle.qv_store.specs.Kept.{trees_behind, trees_of, AreGrown, IsKept}
use Rattle.qv_store.proofs.Same.{node_eq, nodes-like, nodes-equal}
use Rattle.qv_store.proofs.Standing.{node_tree-before}
use Rattle.qv_store.proofs.Growing.{IsNodeAt, length-trees_of, trees_of-push, trees_of-node, grown-push}
use Rattle.qv_store.proofs.Sharing.{none-at, among-at, at-among, shared-push}
use Rattle.qv_store.proofs.KeptFacts.{facts_at-tree, facts-over, sort-over, deepest-small}

-- children below a number are below a greater one
pub children-below : (m n : ℕ) (node : Node) → m ≤ n → HasChildrenBelow m node → HasChildrenBelow n node
children-below m n node h = All-weaker (λ k. k < m) (λ k. k < n) (λ k low. omega (arith, low, h)) (children node)

-- a node that the set doesn't have has a tree that isn't there
pub new-tree : (nodes : List Node) (node : Node) → AreGrown 0 nodes → AreShared (trees_of nodes) → HasChildrenBelow (length (trees_of nodes)) node
    → list_any (node_eq node) nodes ≡ false → is_among (trees_of nodes) (node_tree (trees_of nodes) node) ≡ false
new-tree nodes node grown shared kids none = by (is_among (trees_of nodes) (node_tree (trees_of nodes) node)) refl
  where
    by : (b : Bool) → is_among (trees_of nodes) (node_tree (trees_of nodes) node) ≡ b → b ≡ false
    by false e = refl
    by true e =
        let there = at-among (trees_of nodes) (node_tree (trees_of nodes) node) e in
        let within : there.0 < length nodes = omega (arith, there.1.below, length-trees_of nodes) in
        let other = found-at nodes there.0 within in
        let at = trees_of-node nodes there.0 other.0 grown other.1 in
        let low = children-below there.0 (length (trees_of nodes)) other.0 (omega (arith, there.1.below)) at.children in
        let same = nodes-equal (trees_of nodes) shared.once node other.0 kids low (sym there.1.tree ∙ at.tree) in
        absurd (none-at (node_eq node) nodes there.0 other.0 none other.1 same)

-- one node more, with its facts
pub kept-push : (nodes : List Node) (beside : List Facts) (node : Node) (f : Facts) → IsKept nodes beside
    → HasChildrenBelow (length (trees_of nodes)) node → IsSorted (node_tree (trees_of nodes) node)
    → list_any (node_eq node) nodes ≡ false → length nodes + 1 < 2 ^ 32
    → sort_over beside node ≡ Some f.sort → f.depth ≡ deepest beside (children node) + 1 → f.quantified ≡ is_quantified_over beside node
    → IsKept (nodes ++ node ∷ []) (beside ++ f ∷ [])
kept-push nodes beside node f kept kids sorted none room sort depth quantified =
    let new = new-tree nodes node kept.grown kept.shared kids none in
    let own : f ≡ facts_of (node_tree (trees_of nodes) node) =
    facts-over (trees_of nodes) kept.shared node f kids sorted (subst (λ b. sort_over b node ≡ Some f.sort) kept.facts sort)
    (subst (λ b. f.depth ≡ deepest b (children node) + 1) kept.facts depth) (subst (λ b. f.quantified ≡ is_quantified_over b node) kept.facts quantified) in
    record {
      grown = grown-push 0 nodes node kept.grown (children-below (length (trees_of nodes)) (0 + length nodes) node (omega (arith, length-trees_of nodes)) kids);
      shared = subst AreShared (sym (trees_of-push nodes node)) (shared-push (trees_of nodes) node kept.shared kids sorted new);
      facts = ap (λ b. b ++ f ∷ []) kept.facts ∙ ap (λ (g : Facts). map facts_of (trees_of nodes) ++ g ∷ []) own
          ∙ sym (ap (map facts_of) (trees_of-push nodes node) ∙ map-append facts_of (trees_of nodes) (node_tree (trees_of nodes) node ∷ []));
      few = omega (arith, room, length-append nodes (node ∷ []));
    }

-- what a put leads to: the tree stands at the number, in the store with it
pub record IsPut (old new : List Tree) (t : Tree) (n : ℕ) : Type 0 where
  pub id : StandsAt new n t
  pub ok : new ≡ with_tree old t
  pub grows : Grows old new
  pub shared : AreShared new

-- the tree of a node that the set has for another one
stands-found : (nodes : List Node) (node found : Node) (n : ℕ) → AreGrown 0 nodes → slice_get nodes n ≡ Some found → node_eq node found ≡ true → StandsAt (trees_of nodes) n (node_tree (trees_of nodes) node)
stands-found nodes node found n grown at same =
    let here = trees_of-node nodes n found grown at in
    let within = slice_get_within nodes n found at in
    record { below = omega (arith, within, length-trees_of nodes); tree = here.tree ∙ (nodes-like node found same).tree (trees_of nodes) }

-- a node that is there
put-known : (nodes : List Node) (beside : List Facts) (node found : Node) (n : ℕ) → IsKept nodes beside → slice_get nodes n ≡ Some found → node_eq node found ≡ true
    → IsPut (trees_of nodes) (trees_of nodes) (node_tree (trees_of nodes) node) n
put-known nodes beside node found n kept at same =
    let stands = stands-found nodes node found n kept.grown at same in
    let known = among-at (trees_of nodes) (node_tree (trees_of nodes) node) n stands in
    record {
      id = stands;
      ok = sym (ap (λ c. cond c (trees_of nodes) (trees_of nodes ++ node_tree (trees_of nodes) node ∷ [])) known);
      grows = record { more = []; behind = nil-behind (trees_of nodes) };
      shared = kept.shared;
    }

-- a new node
put-new : (nodes : List Node) (beside : List Facts) (node found : Node) (n : ℕ) → IsKept nodes beside
    → HasChildrenBelow (length (trees_of nodes)) node → IsSorted (node_tree (trees_of nodes) node) → list_any (node_eq node) nodes ≡ false
    → slice_get (nodes ++ node ∷ []) n ≡ Some found → node_eq node found ≡ true
    → IsPut (trees_of nodes) (trees_of (nodes ++ node ∷ [])) (node_tree (trees_of nodes) node) n
put-new nodes beside node found n kept kids sorted none at same =
    let new = new-tree nodes node kept.grown kept.shared kids none in
    let grown = grown-push 0 nodes node kept.grown (children-below (length (trees_of nodes)) (0 + length nodes) node (omega (arith, length-trees_of nodes)) kids) in
    let stands = stands-found (nodes ++ node ∷ []) node found n grown at same in
    let own : node_tree (trees_of (nodes ++ node ∷ [])) node ≡ node_tree (trees_of nodes) node =
    ap (λ ts. node_tree ts node) (trees_of-push nodes node) ∙ node_tree-before (trees_of nodes) (node_tree (trees_of nodes) node ∷ []) node kids in
    record {
      id = subst (StandsAt (trees_of (nodes ++ node ∷ [])) n) own stands;
      ok = trees_of-push nodes node ∙ sym (ap (λ c. cond c (trees_of nodes) (trees_of nodes ++ node_tree (trees_of nodes) node ∷ [])) new);
      grows = record { more = node_tree (trees_of nodes) node ∷ []; behind = trees_of-push nodes node };
      shared = subst AreShared (sym (trees_of-push nodes node)) (shared-push (trees_of nodes) node kept.shared kids sorted new);
    }

-- a node that the set takes, or has
pub put-node : (nodes news : List Node) (beside : List Facts) (node found : Node) (n : ℕ) → IsKept nodes beside
    → HasChildrenBelow (length (trees_of nodes)) node → IsSorted (node_tree (trees_of nodes) node)
    → news ≡ (if list_any (node_eq node) nodes then nodes else nodes ++ node ∷ [])
    → slice_get news n ≡ Some found → node_eq node found ≡ true
    → IsPut (trees_of nodes) (trees_of news) (node_tree (trees_of nodes) node) n
put-node nodes news beside node found n kept kids sorted keys at same = by (list_any (node_eq node) nodes) refl keys
  where
    by : (b : Bool) → list_any (node_eq node) nodes ≡ b → news ≡ cond b nodes (nodes ++ node ∷ []) → IsPut (trees_of nodes) (trees_of news) (node_tree (trees_of nodes) node) n
    by true there e =
        subst (λ ns. IsPut (trees_of nodes) (trees_of ns) (node_tree (trees_of nodes) node) n) (sym e)
        (put-known nodes beside node found n kept (ap (λ ns. slice_get ns n) (sym e) ∙ at) same)
    by false none e =
        subst (λ ns. IsPut (trees_of nodes) (trees_of ns) (node_tree (trees_of nodes) node) n) (sym e)
        (put-new nodes beside node found n kept kids sorted none (ap (λ ns. slice_get ns n) (sym e) ∙ at) same)

-- the same of a store that is seen as its trees
pub put-seen : (nodes news : List Node) (beside : List Facts) (node found : Node) (n : ℕ) (old new : List Tree) → IsKept nodes beside → trees_of nodes ≡ old
    → HasChildrenBelow (length old) node → IsSorted (node_tree old node)
    → news ≡ (if list_any (node_eq node) nodes then nodes else nodes ++ node ∷ [])
    → slice_get news n ≡ Some found → node_eq node found ≡ true → new ≡ trees_of news
    → IsPut old new (node_tree old node) n
put-seen nodes news beside node found n old new kept seen kids sorted keys at same made =
    let P : List Tree → Type 0 = λ ts. HasChildrenBelow (length ts) node → IsSorted (node_tree ts node) → IsPut ts (trees_of news) (node_tree ts node) n in
    let all = subst P seen (λ k s. put-node nodes news beside node found n kept k s keys at same) kids sorted in
    subst (λ ts. IsPut old ts (node_tree old node) n) (sym made) all

-- what is asked for the facts of a new node
pub sorted-over : (nodes : List Node) (beside before : List Facts) (node : Node) (old : List Tree) → IsKept nodes beside → trees_of nodes ≡ old → before ≡ beside
    → HasChildrenBelow (length old) node → IsSorted (node_tree old node) → IsSome (sort_over before node)
sorted-over nodes beside before node old kept seen read kids sorted =
    let P : List Tree → Type 0 = λ ts. HasChildrenBelow (length ts) node → IsSorted (node_tree ts node) → IsSome (sort_over before node) in
    let there : HasChildrenBelow (length (trees_of nodes)) node → IsSorted (node_tree (trees_of nodes) node) → IsSome (sort_over before node) =
    λ k s.
    let at = has_sort (node_tree (trees_of nodes) node) no_levels s in
    let over = ap (λ b. sort_over b node) (read ∙ kept.facts) ∙ sort-over (trees_of nodes) kept.shared node k s ∙ at.1 in
    ap is_some over in
    subst P seen there kids sorted

pub shallow-over : (nodes : List Node) (beside before : List Facts) (node : Node) (old : List Tree) → IsKept nodes beside → trees_of nodes ≡ old → before ≡ beside
    → HasChildrenBelow (length old) node → deepest before (children node) ≤ length nodes
shallow-over nodes beside before node old kept seen read kids =
    let kids' = subst (λ ts. HasChildrenBelow (length ts) node) (sym seen) kids in
    let small = deepest-small (trees_of nodes) kept.shared node kids' in
    let same : deepest before (children node) ≡ deepest (map facts_of (trees_of nodes)) (children node) = ap (λ b. deepest b (children node)) (read ∙ kept.facts) in
    omega (arith, small, same, length-trees_of nodes)

-- what is read of a term
pub read-facts : (nodes : List Node) (beside : List Facts) (old : List Tree) (n k : ℕ) (f : Facts) → IsKept nodes beside → trees_of nodes ≡ old → n < length old → k ≡ n → f ≡ get_or beside k f → f ≡ facts_of (tree_at old n)
read-facts nodes beside old n k f kept seen h same at =
    let within : n < length (trees_of nodes) = omega (arith, h, ap length seen) in
    let low : n < length beside = omega (arith, within, ap length kept.facts, length-map (trees_of nodes) facts_of) in
    at ∙ ap (λ i. get_or beside i f) same ∙ get_or_default beside n f _ low ∙ ap (λ b. facts_at b n) kept.facts
    ∙ facts_at-tree (trees_of nodes) n within ∙ ap (λ ts. facts_of (tree_at ts n)) seen

pub read-node : (nodes : List Node) (beside : List Facts) (old : List Tree) (n k : ℕ) (node : Node) → IsKept nodes beside → trees_of nodes ≡ old → k ≡ n → slice_get nodes k ≡ Some node → IsNodeAt old n node
read-node nodes beside old n k node kept seen same at =
    let here = trees_of-node nodes n node kept.grown (ap (slice_get nodes) (sym same) ∙ at) in
    subst (λ ts. IsNodeAt ts n node) seen here

pub seen-length : (nodes : List Node) (old : List Tree) → trees_of nodes ≡ old → length nodes ≡ length old
seen-length nodes old seen = sym (length-trees_of nodes) ∙ ap length seen

-- a store without nodes
pub kept-none : (nodes : List Node) (beside : List Facts) → nodes ≡ [] → beside ≡ [] → IsKept nodes beside
unfolding trees_of
kept-none nodes beside e f =
    let none : IsKept [] [] = record {
      grown = tt;
      shared = record { sorted = λ n h. absurd (omega (arith, h)); once = λ m n h k e. absurd (omega (arith, h)); children = λ n h. absurd (omega (arith, h)) };
      facts = refl;
      few = omega arith;
    } in
    subst (λ b. IsKept nodes b) (sym f) (subst (λ ns. IsKept ns []) (sym e) none)

pub seen-none : (nodes : List Node) → nodes ≡ [] → trees_of nodes ≡ []
unfolding trees_of
seen-none nodes e = ap (trees_behind []) e

pub none-of_none : {X : Type 0} (xs : List X) → length xs ≡ 0 → xs ≡ []
none-of_none [] e = refl
none-of_none (x ∷ xs) e = absurd (omega (arith, e))
