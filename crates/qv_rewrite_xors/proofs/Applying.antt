-- What the steps of applications, their arguments and their terms need of chains in a store.
use Rattle.std.proofs.Common.{◌≡◌, ℕ, ◌+◌, ◌-◌, ◌^◌, ◌<◌, Bool as Truth, true, false, cond, Option, Some, None, List, [], ◌∷◌, ◌++◌, map, length, get_or, take, refl, ap, sym, ◌∙◌, subst, arith}
use Rattle.std.specs.Prelude.{IsSome, All, unwrap_or, nat_le}
use Rattle.std.specs.List.{AllByRecursion, AllZip}
use Rattle.std.proofs.lemmas.List.{take_more}
use Rattle.std.proofs.lemmas.List.Elements.{All-from_recursion}
use Rattle.smallvec.specs.SmallVec.{SmallVec}
use Rattle.qv_words.specs.declared.sort.Sort.{Sort}
use Rattle.qv_words.specs.declared.sort.Sort.TheVariants.{Bool}
use Rattle.qv_words.specs.declared.op.Op.{Op}
use Rattle.qv_words.specs.declared.word.Word.{Word}
use Rattle.qv_words.specs.Sort.{width_of}
use Rattle.qv_words.specs.Tree.{Tree, Trees, Literal, Apply, Cons, tree_sort}
use Rattle.qv_words.specs.Sorted.{IsSorted, AreSortedBelow, no_levels}
use Rattle.qv_words.specs.Sums.{bits_in}
use Rattle.qv_words.proofs.Elements.{zip-more, zip-append}
use Rattle.qv_rewrite_passes.specs.Xors.{Chain, alone, united, number_of, chain_or_alone, first_bits, terms_of, chain, chains, xored}
use Rattle.qv_store.specs.declared.node.Node.{Node}
use Rattle.qv_store.specs.declared.node.Node.TheVariants.{Const, Var, Lit, App, Ex}
use Rattle.qv_store.specs.declared.node.Node.TheVariants.{All as AllNode}
use Rattle.qv_store.specs.Nodes.{tree_at, trees_at, node_tree, children, HasChildrenBelow}
use Rattle.qv_store.specs.Stores.{AreShared, Grows, StandsAt}
use Rattle.qv_store.specs.Walks.{IsEarlier}
use Rattle.qv_store.proofs.Passes.{walk-kids}
use Rattle.qv_store.proofs.Replacement.{grown-stands}
use Rattle.qv_rewrite_xors.specs.declared.chained.Chained.{Chained}
use Rattle.qv_rewrite_xors.specs.Held.{chain_at, AreBelow, IsChainOf, short_chain, IsApplication, IsNext}
use Rattle.qv_rewrite_xors.proofs.Fitting.{chains-fit, rebuilt-sort}

-- the terms of chains, one by one
abbrev pub IsTermOf : List Tree → List Tree → ℕ → ℕ → Type 0
IsTermOf old now kid term = StandsAt now term (xored (tree_at old kid))

pub zip-terms : (old now : List Tree) (kids terms : List ℕ) → AllZip (IsTermOf old now) kids terms → trees_at now terms ≡ terms_of (trees_at old kids) (chains (trees_at old kids))
zip-terms old now [] [] h = refl
zip-terms old now [] (t ∷ ts) h = absurd h
zip-terms old now (k ∷ ks) [] h = absurd h
zip-terms old now (k ∷ ks) (t ∷ ts) h =
    let first : tree_at now t ≡ xored (tree_at old k) = h.0.tree in
    let rest : trees_at now ts ≡ terms_of (trees_at old ks) (chains (trees_at old ks)) = zip-terms old now ks ts h.1 in
    ap (λ (u : Tree). Cons u (trees_at now ts)) first ∙ ap (λ (us : Trees). Cons (xored (tree_at old k)) us) rest

pub zip-below : (old now : List Tree) (kids terms : List ℕ) → AllZip (IsTermOf old now) kids terms → AllByRecursion (λ t. t < length now) terms
zip-below old now [] [] h = tt
zip-below old now [] (t ∷ ts) h = absurd h
zip-below old now (k ∷ ks) [] h = tt
zip-below old now (k ∷ ks) (t ∷ ts) h = (h.0.below, zip-below old now ks ts h.1)

pub zip-terms_more : (old now new : List Tree) (kids terms pushed : List ℕ) (k kid term : ℕ) → Grows now new → AllZip (IsTermOf old now) (take k kids) terms → k < length kids → kid ≡ get_or kids k kid → StandsAt new term (xored (tree_at old kid)) → pushed ≡ terms ++ term ∷ [] → AllZip (IsTermOf old new) (take (k + 1) kids) pushed
zip-terms_more old now new kids terms pushed k kid term grows h low at own is =
    let next : take (k + 1) kids ≡ take k kids ++ kid ∷ [] = take_more kids k kid low ∙ ap (λ (n : ℕ). take k kids ++ n ∷ []) (sym at) in
    let kept = zip-more (IsTermOf old now) (IsTermOf old new) (λ j t s. grown-stands now new grows t (xored (tree_at old j)) s) (take k kids) terms h in
    let both = zip-append (IsTermOf old new) (take k kids) (kid ∷ []) terms (term ∷ []) kept (own, tt) in
    subst (λ (ns : List ℕ). AllZip (IsTermOf old new) ns pushed) (sym next) (subst (λ (ts : List ℕ). AllZip (IsTermOf old new) (take k kids ++ kid ∷ []) ts) (sym is) both)

-- an application over the terms of its arguments' chains is sorted
sorted-each : (trees : List Tree) (ids : List ℕ) → AreShared trees → AllByRecursion (λ n. n < length trees) ids → AreSortedBelow no_levels (trees_at trees ids)
sorted-each trees [] shared h = tt
sorted-each trees (n ∷ ns) shared h = (shared.sorted n h.0, sorted-each trees ns shared h.1)

pub rebuilt-sorted : (old now : List Tree) (o : Op) (kids terms : List ℕ) → AreShared now → IsSorted (Apply o (trees_at old kids)) → AllZip (IsTermOf old now) kids terms → IsSorted (Apply o (trees_at now terms))
rebuilt-sorted old now o kids terms shared sorted zip =
    let ts = trees_at old kids in
    let own : trees_at now terms ≡ terms_of ts (chains ts) = zip-terms old now kids terms zip in
    let sort : tree_sort (Apply o (trees_at now terms)) ≡ tree_sort (Apply o ts) = ap (λ (us : Trees). tree_sort (Apply o us)) own ∙ rebuilt-sort o ts (chains ts) sorted.0 (chains-fit ts sorted.0) in
    (sorted-each now terms shared (zip-below old now kids terms zip), subst IsSome (sym sort) sorted.1)

-- the next term of a walk, where it is an application
pub next-application : (trees : List Tree) (ids : List ℕ) (chains : List Chained) (n : ℕ) (node : Node) (o : Op) (kids : List ℕ) → IsNext trees ids chains n → AreShared trees → n < length trees → node_tree trees node ≡ tree_at trees n → HasChildrenBelow n node
    → children node ≡ kids → tree_at trees n ≡ Apply o (trees_at trees kids) → IsApplication trees ids chains o kids
next-application trees ids chains n node o kids next shared low tree below are is = record {
  walk = next.walk;
  found = next.found;
  kids_earlier = subst (All (IsEarlier ids (length chains))) are (All-from_recursion (IsEarlier ids (length chains)) (children node) (walk-kids trees ids shared next.walk (length chains) n node next.at tree below));
  kids_below = subst (All (λ (k : ℕ). k < length trees)) are (λ k d h. omega (arith, below k d h, low));
  sorted = subst IsSorted is (shared.sorted n low);
}

-- a tree that is a chain of itself alone
alone-chain : (trees : List Tree) (id : ℕ) (t : Tree) (p : Chained) → StandsAt trees id t → p.constant ≡ 0 → p.atoms.items ≡ id ∷ [] → chain t ≡ alone t → IsChainOf trees t p
alone-chain trees id t p s number atoms is = record {
  chain = ap (λ (n : ℕ). record { constant = n; atoms = map (tree_at trees) p.atoms.items }) number
      ∙ ap (λ (ns : List ℕ). record { constant = 0; atoms = map (tree_at trees) ns }) atoms
      ∙ ap alone s.tree ∙ sym is;
  below = subst (AreBelow (length trees)) (sym atoms) (s.below, tt);
}

-- any other than a literal and an application
pub leaf-chain : (trees : List Tree) (id : ℕ) (node : Node) (p : Chained) → id < length trees → node_tree trees node ≡ tree_at trees id → ((v : Word) → node ≡ Lit v → ⊥) → ((o : Op) → (kids : SmallVec ℕ) → node ≡ App o kids → ⊥) → p.constant ≡ 0 → p.atoms.items ≡ id ∷ [] → IsChainOf trees (tree_at trees id) p
leaf-chain trees id node p low tree none other number atoms = alone-chain trees id (tree_at trees id) p (record { below = low; tree = refl }) number atoms (subst (λ (t : Tree). chain t ≡ alone t) tree (go node none other))
  where
    go : (x : Node) → ((v : Word) → x ≡ Lit v → ⊥) → ((o : Op) → (kids : SmallVec ℕ) → x ≡ App o kids → ⊥) → chain (node_tree trees x) ≡ alone (node_tree trees x)
    go (Const i s) f g = refl
    go (Var l s) f g = refl
    go (Lit w) f g = absurd (f w refl)
    go (App o kids) f g = absurd (g o kids refl)
    go (AllNode l s body) f g = refl
    go (Ex l s body) f g = refl

-- a literal
pub literal-chain : (trees : List Tree) (t : Tree) (s : Sort) (n : ℕ) (p : Chained) → t ≡ Literal s n → p.constant ≡ n → p.atoms.items ≡ [] → IsChainOf trees t p
literal-chain trees t s n p is number atoms = record {
  chain = ap (λ (m : ℕ). record { constant = m; atoms = map (tree_at trees) p.atoms.items }) number
      ∙ ap (λ (ns : List ℕ). record { constant = n; atoms = map (tree_at trees) ns }) atoms
      ∙ sym (ap chain is);
  below = subst (AreBelow (length trees)) (sym atoms) tt;
}

-- an application: a short chain, or the application rebuilt
short-or : (q : Option ℕ) (ps : List Chain) (t : Tree) → unwrap_or (short_chain q ps) (alone t) ≡ chain_or_alone q ps t
short-or None ps t = refl
short-or (Some n) ps t = go (nat_le (length (united n ps).atoms) 64)
  where
    go : (b : Truth) → unwrap_or (cond b (Some (united n ps)) None) (alone t) ≡ cond b (united n ps) (alone t)
    go true = refl
    go false = refl

application-chain : (t : Tree) (s : Sort) (o : Op) (ts : Trees) (all : ℕ) (q : Option Chain) → t ≡ Apply o ts → tree_sort t ≡ Some s → all + 1 ≡ 2 ^ width_of s → short_chain (number_of o all (first_bits ts)) (chains ts) ≡ q → chain t ≡ unwrap_or q (alone (Apply o (terms_of ts (chains ts))))
application-chain t s o ts all q tree sort ones is =
    let bits : bits_in (Apply o ts) ≡ width_of s = ap (λ (x : Option Sort). width_of (unwrap_or x Bool)) (ap tree_sort (sym tree) ∙ sort) in
    let number : 2 ^ bits_in (Apply o ts) - 1 ≡ all = ap (λ (w : ℕ). 2 ^ w - 1) bits ∙ omega (arith, ones) in
    let u = Apply o (terms_of ts (chains ts)) in
    ap chain tree
    ∙ sym (short-or (number_of o (2 ^ bits_in (Apply o ts) - 1) (first_bits ts)) (chains ts) u)
    ∙ ap (λ (n : ℕ). unwrap_or (short_chain (number_of o n (first_bits ts)) (chains ts)) (alone u)) number
    ∙ ap (λ (x : Option Chain). unwrap_or x (alone u)) is

pub held-short : (trees : List Tree) (t : Tree) (s : Sort) (o : Op) (ts : Trees) (all : ℕ) (p : Chained) → t ≡ Apply o ts → tree_sort t ≡ Some s → all + 1 ≡ 2 ^ width_of s → AreBelow (length trees) p.atoms.items → Some (chain_at trees p) ≡ short_chain (number_of o all (first_bits ts)) (chains ts) → IsChainOf trees t p
held-short trees t s o ts all p tree sort ones below is = record {
  chain = sym (application-chain t s o ts all (Some (chain_at trees p)) tree sort ones (sym is));
  below = below;
}

pub held-rebuilt : (trees : List Tree) (t : Tree) (s : Sort) (o : Op) (ts : Trees) (all made : ℕ) (p : Chained) → t ≡ Apply o ts → tree_sort t ≡ Some s → all + 1 ≡ 2 ^ width_of s → None ≡ short_chain (number_of o all (first_bits ts)) (chains ts) → StandsAt trees made (Apply o (terms_of ts (chains ts))) → p.constant ≡ 0 → p.atoms.items ≡ made ∷ [] → IsChainOf trees t p
held-rebuilt trees t s o ts all made p tree sort ones is stands number atoms = record {
  chain = ap (λ (n : ℕ). record { constant = n; atoms = map (tree_at trees) p.atoms.items }) number
      ∙ ap (λ (ns : List ℕ). record { constant = 0; atoms = map (tree_at trees) ns }) atoms
      ∙ ap alone stands.tree
      ∙ sym (application-chain t s o ts all None tree sort ones (sym is));
  below = subst (AreBelow (length trees)) (sym atoms) (stands.below, tt);
}
