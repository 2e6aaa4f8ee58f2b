-- The set's test of two nodes holds exactly where they have the same tree over trees that stand
-- once each.
use Rattle.std.proofs.Common.{◌≡◌, ℕ, ◌<◌, Bool, true, false, ◌&&◌, List, [], ◌∷◌, length, refl, ap, subst, sym, arith}
use Rattle.std.specs.Prelude.{◌==◌, nat_eq}
use Rattle.std.specs.Cmp.Lexicographic.{pointwise}
use Rattle.std.specs.List.{AllByRecursion}
use Rattle.std.proofs.Math.Dec.{eqb}
use Rattle.std.proofs.lemmas.Bool.{eqb-false, and_parts}
use Rattle.std.proofs.lemmas.List.Elements.{recursion_from_All}
use Rattle.qv_words.specs.declared.sort.Sort.{Sort}
use Rattle.qv_words.specs.declared.sort.Sort.TheVariants.{Bits}
use Rattle.qv_words.specs.declared.sort.Sort.TheVariants.{Bool as BoolSort}
use Rattle.qv_words.specs.declared.op.Op.{Op}
use Rattle.qv_words.specs.declared.word.Word.{Word}
use Rattle.qv_words.specs.Word.{word_sort, word_value}
use Rattle.qv_words.specs.Tree.{Tree, Constant, Variable, Literal, Apply, ForAll, Exists}
use Rattle.qv_words.specs.contracts.sort.SortPartialEq.TheImpl as sort_impl
use Rattle.qv_words.specs.contracts.word.WordPartialEq.TheImpl as word_impl
use Rattle.qv_words.proofs.Equals.{eq-from_test}
use Rattle.qv_store.specs.declared.node.Node.{Node}
use Rattle.qv_store.specs.declared.node.Node.TheVariants.{Const, Var, Lit, App, Ex}
use Rattle.qv_store.specs.declared.node.Node.TheVariants.{All as AllNode}
use Rattle.qv_store.specs.Nodes.{node_tree, tree_at, trees_at, IsLike, HasChildrenBelow}
use Rattle.qv_store.specs.contracts.node.NodePartialEq.TheImpl as impl
use Rattle.qv_store.specs.contracts.node.NodeEq.TheImpl.Laws as node_laws
use Rattle.qv_store.proofs.SameOps.{test_op, ops-same}

-- the set's test of two nodes
abbrev pub node_eq : Node → Node → Bool
node_eq = (impl.eq-value).it

sorts-same : (s t : Sort) → (sort_impl.eq-value).it s t ≡ true → s ≡ t
sorts-same BoolSort BoolSort h = refl
sorts-same BoolSort (Bits w) h = absurd (cc)
sorts-same (Bits v) BoolSort h = absurd (cc)
sorts-same (Bits v) (Bits w) h = ap Bits (eq-from_test v w h)

numbers-same : (ms ns : List ℕ) → pointwise nat_eq ms ns ≡ true → ms ≡ ns
numbers-same [] [] h = refl
numbers-same [] (n ∷ ns) h = absurd (cc)
numbers-same (m ∷ ms) [] h = absurd (cc)
numbers-same (m ∷ ms) (n ∷ ns) h =
    let k = and_parts (m == n) (pointwise nat_eq ms ns) h in
    let first : m ≡ n = eq-from_test m n k.0 in
    let rest : ms ≡ ns = numbers-same ms ns k.1 in
    cc

words-same : (v w : Word) → (word_impl.eq-value).it v w ≡ true → (word_sort v ≡ word_sort w) × (word_value v ≡ word_value w)
words-same v w h =
    let k = and_parts ((sort_impl.eq-value).it v.sort w.sort) (v.value == w.value) h in
    (sorts-same v.sort w.sort k.0, eq-from_test v.value w.value k.1)

pub node_eq-refl : (a : Node) → node_eq a a ≡ true
node_eq-refl a = (node_laws.laws-law).refl a

-- a test that fails doesn't hold
untrue : {A : Type 0} → false ≡ true → A
untrue h = absurd (cc)

-- a quantifier's parts
level-sort-body : (i j : ℕ) (s t : Sort) (a b : ℕ) → (i == j && ((sort_impl.eq-value).it s t && a == b)) ≡ true → (i ≡ j) × (s ≡ t) × (a ≡ b)
level-sort-body i j s t a b h =
    let k = and_parts (i == j) ((sort_impl.eq-value).it s t && a == b) h in
    let l = and_parts ((sort_impl.eq-value).it s t) (a == b) k.1 in
    (eq-from_test i j k.0, sorts-same s t l.0, eq-from_test a b l.1)

-- equal nodes are like one another
pub nodes-like : (a b : Node) → node_eq a b ≡ true → IsLike a b
nodes-like (Const i s) (Const j t) h =
    let k = and_parts (i == j) ((sort_impl.eq-value).it s t) h in
    let index : i ≡ j = eq-from_test i j k.0 in
    let sort : s ≡ t = sorts-same s t k.1 in
    record { children = refl; tree = λ trees. cc }
nodes-like (Var i s) (Var j t) h =
    let k = and_parts (i == j) ((sort_impl.eq-value).it s t) h in
    let level : i ≡ j = eq-from_test i j k.0 in
    let sort : s ≡ t = sorts-same s t k.1 in
    record { children = refl; tree = λ trees. cc }
nodes-like (Lit v) (Lit w) h =
    let k = words-same v w h in
    record { children = refl; tree = λ trees. cc }
nodes-like (App o ms) (App p ns) h =
    let k = and_parts (test_op o p) (pointwise nat_eq ms.items ns.items) h in
    let op : o ≡ p = ops-same o p k.0 in
    let kids : ms.items ≡ ns.items = numbers-same ms.items ns.items k.1 in
    record { children = sym kids; tree = λ trees. cc }
nodes-like (AllNode i s a) (AllNode j t b) h =
    let k = level-sort-body i j s t a b h in
    record { children = cc; tree = λ trees. cc }
nodes-like (Ex i s a) (Ex j t b) h =
    let k = level-sort-body i j s t a b h in
    record { children = cc; tree = λ trees. cc }
nodes-like _ _ h = untrue h

-- trees stand once each
abbrev pub StandOnce : List Tree → Type 0
StandOnce trees = (m n : ℕ) → m < length trees → n < length trees → tree_at trees m ≡ tree_at trees n → m ≡ n

-- so numbers of the same trees are the same
numbers-once : (trees : List Tree) → StandOnce trees → (ms ns : List ℕ) → AllByRecursion (λ n. n < length trees) ms → AllByRecursion (λ n. n < length trees) ns → trees_at trees ms ≡ trees_at trees ns → ms ≡ ns
numbers-once trees once [] [] p q e = refl
numbers-once trees once [] (n ∷ ns) p q e = absurd (cc)
numbers-once trees once (m ∷ ms) [] p q e = absurd (cc)
numbers-once trees once (m ∷ ms) (n ∷ ns) p q e =
    let here : tree_at trees m ≡ tree_at trees n = cc in
    let others : trees_at trees ms ≡ trees_at trees ns = cc in
    let first : m ≡ n = once m n p.0 q.0 here in
    let rest : ms ≡ ns = numbers-once trees once ms ns p.1 q.1 others in
    cc

-- trees of two kinds are two
abbrev kind : Tree → ℕ
kind (Constant i s) = 0
kind (Variable l s) = 1
kind (Literal s n) = 2
kind (Apply o args) = 3
kind (ForAll l s body) = 4
kind (Exists l s body) = 5

apart : {A : Type 0} (s t : Tree) → eqb (kind s) (kind t) ≡ false → s ≡ t → A
apart s t f e = absurd (eqb-false (kind s) (kind t) f (ap kind e))

-- and nodes of one tree are equal
pub nodes-equal : (trees : List Tree) → StandOnce trees → (a b : Node) → HasChildrenBelow (length trees) a → HasChildrenBelow (length trees) b → node_tree trees a ≡ node_tree trees b → node_eq a b ≡ true
nodes-equal trees once (Const i s) (Const j t) p q e =
    let same : Const i s ≡ Const j t = cc in subst (λ (b : Node). node_eq (Const i s) b ≡ true) same (node_eq-refl (Const i s))
nodes-equal trees once (Var i s) (Var j t) p q e =
    let same : Var i s ≡ Var j t = cc in subst (λ (b : Node). node_eq (Var i s) b ≡ true) same (node_eq-refl (Var i s))
nodes-equal trees once (Lit v) (Lit w) p q e =
    let sort : v.sort ≡ w.sort = cc in
    let value : v.value ≡ w.value = cc in
    let P : Sort → ℕ → Type 0 = λ s n. ((sort_impl.eq-value).it v.sort s && v.value == n) ≡ true in
    subst (λ n. P w.sort n) value (subst (λ (s : Sort). P s v.value) sort (node_eq-refl (Lit v)))
nodes-equal trees once (App o ms) (App r ns) p q e =
    let op : o ≡ r = cc in
    let args : trees_at trees ms.items ≡ trees_at trees ns.items = cc in
    let kids : ms.items ≡ ns.items = numbers-once trees once ms.items ns.items (recursion_from_All _ ms.items p) (recursion_from_All _ ns.items q) args in
    let P : Op → List ℕ → Type 0 = λ b is. (test_op o b && pointwise nat_eq ms.items is) ≡ true in
    subst (λ is. P r is) kids (subst (λ (b : Op). P b ms.items) op (node_eq-refl (App o ms)))
nodes-equal trees once (AllNode i s a) (AllNode j t b) p q e =
    let here : tree_at trees a ≡ tree_at trees b = cc in
    let body : a ≡ b = once a b (p 0 a (omega arith)) (q 0 b (omega arith)) here in
    let same : AllNode i s a ≡ AllNode j t b = cc in
    subst (λ (n : Node). node_eq (AllNode i s a) n ≡ true) same (node_eq-refl (AllNode i s a))
nodes-equal trees once (Ex i s a) (Ex j t b) p q e =
    let here : tree_at trees a ≡ tree_at trees b = cc in
    let body : a ≡ b = once a b (p 0 a (omega arith)) (q 0 b (omega arith)) here in
    let same : Ex i s a ≡ Ex j t b = cc in
    subst (λ (n : Node). node_eq (Ex i s a) n ≡ true) same (node_eq-refl (Ex i s a))
nodes-equal trees once a b p q e = apart (node_tree trees a) (node_tree trees b) refl e
