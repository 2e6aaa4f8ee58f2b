-- Trees of numbers in a store.
use Rattle.std.proofs.Common.{◌≡◌, ◌<◌, ◌+◌, ℕ, List, [], ◌∷◌, length, drop, get_or, refl, sym, ap, subst, ◌∙◌}
use Rattle.std.specs.Prelude.{All}
use Rattle.std.specs.List.{AllByRecursion}
use Rattle.std.proofs.lemmas.List.{drop_more}
use Rattle.qv_words.specs.Tree.{Tree}
use Rattle.qv_store.specs.Nodes.{tree_at}
use Rattle.qv_store.specs.Walks.{named}
use Rattle.qv_store.specs.Stores.{Grows}
use Rattle.qv_store.proofs.Replacement.{grown-tree}

-- the trees that are left
pub named-drop : (trees : List Tree) (ns : List ℕ) (i n : ℕ) → i < length ns → n ≡ get_or ns i n → named trees (drop i ns) ≡ tree_at trees n ∷ named trees (drop (i + 1) ns)
named-drop trees ns i n h is = ap (named trees) (drop_more ns i n h) ∙ ap (λ m. tree_at trees m ∷ named trees (drop (i + 1) ns)) (sym is)

-- trees in a greater store
pub named-kept : (old now : List Tree) → Grows old now → (ns : List ℕ) → AllByRecursion (λ n. n < length old) ns → named now ns ≡ named old ns
named-kept old now grows [] h = refl
named-kept old now grows (n ∷ ns) h =
    ap (λ t. t ∷ named now ns) (grown-tree old now grows n h.0) ∙ ap (λ ts. tree_at old n ∷ ts) (named-kept old now grows ns h.1)

-- a number of a list below a bound
pub below-at : (bound : ℕ) (ns : List ℕ) (i n : ℕ) → All (λ k. k < bound) ns → i < length ns → n ≡ get_or ns i n → n < bound
below-at bound ns i n h lt is = subst (λ m. m < bound) (sym is) (h i n lt)
