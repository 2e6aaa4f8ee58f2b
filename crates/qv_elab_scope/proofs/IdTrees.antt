-- Ids and the trees that they stand for.
use Rattle.std.proofs.Common.{◌≡◌, ℕ, List, [], ◌∷◌, refl, ap, ◌∙◌, map}
use Rattle.qv_words.specs.Tree.{Tree}
use Rattle.qv_store.specs.Nodes.{tree_at}
use Rattle.qv_elab_scope.specs.Ids.{AreAt}
pub use Rattle.qv_elab_scope.proofs.Standing.{named-length}

-- what stands there
pub at-trees : (trees : List Tree) (ns : List ℕ) (ts : List Tree) → AreAt trees ns ts → map (tree_at trees) ns ≡ ts
at-trees trees [] [] h = refl
at-trees trees (n ∷ ns) (t ∷ ts) h = ap (λ u. u ∷ map (tree_at trees) ns) h.0.tree ∙ ap (λ us. t ∷ us) (at-trees trees ns ts h.1)
at-trees trees [] (t ∷ ts) h = absurd h
at-trees trees (n ∷ ns) [] h = absurd h
