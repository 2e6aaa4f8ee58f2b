-- Trees of a store that grows.
use Rattle.std.proofs.Common.{◌≡◌, ℕ, ◌<◌, ◌≤◌, List, [], ◌∷◌, length, refl, sym, ap, ◌∙◌, arith, append-nil, length-append}
use Rattle.std.specs.List.{AllByRecursion}
use Rattle.qv_words.specs.Tree.{Tree}
use Rattle.qv_store.specs.Nodes.{tree_at}
use Rattle.qv_store.specs.Stores.{Grows}
use Rattle.qv_store.specs.Walks.{named}
use Rattle.qv_store.proofs.Standing.{tree_at-before}

pub grows-itself : (trees : List Tree) → Grows trees trees
grows-itself trees = record { more = []; behind = sym (append-nil trees) }

pub tree-grows : (old new : List Tree) (n : ℕ) → Grows old new → n < length old → tree_at new n ≡ tree_at old n
tree-grows old new n g h = ap (λ xs. tree_at xs n) g.behind ∙ tree_at-before old g.more n h

pub length-grows : (old new : List Tree) → Grows old new → length old ≤ length new
length-grows old new g = omega (arith, ap length g.behind, length-append old g.more)

pub named-grows : (old new : List Tree) (ids : List ℕ) → Grows old new → AllByRecursion (λ n. n < length old) ids → named new ids ≡ named old ids
named-grows old new [] g h = refl
named-grows old new (n ∷ ns) g h = ap (λ u. u ∷ named new ns) (tree-grows old new n g h.0) ∙ ap (λ us. tree_at old n ∷ us) (named-grows old new ns g h.1)
