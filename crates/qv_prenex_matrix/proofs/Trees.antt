-- Trees of a store that grows.
use Rattle.std.proofs.Common.{◌≡◌, ℕ, ◌<◌, ◌≤◌, List, [], ◌∷◌, length, map, refl, sym, ap, ◌∙◌, arith, append-nil, length-append}
use Rattle.std.specs.List.{AllByRecursion}
use Rattle.qv_words.specs.Tree.{Tree}
use Rattle.qv_store.specs.Nodes.{tree_at}
use Rattle.qv_store.specs.Stores.{Grows}
use Rattle.qv_store.proofs.Standing.{tree_at-before}
use Rattle.qv_prenex_matrix.specs.declared.rules.Part.{Part}
use Rattle.qv_prenex_matrix.specs.Rules.{part_in}
use Rattle.qv_prenex_matrix.specs.Waiting.{parts_in, AreBelow}

pub grows-itself : (trees : List Tree) → Grows trees trees
grows-itself trees = record { more = []; behind = sym (append-nil trees) }

pub tree-grows : (old new : List Tree) (n : ℕ) → Grows old new → n < length old → tree_at new n ≡ tree_at old n
tree-grows old new n g h = ap (λ xs. tree_at xs n) g.behind ∙ tree_at-before old g.more n h

pub length-grows : (old new : List Tree) → Grows old new → length old ≤ length new
length-grows old new g = omega (arith, ap length g.behind, length-append old g.more)

-- trees of numbers
pub trees-grow : (old new : List Tree) (ns : List ℕ) → Grows old new → AllByRecursion (λ n. n < length old) ns →
    map (tree_at new) ns ≡ map (tree_at old) ns
trees-grow old new [] g h = refl
trees-grow old new (n ∷ ns) g h =
    let here : tree_at new n ≡ tree_at old n = tree-grows old new n g h.0 in
    let rest = trees-grow old new ns g h.1 in
    cc

pub below-grows : (n m : ℕ) (ns : List ℕ) → n ≤ m → AllByRecursion (λ k. k < n) ns → AllByRecursion (λ k. k < m) ns
below-grows n m [] le h = tt
below-grows n m (k ∷ ns) le h = let here = h.0 in (omega (arith, here, le), below-grows n m ns le h.1)

-- trees of parts
pub part-grows : (old new : List Tree) (p : Part) → Grows old new → p.term < length old → part_in new p ≡ part_in old p
part-grows old new p g h = ap (λ (t : Tree). record { plus = p.plus; tree = t }) (tree-grows old new p.term g h)

pub parts-grow : (old new : List Tree) (ps : List Part) → Grows old new → AreBelow (length old) ps →
    parts_in new ps ≡ parts_in old ps
parts-grow old new [] g h = refl
parts-grow old new (p ∷ ps) g h =
    let here = part-grows old new p g h.0 in
    let rest = parts-grow old new ps g h.1 in
    cc

pub parts-below : (n m : ℕ) (ps : List Part) → n ≤ m → AreBelow n ps → AreBelow m ps
parts-below n m [] le h = tt
parts-below n m (p ∷ ps) le h = let here = h.0 in (omega (arith, here, le), parts-below n m ps le h.1)
