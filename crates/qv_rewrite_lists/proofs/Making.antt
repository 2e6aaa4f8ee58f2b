-- The terms that a list's become, one after the other.
use Rattle.std.proofs.Common.{◌≡◌, ℕ, ◌+◌, ◌<◌, ◌≤◌, List, [], ◌∷◌, ◌++◌, length, get_or, map, take, refl, sym, ap, subst, ◌∙◌}
use Rattle.std.specs.List.{AllByRecursion}
use Rattle.std.proofs.lemmas.List.{take_more, take_all}
use Rattle.qv_words.specs.Tree.{Tree}
use Rattle.qv_store.specs.Nodes.{tree_at}
use Rattle.qv_store.specs.Stores.{StandsAt, Grows}
use Rattle.qv_store.specs.Walks.{named}
use Rattle.qv_rewrite.proofs.Waiting.{stands-grows, tree-grows}

-- these are what a function makes of those
abbrev pub AreMade : (make : Tree → Tree) → (first trees : List Tree) → List ℕ → List ℕ → Type 0
AreMade make first trees [] [] = Unit {0}
AreMade make first trees [] (m ∷ ms) = ⊥
AreMade make first trees (k ∷ ks) [] = ⊥
AreMade make first trees (k ∷ ks) (m ∷ ms) = StandsAt trees m (make (tree_at first k)) × AreMade make first trees ks ms

made-push : (make : Tree → Tree) (first trees : List Tree) (ks ms : List ℕ) (k m : ℕ) → AreMade make first trees ks ms → StandsAt trees m (make (tree_at first k)) → AreMade make first trees (ks ++ k ∷ []) (ms ++ m ∷ [])
made-push make first trees [] [] k m h at = (at, tt)
made-push make first trees (x ∷ ks) (y ∷ ms) k m h at = (h.0, made-push make first trees ks ms k m h.1 at)
made-push make first trees [] (y ∷ ms) k m h at = absurd h
made-push make first trees (x ∷ ks) [] k m h at = absurd h

made-grows : (make : Tree → Tree) (first old new : List Tree) (ks ms : List ℕ) → Grows old new → AreMade make first old ks ms → AreMade make first new ks ms
made-grows make first old new [] [] g h = tt
made-grows make first old new (k ∷ ks) (m ∷ ms) g h = (stands-grows old new m (make (tree_at first k)) g h.0, made-grows make first old new ks ms g h.1)
made-grows make first old new [] (m ∷ ms) g h = absurd h
made-grows make first old new (k ∷ ks) [] g h = absurd h

pub made-more : (make : Tree → Tree) (first old new : List Tree) (list ids : List ℕ) (i k m : ℕ) → i < length list → k ≡ get_or list i k → k < length first → Grows first old → Grows old new → AreMade make first old (take i list) ids → StandsAt new m (make (tree_at old k)) →
    AreMade make first new (take (i + 1) list) (ids ++ m ∷ [])
made-more make first old new list ids i k m h is below f g done at =
    let front : take (i + 1) list ≡ take i list ++ k ∷ [] = take_more list i k h ∙ ap (λ x. take i list ++ x ∷ []) (sym is) in
    let here : StandsAt new m (make (tree_at first k)) = subst (λ t. StandsAt new m (make t)) (tree-grows first old k f below) at in
    subst (λ ks. AreMade make first new ks (ids ++ m ∷ [])) (sym front) (made-push make first new (take i list) ids k m (made-grows make first old new (take i list) ids g done) here)

pub made-whole : (make : Tree → Tree) (first trees : List Tree) (list ids : List ℕ) (i : ℕ) → length list ≤ i → AreMade make first trees (take i list) ids → AreMade make first trees list ids
made-whole make first trees list ids i h done = subst (λ ks. AreMade make first trees ks ids) (take_all i list h) done

pub made-pass : (make : Tree → Tree) (first trees : List Tree) (ks ms : List ℕ) → AreMade make first trees ks ms → named trees ms ≡ map make (named first ks)
made-pass make first trees [] [] h = refl
made-pass make first trees (k ∷ ks) (m ∷ ms) h = ap (λ (t : Tree). t ∷ named trees ms) h.0.tree ∙ ap (λ (ts : List Tree). make (tree_at first k) ∷ ts) (made-pass make first trees ks ms h.1)
made-pass make first trees [] (m ∷ ms) h = absurd h
made-pass make first trees (k ∷ ks) [] h = absurd h

pub made-below : (make : Tree → Tree) (first trees : List Tree) (ks ms : List ℕ) → AreMade make first trees ks ms → AllByRecursion (λ m. m < length trees) ms
made-below make first trees [] [] h = tt
made-below make first trees (k ∷ ks) (m ∷ ms) h = (h.0.below, made-below make first trees ks ms h.1)
made-below make first trees [] (m ∷ ms) h = absurd h
made-below make first trees (k ∷ ks) [] h = absurd h
