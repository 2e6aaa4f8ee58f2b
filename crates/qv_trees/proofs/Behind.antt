-- The walk through several terms.
use Rattle.std.proofs.Common.{◌≡◌, ℕ, ◌+◌, ◌<◌, List, ◌∷◌, length, get_or, take, drop, Contains, ap, subst, sym, ◌∙◌, arith, length-append}
use Rattle.std.specs.Prelude.{All}
use Rattle.std.proofs.lemmas.List.{drop_more, get_or_append_left}
use Rattle.std.proofs.lemmas.List.Elements.{All-more, All-weaker}
use Rattle.qv_words.specs.Tree.{Tree}
use Rattle.qv_store.specs.Nodes.{tree_at}
use Rattle.qv_store.specs.Walks.{named, with_subtrees, IsBehind}
use Rattle.qv_trees.specs.Subtrees.{subtrees_behind}

-- one term more
pub behind-next : (trees : List Tree) (old new ids : List ℕ) (i id : ℕ) → i < length ids → id ≡ get_or ids i id → named trees new ≡ with_subtrees (named trees old) (tree_at trees id)
    → subtrees_behind (named trees old) (named trees (drop i ids)) ≡ subtrees_behind (named trees new) (named trees (drop (i + 1) ids))
behind-next trees old new ids i id h at order =
    let left : drop i ids ≡ id ∷ drop (i + 1) ids = drop_more ids i id h ∙ ap (λ k. k ∷ drop (i + 1) ids) (sym at) in
    ap (λ ks. subtrees_behind (named trees old) (named trees ks)) left ∙ ap (λ seen. subtrees_behind seen (named trees (drop (i + 1) ids))) (sym order)

-- what was there is there
still : (old new : List ℕ) (n : ℕ) → IsBehind old new → Contains old n → Contains new n
still old new n behind there =
    let long : length new ≡ length old + length behind.more = ap length behind.behind ∙ length-append old behind.more in
    (there.0, omega (arith, long, there.1), ap (λ ks. get_or ks there.0 n) behind.behind ∙ get_or_append_left old behind.more n there.0 there.1 ∙ there.2)

pub has-next : (old new ids : List ℕ) (i id : ℕ) → i < length ids → id ≡ get_or ids i id → IsBehind old new → All (Contains old) (take i ids) → Contains new id → All (Contains new) (take (i + 1) ids)
has-next old new ids i id h at behind before own =
    All-more (Contains new) ids i id h (All-weaker (Contains old) (Contains new) (λ n there. still old new n behind there) (take i ids) before) (subst (Contains new) at own)
