-- Trees without constants under values that are the same at every level.
use Rattle.std.proofs.Common.{◌≡◌, ℕ, Option, List, [], ◌∷◌, refl}
use Rattle.std.specs.List.{AllByRecursion}
use Rattle.qv_words.specs.declared.sort.Sort.{Sort}
use Rattle.qv_words.specs.Tree.{Tree}
use Rattle.qv_words.specs.Sorted.{constants_of, free_levels}
use Rattle.qv_words.specs.Meaning.{Means}
use Rattle.qv_words.proofs.Leaves.{Agree}
use Rattle.qv_words.proofs.Agreeing.{SameConstant, same_meaning}

same-constants : (leaves : List (ℕ × Sort)) → AllByRecursion (SameConstant [] []) leaves
same-constants [] = tt
same-constants (leaf ∷ leaves) = (refl, same-constants leaves)

-- values that are the same at every level give a tree one meaning
same-levels : (e f : ℕ → Option ℕ) → ((l : ℕ) → e l ≡ f l) → (leaves : List (ℕ × Sort)) → AllByRecursion (Agree e f) leaves
same-levels e f h [] = tt
same-levels e f h (leaf ∷ leaves) = (h leaf.0, same-levels e f h leaves)

pub under-same : (t : Tree) (e f : ℕ → Option ℕ) (v : ℕ) → ((l : ℕ) → e l ≡ f l) → Means [] e t v → Means [] f t v
under-same t e f v h m = same_meaning t [] [] e f v (same-constants (constants_of t)) (same-levels e f h (free_levels t)) m
