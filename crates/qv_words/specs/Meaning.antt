-- What a tree means, as the standard's semantics of terms has it.
use Rattle.std.specs.Prelude.{◌≡◌, ℕ, ◌<◌, ◌⊎◌, Option, Some, List, [], ◌∷◌, slice_get}
use Rattle.qv_words.specs.declared.sort.Sort.{Sort}
use Rattle.qv_words.specs.Sort.{size_of}
use Rattle.qv_words.specs.Op.{op_value}
use Rattle.qv_words.specs.Tree.{Tree, Trees, Constant, Variable, Literal, Apply, ForAll, Exists, Nil, Cons, tree_sorts}
use Rattle.qv_words.specs.Sorted.{with_level}

-- with c's values for the constants and e's for the levels, the tree means v
abbrev mutual
  pub Means : List ℕ → (ℕ → Option ℕ) → Tree → ℕ → Type 0
  Means c e (Constant i s) v = slice_get c i ≡ Some v
  Means c e (Variable l s) v = e l ≡ Some v
  Means c e (Literal s n) v = v ≡ n
  Means c e (Apply o args) v =
      (sorts : List Sort) × (vs : List ℕ) × (tree_sorts args ≡ Some sorts) × MeanAll c e args vs × (v ≡ op_value o sorts vs)
  Means c e (ForAll l s body) v =
      ((v ≡ 1) × ((u : ℕ) → u < size_of s → Means c (with_level e l u) body 1))
      ⊎ ((v ≡ 0) × ((u : ℕ) × (u < size_of s) × Means c (with_level e l u) body 0))
  Means c e (Exists l s body) v =
      ((v ≡ 1) × ((u : ℕ) × (u < size_of s) × Means c (with_level e l u) body 1))
      ⊎ ((v ≡ 0) × ((u : ℕ) → u < size_of s → Means c (with_level e l u) body 0))

  -- the trees of a list mean these values, one each
  pub MeanAll : List ℕ → (ℕ → Option ℕ) → Trees → List ℕ → Type 0
  MeanAll c e Nil vs = vs ≡ []
  MeanAll c e (Cons t ts) vs = (v : ℕ) × (rest : List ℕ) × Means c e t v × MeanAll c e ts rest × (vs ≡ v ∷ rest)
