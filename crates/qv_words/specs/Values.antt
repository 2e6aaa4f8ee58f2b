-- Words as values for a tree without quantifiers.
use Rattle.std.specs.Prelude.{◌≡◌, ℕ, IsSomeAnd, List, All, slice_get}
use Rattle.qv_words.specs.declared.word.Word.{Word}
use Rattle.qv_words.specs.Word.{word_sort, values_of}
use Rattle.qv_words.specs.Tree.{Tree}
use Rattle.qv_words.specs.Sorted.{constants_of, free_levels}
use Rattle.qv_words.specs.Meaning.{Means}

-- one word of the right sort for each constant and each free variable, by its index and its level
pub record HasWords (consts places : List Word) (t : Tree) : Type 0 where
  pub constants : All (λ leaf. IsSomeAnd (slice_get consts leaf.0) (λ w. word_sort w ≡ leaf.1)) (constants_of t)
  pub levels : All (λ leaf. IsSomeAnd (slice_get places leaf.0) (λ w. word_sort w ≡ leaf.1)) (free_levels t)

-- under these words the tree means v
abbrev pub MeansUnder : List Word → List Word → Tree → ℕ → Type 0
MeansUnder consts levels = Means (values_of consts) (slice_get (values_of levels))
