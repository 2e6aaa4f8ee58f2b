-- What is asked of all constants and variables of a store.
use Rattle.std.specs.Prelude.{◌≡◌, ℕ, ◌<◌, Option, Some, IfSome, IsSomeAnd, List, slice_get}
use Rattle.qv_words.specs.declared.sort.Sort.{Sort}
use Rattle.qv_words.specs.declared.word.Word.{Word}
use Rattle.qv_words.specs.Word.{word_sort}
use Rattle.qv_words.specs.Tree.{Tree, Constant, Variable, Literal, Apply, ForAll, Exists, tree_sort}
use Rattle.qv_store.specs.Nodes.{tree_at}
use Rattle.qv_store.specs.Replacing.{put_by_level}

-- a tree that is a constant or a variable is as asked
abbrev pub IsFit : (ℕ × Sort → Type 0) → (ℕ × Sort → Type 0) → Tree → Type 0
IsFit P Q (Constant i s) = P (i, s)
IsFit P Q (Variable l s) = Q (l, s)
IsFit P Q (Literal s n) = Unit {0}
IsFit P Q (Apply o args) = Unit {0}
IsFit P Q (ForAll l s body) = Unit {0}
IsFit P Q (Exists l s body) = Unit {0}

-- so are all trees of smaller numbers
abbrev pub AreFitBelow : (ℕ × Sort → Type 0) → (ℕ × Sort → Type 0) → List Tree → ℕ → Type 0
AreFitBelow P Q trees end = (n : ℕ) → n < end → IsFit P Q (tree_at trees n)

-- nothing is asked
abbrev pub IsAny : ℕ × Sort → Type 0
IsAny leaf = Unit {0}

-- a word of its sort is there
abbrev pub IsWordAt : List Word → ℕ × Sort → Type 0
IsWordAt words leaf = IsSomeAnd (slice_get words leaf.0) (λ w. word_sort w ≡ leaf.1)

-- what is put in for it has its sort
abbrev pub IsPutAt : List Tree → List (Option ℕ) → ℕ × Sort → Type 0
IsPutAt trees terms leaf = IfSome (put_by_level trees terms leaf.0) (λ put. tree_sort put ≡ Some leaf.1)

-- at this level it has this sort
abbrev pub IsOfLevel : ℕ → Sort → ℕ × Sort → Type 0
IsOfLevel l s leaf = leaf.0 ≡ l → leaf.1 ≡ s

-- this is the sort of its index
abbrev pub IsSortAt : List Sort → ℕ × Sort → Type 0
IsSortAt sorts leaf = slice_get sorts leaf.0 ≡ Some leaf.1

-- its level is below this one
abbrev pub IsBelow : ℕ → ℕ × Sort → Type 0
IsBelow levels leaf = leaf.0 < levels
