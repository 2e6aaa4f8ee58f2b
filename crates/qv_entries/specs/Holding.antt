-- The first entry whose region holds a point.
use Rattle.std.specs.Prelude.{◌≡◌, ℕ, ◌<◌, true, Option, Some, None, IsSomeAnd, List, [], length, slice_get, take, All}
use Rattle.qv_words.specs.declared.sort.Sort.TheVariants.{Bool as BoolSort}
use Rattle.qv_words.specs.declared.word.Word.{Word}
use Rattle.qv_words.specs.Tree.{Tree}
use Rattle.qv_words.specs.Problem.{Quantifier}
use Rattle.qv_words.specs.Values.{HasWords}
use Rattle.qv_words.specs.Skolem.{IsTermOf}
use Rattle.qv_words.specs.Choice.{IsTrueAt}
use Rattle.qv_words.specs.Linked.{Entry, is_of}
use Rattle.qv_store.specs.Nodes.{tree_at}

-- an entry of this level and winner whose region holds the point
abbrev pub HoldsAt : ℕ → Quantifier → List ℕ → Entry → Type 0
HoldsAt level winner point e = (is_of level winner e ≡ true) × IsTrueAt point e.region

-- the number of the first of some entries of which this holds, or none where it holds of none
abbrev pub IsFirstWith : (Entry → Type 0) → List Entry → Option ℕ → Type 0
IsFirstWith P entries None = All (λ e. P e → ⊥) entries
IsFirstWith P entries (Some n) = IsSomeAnd (slice_get entries n) P × All (λ e. P e → ⊥) (take n entries)

-- a formula of the store without quantifiers and constants, and a word of its sort for each of its
-- variables
pub record IsAskable (trees : List Tree) (point : List Word) (id : ℕ) : Type 0 where
  pub below : id < length trees
  pub formula : IsTermOf (tree_at trees id) BoolSort
  pub words : HasWords [] point (tree_at trees id)
