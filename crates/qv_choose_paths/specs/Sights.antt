-- What is known of a region before candidates are tried.
use Rattle.std.specs.Prelude.{◌≡◌, ℕ, ◌<◌, Some, List, [], ◌∷◌, length, slice_get}
use Rattle.qv_words.specs.declared.sort.Sort.TheVariants.{Bool}
use Rattle.qv_words.specs.declared.word.Word.{Word}
use Rattle.qv_words.specs.Word.{word_sort}
use Rattle.qv_words.specs.Tree.{Tree, tree_sort, IsQuantifierFree}
use Rattle.qv_words.specs.Skolem.{IsTermOf}
use Rattle.qv_words.specs.Values.{HasWords}
use Rattle.qv_words.specs.Clauses.{nodes}
use Rattle.qv_store.specs.Nodes.{tree_at}
use Rattle.qv_store.specs.Stores.{AreShared}
use Rattle.qv_store.specs.Walks.{named, with_subtrees, IsWalk, IsEarlier}
use Rattle.qv_store.specs.Evaluating.{HaveValues, AreWords}
use Rattle.qv_choose_paths.specs.declared.seeing.Sight.{Sight}
use Rattle.qv_choose_paths.specs.declared.seeing.Trial.{Trial}
use Rattle.qv_choose_paths.specs.Looks.{AreLooks}

-- a region of truth values, with a word for each of its variables
pub record IsRegion (point : List Word) (trees : List Tree) (region : ℕ) : Type 0 where
  pub shared : AreShared trees
  pub below : region < length trees
  pub formula : IsTermOf (tree_at trees region) Bool
  pub words : HasWords [] point (tree_at trees region)

-- the terms of a walk, and what they show of the place
pub record IsScene (trees : List Tree) (s : Sight) : Type 0 where
  pub shared : AreShared trees
  pub walk : IsWalk trees s.walk
  pub free : (k n : ℕ) → slice_get s.walk k ≡ Some n → IsQuantifierFree (tree_at trees n)
  pub many_looks : length s.looks.items ≡ length s.walk
  pub looks : AreLooks s.place trees s.walk s.looks.items

-- those of a term
pub record IsSight (trees : List Tree) (id : ℕ) (s : Sight) : Type 0 where
  pub scene : IsScene trees s
  pub subtrees : named trees s.walk ≡ with_subtrees [] (tree_at trees id)
  pub order : named trees s.walk ≡ nodes (tree_at trees id ∷ [])
  pub has : IsEarlier s.walk (length s.walk) id

-- words beside a walk, each of its term's sort
pub record AreSorted (trees : List Tree) (ids : List ℕ) (words : List Word) : Type 0 where
  pub many : length words ≡ length ids
  pub sorts : (k n : ℕ) (w : Word) → slice_get ids k ≡ Some n → slice_get words k ≡ Some w → tree_sort (tree_at trees n) ≡ Some (word_sort w)

-- a region's terms with their words at a point
pub record IsTrial (point : List Word) (trees : List Tree) (id : ℕ) (t : Trial) : Type 0 where
  pub region : IsRegion point trees id
  pub sight : IsSight trees id t.sight
  pub level : t.sight.place.level < length point
  pub values : HaveValues [] point trees t.sight.walk
  pub sorted : AreSorted trees t.sight.walk t.words.items
  pub words : AreWords [] point trees t.sight.walk t.words.items
