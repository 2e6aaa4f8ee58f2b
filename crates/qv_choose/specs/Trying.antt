-- Terms that are tried for a place.
use Rattle.std.specs.Prelude.{ℕ, ◌<◌, List, [], length}
use Rattle.qv_words.specs.declared.word.Word.{Word}
use Rattle.qv_words.specs.Tree.{Tree}
use Rattle.qv_words.specs.Values.{HasWords}
use Rattle.qv_words.specs.Skolem.{IsTermOf}
use Rattle.qv_store.specs.Nodes.{tree_at}
use Rattle.qv_choose_paths.specs.declared.ways.Place.{Place}
use Rattle.qv_choose_candidates.specs.Chosen.{place_sort}

-- a term of the place's sort, with a word for each of its variables
pub record IsTermAt (point : List Word) (trees : List Tree) (p : Place) (id : ℕ) : Type 0 where
  pub below : id < length trees
  pub formula : IsTermOf (tree_at trees id) (place_sort point p.level)
  pub words : HasWords [] point (tree_at trees id)
