-- The words of terms at a point, each kept beside its term.
use Rattle.std.specs.Prelude.{◌≡◌, ℕ, ◌≤◌, List, [], length}
use Rattle.qv_words.specs.declared.word.Word.{Word}
use Rattle.qv_words.specs.Tree.{Tree}
use Rattle.qv_store.specs.Walks.{IsWalk}
use Rattle.qv_store.specs.Evaluating.{HaveValues, AreWords}
use Rattle.qv_entries.specs.declared.table.Table.{Table}

-- a walk through terms that have values at a point, and the words of the first of them
pub record AreKept (trees : List Tree) (point : List Word) (ids : List ℕ) (words : List Word) : Type 0 where
  pub walk : IsWalk trees ids
  pub values : HaveValues [] point trees ids
  pub right : AreWords [] point trees ids words
  pub many : length words ≤ length ids

-- a table in which each term has its word
pub record IsTable (trees : List Tree) (point : List Word) (t : Table) : Type 0 where
  pub kept : AreKept trees point t.walk t.words.items
  pub all : length t.words.items ≡ length t.walk
