-- Entries as they are kept, beside a store: their regions and terms by number.
use Rattle.std.specs.Prelude.{ℕ, ◌<◌, ◌==◌, ◌&&◌, Bool, List, map, filter, length, All}
use Rattle.qv_words.specs.Word.{values_of}
use Rattle.qv_words.specs.Tree.{Tree}
use Rattle.qv_words.specs.Problem.{Quantifier}
use Rattle.qv_words.specs.Linked.{same_quantifier}
use Rattle.qv_words.specs.Linked.{Entry as PlainEntry}
use Rattle.qv_store.specs.Nodes.{tree_at}
use Rattle.qv_store.specs.Problems.{quantifier_of}
use Rattle.qv_store.specs.Walks.{named}
use Rattle.qv_entries.specs.declared.entry.Entry.{Entry}

pub record Row : Type 0 where
  pub level : ℕ
  pub winner : Quantifier
  pub region : ℕ
  pub point : List ℕ
  pub terms : List ℕ
  pub links : List ℕ

abbrev pub row_of : Entry → Row
row_of e = record {
  level = e.level;
  winner = quantifier_of e.winner;
  region = e.region;
  point = values_of e.point.items;
  terms = e.terms.items;
  links = e.links.items;
}

-- its region and its terms are terms of the store
pub record IsRowIn (trees : List Tree) (r : Row) : Type 0 where
  pub region : r.region < length trees
  pub terms : All (λ n. n < length trees) r.terms

-- the entry that it is in a store
abbrev pub entry_in : List Tree → Row → PlainEntry
entry_in trees r = record {
  level = r.level;
  winner = r.winner;
  region = tree_at trees r.region;
  point = r.point;
  terms = named trees r.terms;
  links = r.links;
}

abbrev pub entries_in : List Tree → List Row → List PlainEntry
entries_in trees rows = map (entry_in trees) rows

-- whether it is of this level and winner
abbrev pub is_row_of : ℕ → Quantifier → Row → Bool
is_row_of level winner r = r.level == level && same_quantifier r.winner winner

-- the regions of a level and a winner, in order
abbrev pub regions_of : ℕ → Quantifier → List Row → List ℕ
regions_of level winner rows = map (λ r. r.region) (filter (is_row_of level winner) rows)
