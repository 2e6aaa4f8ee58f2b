-- Entries in a greater store.
use Rattle.std.proofs.Common.{◌≡◌, ℕ, ◌<◌, List, [], ◌∷◌, length, refl, ap, ◌∙◌}
use Rattle.std.specs.Prelude.{All}
use Rattle.std.specs.List.{AllByRecursion}
use Rattle.std.proofs.lemmas.List.Elements.{All-from_recursion, recursion_from_All}
use Rattle.qv_words.specs.Tree.{Tree}
use Rattle.qv_words.specs.Linked.{Entry}
use Rattle.qv_words.proofs.Elements.{all-weaker}
use Rattle.qv_store.specs.Nodes.{tree_at}
use Rattle.qv_store.specs.Stores.{Grows}
use Rattle.qv_store.specs.Walks.{named}
use Rattle.qv_store.proofs.Replacement.{grown-tree, grown-within}
use Rattle.qv_entries.specs.Rows.{Row, entries_in, entry_in, IsRowIn}

module _ (old new : List Tree) (grows : Grows old new) where
  named-grown : (ids : List ℕ) → AllByRecursion (λ n. n < length old) ids → named new ids ≡ named old ids
  named-grown [] h = refl
  named-grown (n ∷ ns) h =
      ap (λ (t : Tree). t ∷ named new ns) (grown-tree old new grows n h.0) ∙ ap (λ (ts : List Tree). tree_at old n ∷ ts) (named-grown ns h.1)

  pub entry-grown : (row : Row) → IsRowIn old row → entry_in new row ≡ entry_in old row
  entry-grown row within =
      let made : Tree → List Tree → Entry = λ t ts. record { level = row.level; winner = row.winner; region = t; point = row.point; terms = ts; links = row.links } in
      ap (λ (t : Tree). made t (named new row.terms)) (grown-tree old new grows row.region within.region)
      ∙ ap (λ (ts : List Tree). made (tree_at old row.region) ts) (named-grown row.terms (recursion_from_All (λ n. n < length old) row.terms within.terms))

  pub row-grown : (row : Row) → IsRowIn old row → IsRowIn new row
  row-grown row within = record {
    region = grown-within old new grows row.region within.region;
    terms = All-from_recursion (λ n. n < length new) row.terms (all-weaker (λ n. n < length old) (λ n. n < length new) row.terms (λ n h. grown-within old new grows n h) (recursion_from_All (λ n. n < length old) row.terms within.terms));
  }

  all-grown : (rows : List Row) → AllByRecursion (IsRowIn old) rows → entries_in new rows ≡ entries_in old rows
  all-grown [] h = refl
  all-grown (r ∷ rows) h =
      ap (λ (e : Entry). e ∷ entries_in new rows) (entry-grown r h.0) ∙ ap (λ (es : List Entry). entry_in old r ∷ es) (all-grown rows h.1)

  pub entries-grown : (rows : List Row) → All (IsRowIn old) rows → entries_in new rows ≡ entries_in old rows
  entries-grown rows within = all-grown rows (recursion_from_All (IsRowIn old) rows within)

  pub rows-grown : (rows : List Row) → All (IsRowIn old) rows → All (IsRowIn new) rows
  rows-grown rows within =
      All-from_recursion (IsRowIn new) rows (all-weaker (IsRowIn old) (IsRowIn new) rows row-grown (recursion_from_All (IsRowIn old) rows within))
