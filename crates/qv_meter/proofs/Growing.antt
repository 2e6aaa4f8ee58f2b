-- Query lists, entry by entry.
use Rattle.std.proofs.Common.{◌≡◌, ℕ, ◌+◌, List, [], ◌∷◌, ◌++◌, map, refl, ap, inl, inr}
use Rattle.std.specs.Prelude.{◌==◌, if◌then◌else◌}
use Rattle.std.proofs.lemmas.Bool.{cases_Bool}
use Rattle.qv_words.specs.Tree.{Tree}
use Rattle.qv_words.specs.Prenex.{negation}
use Rattle.qv_words.specs.Problem.{Problem, Quantifier}
use Rattle.qv_words.specs.Linked.{Entry, entries_of, is_of}
use Rattle.qv_meter.specs.Queries.{block_count, query_list, query_for}

abbrev negated_region : Entry → Tree
negated_region e = negation e.region

grown : (level : ℕ) (winner : Quantifier) (entries : List Entry) (e : Entry) → map negated_region (entries_of level winner (entries ++ e ∷ [])) ≡ map negated_region (entries_of level winner entries) ++ (if is_of level winner e then negation e.region ∷ [] else [])
grown level winner [] e = elim (cases_Bool (is_of level winner e)) [
  | inl y ↦ rw y refl
  | inr n ↦ rw n refl
]
grown level winner (f ∷ entries) e = elim (cases_Bool (is_of level winner f)) [
  | inl y ↦ rw y (ap (λ (ts : List Tree). negation f.region ∷ ts) (grown level winner entries e))
  | inr n ↦ rw n (grown level winner entries e)
]

pub query_list-append : (p : Problem) (entries : List Entry) (e : Entry) (winner : Quantifier) (level : ℕ) → query_list p (entries ++ e ∷ []) winner level ≡ query_list p entries winner level ++ query_for p e winner level
query_list-append p entries e winner level = elim (cases_Bool (level == block_count p + 1)) [
  | inl y ↦ rw y refl
  | inr n ↦ rw n (grown level winner entries e)
]
