-- What one more entry changes for the regions at a point, and for the query lists.
use Rattle.std.proofs.Common.{◌≡◌, ◌≢◌, ℕ, ◌+◌, ◌≤◌, ◌==◌, true, false, List, [], ◌∷◌, ◌++◌, length, take, inl, inr, refl, sym, ap, ◌∙◌, subst, arith, append-nil}
use Rattle.std.specs.List.{All}
use Rattle.std.proofs.lemmas.Bool.{cases_Bool, eq-eqb, eqb-true}
use Rattle.std.proofs.lemmas.List.{take-append-le}
use Rattle.std.proofs.lemmas.List.Elements.{All-from_recursion, recursion_from_All}
use Rattle.qv_words.specs.Tree.{Tree}
use Rattle.qv_words.specs.Prenex.{negation}
use Rattle.qv_words.specs.Problem.{Problem, Quantifier}
use Rattle.qv_words.specs.Choice.{IsTrueAt}
use Rattle.qv_words.specs.Linked.{Entry, blocks_of, entries_of, is_of, places_below, same_quantifier}
use Rattle.qv_words.proofs.Leaves.{both}
use Rattle.qv_meter.specs.Played.{IsUndecided}
use Rattle.qv_meter.specs.Queries.{block_count, query_for, query_list}
use Rattle.qv_meter.proofs.Growing.{query_list-append}
use Rattle.qv_game_state.specs.Spots.{IsOutside}
use Rattle.qv_game_state.proofs.Levels.{take-within}
use Rattle.qv_game_state.proofs.Blocks.{same-self}

-- an entry of another level or winner
pub not-of : (level : ℕ) (winner : Quantifier) (e : Entry) → e.level ≢ level → is_of level winner e ≡ false
not-of level winner e other = elim (cases_Bool (e.level == level)) [
  | inl y ↦ absurd (other (eqb-true e.level level y))
  | inr n ↦ rw n refl
]

entries-stay : (level : ℕ) (winner : Quantifier) (entries : List Entry) (e : Entry) → is_of level winner e ≡ false → entries_of level winner (entries ++ e ∷ []) ≡ entries_of level winner entries
entries-stay level winner [] e n = rw n refl
entries-stay level winner (f ∷ entries) e n = elim (cases_Bool (is_of level winner f)) [
  | inl y ↦ rw y (ap (λ (es : List Entry). f ∷ es) (entries-stay level winner entries e n))
  | inr m ↦ rw m (entries-stay level winner entries e n)
]

-- a point stays outside the regions of other levels
pub outside-with : (p : Problem) (entries : List Entry) (e : Entry) (point : List ℕ) (level : ℕ) → e.level ≢ level → IsOutside p entries point level → IsOutside p (entries ++ e ∷ []) point level
outside-with p entries e point level other h winner =
    subst (All (λ f. IsTrueAt (take (places_below (blocks_of p.prefix) level) point) f.region → ⊥)) (sym (entries-stay level winner entries e (not-of level winner e other))) (h winner)

-- and so do its fronts, and longer points
pub outside-front : (p : Problem) (entries : List Entry) (point : List ℕ) (level n : ℕ) → places_below (blocks_of p.prefix) level ≤ n → IsOutside p entries point level → IsOutside p entries (take n point) level
outside-front p entries point level n low h winner =
    subst (λ (vs : List ℕ). All (λ f. IsTrueAt vs f.region → ⊥) (entries_of level winner entries)) (sym (take-within point (places_below (blocks_of p.prefix) level) n low)) (h winner)

pub outside-more : (p : Problem) (entries : List Entry) (point more : List ℕ) (level : ℕ) → places_below (blocks_of p.prefix) level ≤ length point → IsOutside p entries point level → IsOutside p entries (point ++ more) level
outside-more p entries point more level low h winner =
    subst (λ (vs : List ℕ). All (λ f. IsTrueAt vs f.region → ⊥) (entries_of level winner entries)) (sym (take-append-le (places_below (blocks_of p.prefix) level) point more low)) (h winner)

pub undecided-with : (entries : List Entry) (e : Entry) → IsUndecided entries → e.level ≢ 1 → IsUndecided (entries ++ e ∷ [])
undecided-with entries e h other =
    All-from_recursion (λ (f : Entry). f.level ≢ 1) (entries ++ e ∷ []) (both (λ (f : Entry). f.level ≢ 1) entries (e ∷ []) (recursion_from_All (λ (f : Entry). f.level ≢ 1) entries h) (other, tt))

-- what is told to the lane of a level
pub not-told : (p : Problem) (entries : List Entry) (e : Entry) (winner : Quantifier) (level : ℕ) → is_of level winner e ≡ false → query_list p (entries ++ e ∷ []) winner level ≡ query_list p entries winner level
not-told p entries e winner level n =
    let none : query_for p e winner level ≡ [] = elim (cases_Bool (level == block_count p + 1)) [
      | inl y ↦ rw y refl
      | inr m ↦ rw (m, n) refl
    ] in
    query_list-append p entries e winner level ∙ ap (λ (ts : List Tree). query_list p entries winner level ++ ts) none ∙ append-nil (query_list p entries winner level)

pub told : (p : Problem) (entries : List Entry) (e : Entry) (level : ℕ) → e.level ≡ level → level ≤ block_count p → query_list p (entries ++ e ∷ []) e.winner level ≡ query_list p entries e.winner level ++ negation e.region ∷ []
told p entries e level at high =
    let inner : (level == block_count p + 1) ≡ false = elim (cases_Bool (level == block_count p + 1)) [
      | inl y ↦ let same = eqb-true level (block_count p + 1) y in absurd (omega (arith, same, high))
      | inr n ↦ n
    ] in
    let here : (e.level == level) ≡ true = eq-eqb e.level level at in
    let one : query_for p e e.winner level ≡ negation e.region ∷ [] = rw (inner, here, same-self e.winner) refl in
    query_list-append p entries e e.winner level ∙ ap (λ (ts : List Tree). query_list p entries e.winner level ++ ts) one

pub other-winner : (level : ℕ) (winner : Quantifier) (e : Entry) → same_quantifier e.winner winner ≡ false → is_of level winner e ≡ false
other-winner level winner e n = elim (cases_Bool (e.level == level)) [
  | inl y ↦ rw (y, n) refl
  | inr m ↦ rw m refl
]
