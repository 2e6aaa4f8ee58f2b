-- What stands for a query list, and that it may be asked.
use Rattle.std.proofs.Common.{◌≡◌, ℕ, ◌+◌, true, List, [], ◌∷◌, map, inl, inr, refl, sym, ◌∙◌, subst}
use Rattle.std.specs.Prelude.{◌==◌}
use Rattle.std.proofs.lemmas.Bool.{cases_Bool, eq-eqb, eqb-true}
use Rattle.qv_words.specs.Tree.{Tree}
use Rattle.qv_words.specs.Prenex.{negation}
use Rattle.qv_words.specs.Problem.{Problem, Quantifier}
use Rattle.qv_words.specs.Linked.{Entry, entries_of}
use Rattle.qv_rewrite_passes.specs.Passes.{IsBehind}
use Rattle.qv_meter.specs.Queries.{AreAsked, AreDenied, StandsForQuery, block_count, last_query, query_list}

pub list-last : (p : Problem) (entries : List Entry) (winner : Quantifier) (level : ℕ) → level ≡ block_count p + 1 → query_list p entries winner level ≡ last_query p winner ∷ []
list-last p entries winner level e = let test : (level == block_count p + 1) ≡ true = eq-eqb level (block_count p + 1) e in rw test refl

pub list-inner : (p : Problem) (entries : List Entry) (winner : Quantifier) (level : ℕ) → (level ≡ block_count p + 1 → ⊥) → query_list p entries winner level ≡ map (λ (e : Entry). negation e.region) (entries_of level winner entries)
list-inner p entries winner level other = elim (cases_Bool (level == block_count p + 1)) [
  | inl y ↦ absurd (other (eqb-true level (block_count p + 1) y))
  | inr n ↦ rw n refl
]

-- the negations of all regions, of which none was left out
denied-all : (es : List Entry) → AreDenied es (map (λ (e : Entry). negation e.region) es)
denied-all [] = refl
denied-all (e ∷ es) = inl (map (λ (f : Entry). negation f.region) es, refl, denied-all es)

-- the case of a level
pub stands-last : (p : Problem) (entries : List Entry) (winner : Quantifier) (level : ℕ) (formulas : List Tree) → level ≡ block_count p + 1 → StandsForQuery p entries winner level formulas → IsBehind (query_list p entries winner level) formulas
stands-last p entries winner level formulas e h = elim h [
  | inl last ↦ last.1
  | inr inner ↦ absurd (inner.0 e)
]

pub stands-inner : (p : Problem) (entries : List Entry) (winner : Quantifier) (level : ℕ) (formulas : List Tree) → (level ≡ block_count p + 1 → ⊥) → StandsForQuery p entries winner level formulas → formulas ≡ query_list p entries winner level
stands-inner p entries winner level formulas other h = elim h [
  | inl last ↦ absurd (other last.0)
  | inr inner ↦ inner.1
]

-- what stands for a list stands for the same list of other entries
pub stands-same : (p : Problem) (es fs : List Entry) (winner : Quantifier) (level : ℕ) (formulas : List Tree) → query_list p es winner level ≡ query_list p fs winner level → StandsForQuery p es winner level formulas → StandsForQuery p fs winner level formulas
stands-same p es fs winner level formulas same h = elim h [
  | inl last ↦ inl (last.0, subst (λ (list : List Tree). IsBehind list formulas) same last.1)
  | inr inner ↦ inr (inner.0, inner.1 ∙ same)
]

pub stands-asked : (p : Problem) (entries : List Entry) (winner : Quantifier) (level : ℕ) (formulas : List Tree) → StandsForQuery p entries winner level formulas → AreAsked p entries winner level formulas
stands-asked p entries winner level formulas h = elim h [
  | inl last ↦ inl last
  | inr inner ↦ inr (inner.0, subst (AreDenied (entries_of level winner entries)) (sym (inner.1 ∙ list-inner p entries winner level inner.0)) (denied-all (entries_of level winner entries)))
]
