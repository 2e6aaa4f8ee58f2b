-- An entry that is linked to all entries of its winner at the next level.
use Rattle.std.proofs.Common.{◌≡◌, ◌⊎◌, ℕ, suc, ◌+◌, ◌≤◌, true, false, Option, Some, List, [], ◌∷◌, ◌++◌, map, refl, sym, ap, ◌∙◌, subst, inl, inr, append_assoc, slice_get, length, arith}
use Rattle.std.specs.Prelude.{◌==◌, IsSomeAnd}
use Rattle.std.specs.List.{AllZip, AllByRecursion}
use Rattle.std.proofs.lemmas.Bool.{cases_Bool, eqb-true, eq-eqb, ne_eqb, and_parts}
use Rattle.std.proofs.lemmas.List.{length-append}
use Rattle.std.proofs.lemmas.List.Elements.{All-from_recursion}
use Rattle.qv_words.specs.Tree.{Tree}
use Rattle.qv_words.specs.Prenex.{negation}
use Rattle.qv_words.specs.Problem.{Problem, Quantifier, Existential, Universal, other}
use Rattle.qv_words.specs.Linked.{AreLinks, Entry, IsLink, IsRival, entries_named, entries_of, is_of, last_region, linked_regions, same_quantifier}
use Rattle.qv_words.proofs.Elements.{get-behind}
use Rattle.qv_meter.specs.Queries.{all_links, block_count, last_query, numbers_from, query_list}

-- the entry behind some others
here : (front es : List Entry) (f : Entry) (n : ℕ) → n ≡ length front → slice_get (front ++ f ∷ es) n ≡ Some f
here front es f n is = get-behind front (f ∷ es) 0 n (omega (arith, is))

next : (front : List Entry) (f : Entry) (n : ℕ) → n ≡ length front → suc n ≡ length (front ++ f ∷ [])
next front f n is = let both : length (front ++ f ∷ []) ≡ length front + 1 = length-append front (f ∷ []) in omega (arith, is, both)

pub named-all : (level : ℕ) (winner : Quantifier) (front es : List Entry) (n : ℕ) → n ≡ length front → entries_named (front ++ es) (numbers_from n level winner es) ≡ entries_of level winner es
named-all level winner front [] n is = refl
named-all level winner front (f ∷ es) n is =
    let rest : entries_named (front ++ f ∷ es) (numbers_from (suc n) level winner es) ≡ entries_of level winner es =
    subst (λ all. entries_named all (numbers_from (suc n) level winner es) ≡ entries_of level winner es) (append_assoc front (f ∷ []) es) (named-all level winner (front ++ f ∷ []) es (suc n) (next front f n is)) in
    elim (cases_Bool (is_of level winner f)) [
      | inl y ↦ rw (y, here front es f n is) (ap (λ fs. f ∷ fs) rest)
      | inr away ↦ rw away rest
    ]

pub same : (q r : Quantifier) → same_quantifier q r ≡ true → q ≡ r
same Existential Existential h = refl
same Universal Universal h = refl
same Existential Universal h = cc
same Universal Existential h = cc

links-all : (e : Entry) (front es : List Entry) (n : ℕ) → n ≡ length front → AllByRecursion (IsLink (front ++ es) e) (numbers_from n (e.level + 1) e.winner es)
links-all e front [] n is = tt
links-all e front (f ∷ es) n is =
    let rest : AllByRecursion (IsLink (front ++ f ∷ es) e) (numbers_from (suc n) (e.level + 1) e.winner es) =
    subst (λ all. AllByRecursion (IsLink all e) (numbers_from (suc n) (e.level + 1) e.winner es)) (append_assoc front (f ∷ []) es) (links-all e (front ++ f ∷ []) es (suc n) (next front f n is)) in
    elim (cases_Bool (is_of (e.level + 1) e.winner f)) [
      | inl y ↦ rw y (
          let parts = and_parts (f.level == e.level + 1) (same_quantifier f.winner e.winner) y in
          (subst (λ (o : Option Entry). IsSomeAnd o (λ l. (l.winner ≡ e.winner) × (l.level ≡ e.level + 1))) (sym (here front es f n is)) (same f.winner e.winner parts.1, eqb-true f.level (e.level + 1) parts.0), rest))
      | inr away ↦ rw away rest
    ]

-- the other player's entries at the level are rivals
pub rivals-all : (e : Entry) (front es : List Entry) (n : ℕ) → n ≡ length front → AllByRecursion (IsRival (front ++ es) e) (numbers_from n e.level (other e.winner) es)
rivals-all e front [] n is = tt
rivals-all e front (f ∷ es) n is =
    let rest : AllByRecursion (IsRival (front ++ f ∷ es) e) (numbers_from (suc n) e.level (other e.winner) es) =
    subst (λ all. AllByRecursion (IsRival all e) (numbers_from (suc n) e.level (other e.winner) es)) (append_assoc front (f ∷ []) es) (rivals-all e (front ++ f ∷ []) es (suc n) (next front f n is)) in
    elim (cases_Bool (is_of e.level (other e.winner) f)) [
      | inl y ↦ rw y (
          let parts = and_parts (f.level == e.level) (same_quantifier f.winner (other e.winner)) y in
          (subst (λ (o : Option Entry). IsSomeAnd o (λ l. (l.winner ≡ other e.winner) × (l.level ≡ e.level))) (sym (here front es f n is)) (same f.winner (other e.winner) parts.1, eqb-true f.level e.level parts.0), rest))
      | inr away ↦ rw away rest
    ]

abbrev Denied : List Tree → List Tree → Type 0
Denied fs gs = AllZip (λ f g. (f ≡ negation g) ⊎ (g ≡ negation f)) fs gs

denied-map : (es : List Entry) → AllZip (λ f g. (f ≡ negation g) ⊎ (g ≡ negation f)) (map (λ (e : Entry). negation e.region) es) (map (λ (e : Entry). e.region) es)
denied-map [] = tt
denied-map (e ∷ es) = (inl refl, denied-map es)

denied-last : (p : Problem) (q : Quantifier) → (last_query p q ≡ negation (last_region p q)) ⊎ (last_region p q ≡ negation (last_query p q))
denied-last p Existential = inl refl
denied-last p Universal = inr refl

pub all-links : (p : Problem) (entries : List Entry) (e : Entry) → 1 ≤ e.level → e.level ≤ block_count p → e.links ≡ all_links p entries e.winner e.level → AreLinks p entries e × AllZip (λ f g. (f ≡ negation g) ⊎ (g ≡ negation f)) (query_list p entries e.winner (e.level + 1)) (linked_regions p entries e)
all-links p entries e low high links = elim (cases_Bool (e.level == block_count p)) [
  | inl y ↦
      let last : e.level ≡ block_count p = eqb-true e.level (block_count p) y in
      let none : e.links ≡ [] = links ∙ rw y refl in
      let asked : (e.level + 1 == block_count p + 1) ≡ true = eq-eqb (e.level + 1) (block_count p + 1) (omega (arith, last)) in (
        record { low = low; high = high; each = All-from_recursion (IsLink entries e) e.links (subst (AllByRecursion (IsLink entries e)) (sym none) tt); last = λ h. none },
        rw (y, asked) (denied-last p e.winner, tt),
      )
  | inr lower ↦
      let before : e.level ≡ block_count p → ⊥ = λ h. absurd (let is : (e.level == block_count p) ≡ true = eq-eqb e.level (block_count p) h in let no' : (e.level == block_count p) ≡ false = lower in cc) in
      let all : e.links ≡ numbers_from 0 (e.level + 1) e.winner entries = links ∙ rw lower refl in
      let asked : (e.level + 1 == block_count p + 1) ≡ false = ne_eqb (e.level + 1) (block_count p + 1) (λ h. before (omega (arith, h))) in
      let named : entries_named entries e.links ≡ entries_of (e.level + 1) e.winner entries = ap (entries_named entries) all ∙ named-all (e.level + 1) e.winner [] entries 0 refl in (
        record { low = low; high = high; each = All-from_recursion (IsLink entries e) e.links (subst (AllByRecursion (IsLink entries e)) (sym all) (links-all e [] entries 0 refl)); last = λ h. absurd (before h) },
        rw (lower, asked) (subst (λ (es : List Entry). AllZip (λ f g. (f ≡ negation g) ⊎ (g ≡ negation f)) (map (λ (e : Entry). negation e.region) (entries_of (e.level + 1) e.winner entries)) (map (λ (e : Entry). e.region) es)) (sym named) (denied-map (entries_of (e.level + 1) e.winner entries))),
      )
]
