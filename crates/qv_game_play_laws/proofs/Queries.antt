-- The formulas of query lists, and points that make them true.
use Rattle.std.proofs.Common.{◌≡◌, ℕ, zero, suc, ◌+◌, ◌<◌, Some, List, [], ◌∷◌, length, map, slice_get, take, inl, inr, refl, sym, ap, ◌∙◌, subst, arith}
use Rattle.std.specs.Prelude.{◌==◌, option_map}
use Rattle.std.specs.List.{All, AllByRecursion, AllZip}
use Rattle.std.proofs.lemmas.Bool.{and_parts, cases_Bool, eqb-true}
use Rattle.std.proofs.lemmas.List.Elements.{All-from_recursion, recursion_from_All}
use Rattle.std.proofs.lemmas.Option.{slice_get-map}
use Rattle.qv_words.specs.declared.sort.Sort.{Sort}
use Rattle.qv_words.specs.declared.sort.Sort.TheVariants.{Bool as BoolSort}
use Rattle.qv_words.specs.Tree.{Tree}
use Rattle.qv_words.specs.Sorted.{free_levels}
use Rattle.qv_words.specs.Choice.{IsTrueAt}
use Rattle.qv_words.specs.Prenex.{negation}
use Rattle.qv_words.specs.PassLaws.{IsPlain, StandsFor}
use Rattle.qv_words.specs.Problem.{Problem, Place, Quantifier, Existential, Universal, other}
use Rattle.qv_words.specs.Skolem.{IsTermOf}
use Rattle.qv_words.specs.Linked.{Entry, IsLinked, IsPlaceBelow, blocks_of, entries_of, is_of, last_region, places_below, same_quantifier}
use Rattle.qv_words.specs.GameLaws.{IsPointOf, IsProblem}
use Rattle.qv_words.proofs.Elements.{all-at, all-weaker, some-and}
use Rattle.qv_words.proofs.Unique.{one_meaning}
use Rattle.qv_game_laws.proofs.Each.{each-entry}
use Rattle.qv_game_laws.proofs.RegionTheorem.{negation-false}
use Rattle.qv_game_laws.proofs.Points.{IsPoint, below-is}
use Rattle.qv_game_laws.proofs.Steps.{Before, before-last, matrix-of, negation-of, point-values}
use Rattle.qv_game_laws.proofs.Terms.{OfVariable, IsOf, over-from_term, over-leaves, term-from_over}
use Rattle.qv_meter.specs.Queries.{AreDenied, StandsForQuery, block_count, last_query, query_list}
use Rattle.qv_meter.proofs.Fresh.{linked}
use Rattle.qv_meter.proofs.Standing.{list-inner, list-last}
use Rattle.qv_game_play_laws.specs.PlayLaws.{sorts_below, AnswersLieOutside, LeftOutLieOutside, QueriesAreOverPlaces}
use Rattle.qv_game_play_laws.proofs.Standing.{each-over, plain-of, stand-for, true-before}

-- a variable is a place of the blocks before, of its sort
abbrev InPlaces : Problem → ℕ → OfVariable
InPlaces p level l s = slice_get (sorts_below p level) l ≡ Some s

taken-before : {X : Type 0} (xs : List X) (n i : ℕ) → i < n → slice_get (take n xs) i ≡ slice_get xs i
taken-before [] zero i h = refl
taken-before [] (suc n) i h = refl
taken-before (x ∷ xs) zero i h = absurd (omega (arith, h))
taken-before (x ∷ xs) (suc n) zero h = refl
taken-before (x ∷ xs) (suc n) (suc i) h = taken-before xs n i (omega (arith, h))

in-place : (p : Problem) (level : ℕ) (leaf : ℕ × Sort) → IsPlaceBelow p (places_below (blocks_of p.prefix) level) leaf → slice_get (sorts_below p level) leaf.0 ≡ Some leaf.1
in-place p level leaf h =
    let n = places_below (blocks_of p.prefix) level in
    let at = some-and (slice_get p.prefix leaf.0) (λ place. place.sort ≡ leaf.1) h.1 in
    slice_get-map (λ (place : Place). place.sort) (take n p.prefix) leaf.0
    ∙ ap (option_map (λ (place : Place). place.sort)) (taken-before p.prefix n leaf.0 h.0 ∙ at.1) ∙ ap Some at.2

of-places : (p : Problem) (level : ℕ) (t : Tree) → IsTermOf t BoolSort → All (IsPlaceBelow p (places_below (blocks_of p.prefix) level)) (free_levels t) → IsOf (InPlaces p level) BoolSort t
of-places p level t term places =
    let n = places_below (blocks_of p.prefix) level in
    over-from_term (InPlaces p level) BoolSort t term
    (all-weaker (IsPlaceBelow p n) (λ leaf. InPlaces p level leaf.0 leaf.1) (free_levels t) (λ leaf h. in-place p level leaf h) (recursion_from_All (IsPlaceBelow p n) (free_levels t) places))

by-places : {X : Type 0} (P : X → Type 0) (xs : List X) → ((k : ℕ) (x : X) → slice_get xs k ≡ Some x → P x) → AllByRecursion P xs
by-places P [] h = tt
by-places P (x ∷ xs) h = (h 0 x refl, by-places P xs (λ k y at. h (suc k) y at))

abbrev OverItsPlaces : Problem → Entry → Type 0
OverItsPlaces p e = IsOf (InPlaces p e.level) BoolSort e.region

regions-over : (p : Problem) (entries : List Entry) → IsLinked p entries → AllByRecursion (OverItsPlaces p) entries
regions-over p entries h =
    by-places (OverItsPlaces p) entries
    (λ k e at. let entry = each-entry p entries k e h at in of-places p e.level e.region entry.region.formula entry.region.variables)

negated-over : (p : Problem) (level : ℕ) (winner : Quantifier) (es : List Entry) → AllByRecursion (OverItsPlaces p) es → AllByRecursion (IsOf (InPlaces p level) BoolSort) (map (λ (e : Entry). negation e.region) (entries_of level winner es))
negated-over p level winner [] h = tt
negated-over p level winner (e ∷ es) h = elim (cases_Bool (is_of level winner e)) [
  | inl y ↦
      let parts = and_parts (e.level == level) (same_quantifier e.winner winner) y in
      let here : e.level ≡ level = eqb-true e.level level parts.0 in
      rw y (negation-of (InPlaces p level) e.region (subst (λ (k : ℕ). IsOf (InPlaces p k) BoolSort e.region) here h.0), negated-over p level winner es h.1)
  | inr n ↦ rw n (negated-over p level winner es h.1)
]

last-of_matrix : (P : OfVariable) (p : Problem) (winner : Quantifier) → IsOf P BoolSort p.matrix → IsOf P BoolSort (last_query p winner)
last-of_matrix P p Existential m = negation-of P p.matrix m
last-of_matrix P p Universal m = m

last-over : (p : Problem) (winner : Quantifier) (level : ℕ) → level ≡ block_count p + 1 → IsProblem p → IsOf (InPlaces p level) BoolSort (last_query p winner)
last-over p winner level e h =
    let next : level ≡ suc (block_count p) = omega (arith, e) in
    let all : places_below (blocks_of p.prefix) level ≡ length p.prefix = below-is (blocks_of p.prefix) level (block_count p) next ∙ before-last p in
    let places = subst (λ (n : ℕ). All (IsPlaceBelow p n) (free_levels p.matrix)) (sym all) h.variables in
    last-of_matrix (InPlaces p level) p winner (of-places p level p.matrix h.matrix places)

queries-over : (p : Problem) (entries : List Entry) (winner : Quantifier) (level : ℕ) → IsProblem p → IsLinked p entries → AllByRecursion (IsOf (InPlaces p level) BoolSort) (query_list p entries winner level)
queries-over p entries winner level hp h = elim (cases_Bool (level == block_count p + 1)) [
  | inl y ↦ rw y (last-over p winner level (eqb-true level (block_count p + 1) y) hp, tt)
  | inr n ↦ rw n (negated-over p level winner entries (regions-over p entries h))
]

pub queries-are_over_places : QueriesAreOverPlaces
queries-are_over_places p entries winner level formulas hp played stands =
    let P = InPlaces p level in
    let list = query_list p entries winner level in
    let of = queries-over p entries winner level hp (linked p [] entries played) in
    let each = each-over P formulas list (stand-for p entries winner level formulas (plain-of P list of) stands) of in (
      All-from_recursion (λ t. IsTermOf t BoolSort) formulas (all-weaker (IsOf P BoolSort) (λ t. IsTermOf t BoolSort) formulas (λ t h. term-from_over P BoolSort t h) each),
      All-from_recursion (λ t. All (λ leaf. slice_get (sorts_below p level) leaf.0 ≡ Some leaf.1) (free_levels t)) formulas
          (all-weaker (IsOf P BoolSort) (λ t. All (λ leaf. slice_get (sorts_below p level) leaf.0 ≡ Some leaf.1) (free_levels t)) formulas
          (λ t h. All-from_recursion (λ leaf. slice_get (sorts_below p level) leaf.0 ≡ Some leaf.1) (free_levels t) (over-leaves P t h.0)) each),
    )

-- where a negation is true the formula isn't
not-both : (point : List ℕ) (t : Tree) → IsTrueAt point (negation t) → IsTrueAt point t → ⊥
not-both point t n m =
    let same : 0 ≡ 1 = one_meaning t [] (slice_get point) 0 1 (negation-false (slice_get point) t n) m in
    omega (arith, same)

outside : (point : List ℕ) (es : List Entry) → AllByRecursion (IsTrueAt point) (map (λ (e : Entry). negation e.region) es) → AllByRecursion (λ (f : Entry). IsTrueAt point f.region → ⊥) es
outside point [] h = tt
outside point (e ∷ es) h = (λ m. not-both point e.region h.0 m, outside point es h.1)

last-of : (p : Problem) (winner : Quantifier) → last_query p winner ≡ last_region p (other winner)
last-of p Existential = refl
last-of p Universal = refl

-- behind the last block the one formula that is asked stands for the last query
last-true : (p : Problem) (entries : List Entry) (winner : Quantifier) (level : ℕ) (point : List ℕ) (formulas : List Tree) → level ≡ block_count p + 1 → IsProblem p → IsPointOf p level point → StandsForQuery p entries winner level formulas → All (IsTrueAt point) formulas → IsTrueAt point (last_query p winner)
last-true p entries winner level point formulas e hp typed stands h =
    let P = Before p (length p.prefix) in
    let one = last_query p winner ∷ [] in
    let list : query_list p entries winner level ≡ one = list-last p entries winner level e in
    let of : AllByRecursion (IsOf P BoolSort) one = (last-of_matrix P p winner (matrix-of p hp), tt) in
    let stand = subst (AllZip StandsFor formulas) list (stand-for p entries winner level formulas (subst (AllByRecursion IsPlain) (sym list) (plain-of P one of)) stands) in
    let all : places_below (blocks_of p.prefix) level ≡ length p.prefix = below-is (blocks_of p.prefix) level (block_count p) (omega (arith, e)) ∙ before-last p in
    let here : IsPoint p.prefix (length p.prefix) point = subst (λ (n : ℕ). IsPoint p.prefix n point) all typed in
    (true-before P (slice_get point) (point-values p (length p.prefix) point here) formulas one stand of (recursion_from_All (IsTrueAt point) formulas h)).0

pub answers-lie_outside : AnswersLieOutside
answers-lie_outside p entries winner level point formulas hp played typed stands h = (
  λ e. subst (IsTrueAt point) (last-of p winner) (last-true p entries winner level point formulas e hp typed stands h),
  λ away. elim stands [
    | inl last ↦ absurd (away last.0)
    | inr inner ↦
        let all = subst (All (IsTrueAt point)) (inner.1 ∙ list-inner p entries winner level away) h in
        All-from_recursion (λ (f : Entry). IsTrueAt point f.region → ⊥) (entries_of level winner entries)
        (outside point (entries_of level winner entries) (recursion_from_All (IsTrueAt point) (map (λ (e : Entry). negation e.region) (entries_of level winner entries)) all))
  ],
)

-- a list from which covered regions were left out says as much
denied-outside : (point : List ℕ) (es : List Entry) (formulas : List Tree) → AreDenied es formulas → AllByRecursion (IsTrueAt point) formulas → AllByRecursion (λ (f : Entry). IsTrueAt point f.region → ⊥) es
denied-outside point [] formulas h holds = tt
denied-outside point (e ∷ es) formulas h holds = elim h [
  | inl first ↦
      let all = subst (AllByRecursion (IsTrueAt point)) first.1 holds in
      (λ m. not-both point e.region all.0 m, denied-outside point es first.0 first.2 all.1)
  | inr over ↦
      let rest = denied-outside point es formulas over.1 holds in
      let f = some-and (slice_get es over.0.0) (λ f. (u : List ℕ) → IsTrueAt u e.region → IsTrueAt u f.region) over.0.1 in
      (λ m. all-at (λ (g : Entry). IsTrueAt point g.region → ⊥) es over.0.0 f.0 rest f.1 (f.2 point m), rest)
]

pub left-out_lie_outside : LeftOutLieOutside
left-out_lie_outside p entries winner level point formulas other asked holds = elim asked [
  | inl last ↦ absurd (other last.0)
  | inr part ↦
      let regions = entries_of level winner entries in
      All-from_recursion (λ (f : Entry). IsTrueAt point f.region → ⊥) regions
      (denied-outside point regions formulas part.1 (recursion_from_All (IsTrueAt point) formulas holds))
]
