-- What is asserted has a lawful problem.
use Rattle.std.proofs.Common.{◌≡◌, ℕ, ◌+◌, true, Option, Some, None, List, [], ◌∷◌, ◌++◌, length, map, slice_get, refl, ap, ◌∙◌, arith}
use Rattle.std.specs.Prelude.{IsSomeAnd, option_map}
use Rattle.std.specs.List.{AllByRecursion}
use Rattle.std.proofs.lemmas.List.{length-map}
use Rattle.std.proofs.lemmas.List.Elements.{recursion_from_All, All-from_recursion}
use Rattle.std.proofs.lemmas.Option.{slice_get-map, slice_get_within}
use Rattle.qv_words.specs.declared.sort.Sort.{Sort}
use Rattle.qv_words.specs.Sort.{IsLawful}
use Rattle.qv_words.specs.Tree.{Tree, Trees, Constant, Variable, Literal, Apply, ForAll, Exists, Nil, Cons}
use Rattle.qv_words.specs.Sorted.{IsSortedBelow, AreSortedBelow, no_levels, constants_of, constants_of_all, free_levels, with_level}
use Rattle.qv_words.specs.Truth.{IsAssertion, constants_of_each}
use Rattle.qv_words.specs.Prenex.{form_of, tree_size}
use Rattle.qv_words.specs.Problem.{Problem, Place, Existential, problem_of, conjunction, in_order, index_in, places_of, places_before, placed_variable}
use Rattle.qv_words.specs.Linked.{IsPlaceBelow}
use Rattle.qv_prenex_laws.specs.PrenexLaws.{ProblemsAreLawful}
use Rattle.qv_words.proofs.Leaves.{both}
use Rattle.qv_prenex_laws.proofs.Forms.{behind}
use Rattle.qv_prenex_laws.proofs.Says.{VarsAre}
use Rattle.qv_prenex_laws.proofs.Parts.{PartOf, OuterPart, Places, placed-part, placed-sort, none-left}
use Rattle.qv_prenex_laws.proofs.Kept.{form-kept}
use Rattle.qv_prenex_laws.proofs.InOrder.{IsFound, OneSort, found-sort, all-in_order}
use Rattle.qv_prenex_laws.proofs.Conjunctions.{FitBool, conjunction-fit}
use Rattle.qv_prenex_laws.proofs.ClosedBlocks.{place-at, variable-lawful, places-lawful}
use Rattle.qv_words.proofs.Elements.{in-front}

-- the sorts of constants are lawful
abbrev IsLawfulLeaf : ℕ × Sort → Type 0
IsLawfulLeaf leaf = IsLawful leaf.1

mutual
  lawful-constants : (t : Tree) (levels : ℕ → Option Sort) → IsSortedBelow levels t → AllByRecursion IsLawfulLeaf (constants_of t)
  lawful-constants (Constant i s) levels h = (h, tt)
  lawful-constants (Variable l s) levels h = tt
  lawful-constants (Literal s n) levels h = tt
  lawful-constants (Apply o args) levels h = lawful-constants-each args levels h.0
  lawful-constants (ForAll l s body) levels h = lawful-constants body (λ k. with_level levels l s k) h.1
  lawful-constants (Exists l s body) levels h = lawful-constants body (λ k. with_level levels l s k) h.1

  lawful-constants-each : (ts : Trees) (levels : ℕ → Option Sort) → AreSortedBelow levels ts →
      AllByRecursion IsLawfulLeaf (constants_of_all ts)
  lawful-constants-each Nil levels h = tt
  lawful-constants-each (Cons t ts) levels h =
      both IsLawfulLeaf (constants_of t) (constants_of_all ts) (lawful-constants t levels h.0) (lawful-constants-each ts levels h.1)

all-lawful : (formulas : List Tree) → AllByRecursion IsAssertion formulas → AllByRecursion IsLawfulLeaf (constants_of_each formulas)
all-lawful [] h = tt
all-lawful (t ∷ ts) h =
    both IsLawfulLeaf (constants_of t) (constants_of_each ts) (lawful-constants t no_levels h.0.sorted) (all-lawful ts h.1)

-- a place for each constant
abbrev pub constant_place : ℕ × Sort → Place
constant_place c = record { quantifier = Existential; sort = c.1 }

constants-lawful : (ds : List (ℕ × Sort)) → AllByRecursion IsLawfulLeaf ds →
    AllByRecursion (λ place. IsLawful place.sort) (map constant_place ds)
constants-lawful [] h = tt
constants-lawful (d ∷ ds) h = (h.0, constants-lawful ds h.1)

-- places in a prefix of constants and others
some-place : (xs : List Place) (j : ℕ) (s : Sort) → IsSomeAnd (slice_get xs j) (λ place. place.sort ≡ s) →
    (place : Place) × (slice_get xs j ≡ Some place) × (place.sort ≡ s)
some-place xs j s h = go (slice_get xs j) h
  where
    go : (o : Option Place) → IsSomeAnd o (λ place. place.sort ≡ s) → (place : Place) × (o ≡ Some place) × (place.sort ≡ s)
    go None k = absurd k
    go (Some place) k = (place, refl, k)

place-below : (p : Problem) (j : ℕ) (s : Sort) (place : Place) → slice_get p.prefix j ≡ Some place → place.sort ≡ s →
    IsPlaceBelow p (length p.prefix) (j, s)
place-below p j s place at same = (slice_get_within p.prefix j place at, rw at same)

constant-below : (ds : List (ℕ × Sort)) (rest : List Place) (matrix : Tree) (leaf : ℕ × Sort) → IsFound OneSort ds leaf →
    IsPlaceBelow (record { prefix = map constant_place ds ++ rest; matrix = matrix }) (length (map constant_place ds ++ rest))
    (index_in ds leaf.0, leaf.1)
constant-below ds rest matrix leaf h = go (slice_get ds (index_in ds leaf.0)) refl h
  where
    go : (o : Option (ℕ × Sort)) → slice_get ds (index_in ds leaf.0) ≡ o → IsSomeAnd o (λ k. (k.0 ≡ leaf.0) × (k.1 ≡ leaf.1)) →
        IsPlaceBelow (record { prefix = map constant_place ds ++ rest; matrix = matrix }) (length (map constant_place ds ++ rest))
        (index_in ds leaf.0, leaf.1)
    go None e k = absurd k
    go (Some d) e k =
        let at : slice_get (map constant_place ds) (index_in ds leaf.0) ≡ Some (constant_place d) =
        slice_get-map constant_place ds (index_in ds leaf.0) ∙ ap (option_map constant_place) e in
        place-below (record { prefix = map constant_place ds ++ rest; matrix = matrix }) (index_in ds leaf.0) leaf.1 (constant_place d)
        (in-front (map constant_place ds) rest (index_in ds leaf.0) (constant_place d) at) k.1

-- the variables of a form at their places
pub placed-are : (W : ℕ × Sort → Type 0) (ds : List (ℕ × Sort)) (bs : List (List Sort)) (matrix : Tree) →
    AllByRecursion (AllByRecursion IsLawful) bs →
    VarsAre (PartOf W (IsPlaceBelow (record { prefix = map constant_place ds ++ places_of Existential bs; matrix = matrix })
    (length (map constant_place ds ++ places_of Existential bs)))) (placed_variable (length ds) bs) bs
placed-are W ds bs matrix lawful i j s hs =
    let p : Problem = record { prefix = map constant_place ds ++ places_of Existential bs; matrix = matrix } in
    let here = some-place (places_of Existential bs) (places_before bs i + j) s (place-at Existential bs i j s hs) in
    let l = length-map ds constant_place in
    let level : length ds + places_before bs i + j ≡ length (map constant_place ds) + (places_before bs i + j) = omega (arith, l) in
    let at : slice_get p.prefix (length ds + places_before bs i + j) ≡ Some here.0 =
    ap (slice_get p.prefix) level ∙ behind (map constant_place ds) (places_of Existential bs) (places_before bs i + j) ∙ here.1 in
    let below : IsPlaceBelow p (length p.prefix) (length ds + places_before bs i + j, s) =
    place-below p (length ds + places_before bs i + j) s here.0 at here.2 in
    rw hs (refl, record { sorted = (variable-lawful bs i j s lawful hs, tt); free = tt; constants = tt; variables = (below, tt) })

pub no-outer : (W V : ℕ × Sort → Type 0) → OuterPart W V no_levels no_levels
no-outer W V l s e = cc

each-found : (W : ℕ × Sort → Type 0) (Found : ℕ × Sort → Type 0) → ((leaf : ℕ × Sort) → Found leaf → W leaf) → (cs : List (ℕ × Sort)) →
    AllByRecursion Found cs → AllByRecursion W cs
each-found W Found go [] h = tt
each-found W Found go (c ∷ cs) h = (go c h.0, each-found W Found go cs h.1)

pub problems-are-lawful : ProblemsAreLawful
unfolding problem_of
problems-are-lawful formulas assertions one =
    let t = conjunction formulas in
    let ds = in_order (constants_of_each formulas) in
    let bs = (form_of t).blocks in
    let p = problem_of formulas in
    let V = IsPlaceBelow p (length p.prefix) in
    let W = Places V (index_in ds) in
    let each = recursion_from_All IsAssertion formulas assertions in
    let found =
    each-found W (IsFound OneSort ds) (λ leaf h. constant-below ds (places_of Existential bs) p.matrix leaf h)
    (constants_of_each formulas) (found-sort (constants_of_each formulas) one) in
    let fit : FitBool W t = conjunction-fit W formulas each found in
    let kept = form-kept W V (tree_size t) t (omega arith) true no_levels fit.0 fit.1 in
    let part = kept.matrix no_levels (placed_variable (length ds) bs) (no-outer W V) (placed-are W ds bs p.matrix kept.sorts) in
    let matrix = (form_of t).matrix no_levels (placed_variable (length ds) bs) in
    let placed = placed-part V (index_in ds) matrix part.1 in
    record {
      sorts = All-from_recursion (λ place. IsLawful place.sort) p.prefix
          (both (λ place. IsLawful place.sort) (map constant_place ds) (places_of Existential bs)
          (constants-lawful ds (all-in_order IsLawfulLeaf (constants_of_each formulas) (all-lawful formulas each)))
          (places-lawful Existential bs kept.sorts));
      matrix =
          record {
            sorted = placed.sorted;
            sort = placed-sort (index_in ds) matrix ∙ part.0;
            quantifier_free = placed.free;
            constant_free = none-left (constants_of p.matrix) placed.constants;
          };
      variables = All-from_recursion V (free_levels p.matrix) placed.variables;
    }
