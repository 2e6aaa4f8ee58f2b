-- From given values of the constants the problem says what the formulas do.
use Rattle.std.proofs.Common.{◌≡◌, ℕ, ◌<◌, Bool as Truth, true, false, Option, Some, None, List, [], ◌∷◌, ◌++◌, length, map, drop, slice_get, refl, sym, ap, ◌∙◌, subst, arith}
use Rattle.std.specs.Prelude.{IsSomeAnd, unwrap_or, option_map}
use Rattle.std.specs.List.{AllByRecursion}
use Rattle.std.proofs.Math.Seq.{drop-append_seam}
use Rattle.std.proofs.lemmas.List.{length-map}
use Rattle.std.proofs.lemmas.List.Elements.{recursion_from_All, All-from_recursion}
use Rattle.std.proofs.lemmas.Option.{slice_get-map, slice_get_within}
use Rattle.qv_words.specs.declared.sort.Sort.{Sort}
use Rattle.qv_words.specs.declared.sort.Sort.TheVariants.{Bool}
use Rattle.qv_words.specs.Sort.{IsValueOf}
use Rattle.qv_words.specs.Op.{truth}
use Rattle.qv_words.specs.Tree.{Tree}
use Rattle.qv_words.specs.Sorted.{no_levels, constants_of}
use Rattle.qv_words.specs.Meaning.{Means}
use Rattle.qv_words.specs.Truth.{IsAssertion, HoldUnder, constants_of_each}
use Rattle.qv_words.specs.Prenex.{form_of, tree_size}
use Rattle.qv_words.specs.Problem.{Problem, Existential, problem_of, conjunction, in_order, index_in, places_of, placed_variable, with_places, closed_from}
use Rattle.qv_words.specs.Linked.{IsPlaceBelow}
use Rattle.qv_words.specs.GameLaws.{WinsFrom}
use Rattle.qv_prenex_laws.specs.PrenexLaws.{PrenexUnderConstants, values_at}
use Rattle.qv_words.proofs.Existing.{HasConstant}
use Rattle.qv_words.proofs.Unique.{one_meaning}
use Rattle.qv_prenex_laws.proofs.Forms.{Tells}
use Rattle.qv_prenex_laws.proofs.Says.{Says}
use Rattle.qv_prenex_laws.proofs.SplitRule.{fit-truth, Of}
use Rattle.qv_prenex_laws.proofs.FormRight.{form-right}
use Rattle.qv_prenex_laws.proofs.Parts.{PartOf, HasPlace, placed-means}
use Rattle.qv_prenex_laws.proofs.Kept.{Kept, form-kept}
use Rattle.qv_prenex_laws.proofs.InOrder.{IsFound, AnySort, found-any}
use Rattle.qv_prenex_laws.proofs.Conjunctions.{FitBool, conjunction-fit, conjunction-holds, conjunction-parts, nothing-valued}
use Rattle.qv_prenex_laws.proofs.ClosedBlocks.{with_rows, blocks-mean, rows-before, placed-vars}
use Rattle.qv_prenex_laws.proofs.LawfulProblems.{constant_place, no-outer, placed-are}

-- the value of a constant stands at its place
abbrev pub point_of : List ℕ → List (ℕ × Sort) → List ℕ
point_of c ds = map (λ k. unwrap_or (slice_get c k.0) 0) ds

abbrev value_of : List ℕ → ℕ × Sort → ℕ
value_of c k = unwrap_or (slice_get c k.0) 0

-- so it does behind the values of the form's places
value-found : (c : List ℕ) (ds : List (ℕ × Sort)) (e : ℕ → Option ℕ) → ((l : ℕ) → l < length ds → e l ≡ slice_get (point_of c ds) l) →
    (leaf : ℕ × Sort) → IsFound AnySort ds leaf → HasConstant c leaf → HasPlace c e (index_in ds) leaf
value-found c ds e same leaf found has = go (slice_get ds (index_in ds leaf.0)) refl found
  where
    value : (d : ℕ × Sort) → d.0 ≡ leaf.0 → (o : Option ℕ) → slice_get c leaf.0 ≡ o → IsSomeAnd o (λ v. IsValueOf v leaf.1) →
        Some (value_of c d) ≡ o
    value d index None at h = absurd h
    value d index (Some v) at h = rw (index, at)

    go : (o : Option (ℕ × Sort)) → slice_get ds (index_in ds leaf.0) ≡ o → IsSomeAnd o (λ k. (k.0 ≡ leaf.0) × AnySort k.1 leaf.1) →
        HasPlace c e (index_in ds) leaf
    go None at h = absurd h
    go (Some d) at h =
        same (index_in ds leaf.0) (slice_get_within ds (index_in ds leaf.0) d at) ∙ slice_get-map (value_of c) ds (index_in ds leaf.0)
        ∙ ap (option_map (value_of c)) at
        ∙ value d h.0 (slice_get c leaf.0) refl has

-- found, and with a value
abbrev IsKnown : List ℕ → List (ℕ × Sort) → ℕ × Sort → Type 0
IsKnown c ds leaf = IsFound AnySort ds leaf × HasConstant c leaf

each-known : (c : List ℕ) (ds : List (ℕ × Sort)) (leaves : List (ℕ × Sort)) → AllByRecursion (IsFound AnySort ds) leaves →
    AllByRecursion (HasConstant c) leaves → AllByRecursion (IsKnown c ds) leaves
each-known c ds [] h k = tt
each-known c ds (leaf ∷ leaves) h k = ((h.0, k.0), each-known c ds leaves h.1 k.1)

each-placed : (c : List ℕ) (ds : List (ℕ × Sort)) (e : ℕ → Option ℕ) → ((l : ℕ) → l < length ds → e l ≡ slice_get (point_of c ds) l) →
    (leaves : List (ℕ × Sort)) → AllByRecursion (IsKnown c ds) leaves → AllByRecursion (HasPlace c e (index_in ds)) leaves
each-placed c ds e same [] h = tt
each-placed c ds e same (leaf ∷ leaves) h = (value-found c ds e same leaf h.0.0 h.0.1, each-placed c ds e same leaves h.1)

-- what the problem of formulas is made of
abbrev pub constants_in : List Tree → List (ℕ × Sort)
constants_in formulas = in_order (constants_of_each formulas)

abbrev pub blocks_in : List Tree → List (List Sort)
blocks_in formulas = (form_of (conjunction formulas)).blocks

abbrev pub matrix_in : List Tree → Tree
matrix_in formulas =
    (form_of (conjunction formulas)).matrix no_levels (placed_variable (length (constants_in formulas)) (blocks_in formulas))

abbrev pub placed_in : List Tree → Tree
placed_in formulas = with_places (index_in (constants_in formulas)) (matrix_in formulas)

abbrev pub closed_in : List Tree → Tree
closed_in formulas = closed_from (length (constants_in formulas)) (places_of Existential (blocks_in formulas)) (placed_in formulas)

-- the matrix, closed for the form's places, means what the conjunction does
pub closed-means : (formulas : List Tree) (c : List ℕ) (v : Truth) → AllByRecursion IsAssertion formulas →
    AllByRecursion (HasConstant c) (constants_of_each formulas) →
    Means c no_levels (conjunction formulas) (truth v) →
    Means [] (slice_get (point_of c (constants_in formulas))) (closed_in formulas) (truth v)
closed-means formulas c v each has means =
    blocks-mean Existential v bs (with_places (index_in ds) (matrix_in formulas)) (slice_get (point_of c ds)) (length ds)
    (Tells c (form_of t) no_levels no_levels v)
    (λ ws typed tells.
    let e = with_rows (slice_get (point_of c ds)) (length ds) ws in
    let told =
    tells e no_levels (placed_variable (length ds) bs) (λ l. refl)
    (placed-vars c (slice_get (point_of c ds)) (length ds) bs ws typed) in
    placed-means c e (index_in ds) (matrix_in formulas) (truth v) part.1.free
    (each-placed c ds e (λ l lt. rows-before (slice_get (point_of c ds)) (length ds) ws l lt)
    (constants_of (matrix_in formulas)) part.1.constants) told.1)
    (says.closed no_levels v nothing-valued means)
  where
    t : Tree
    t = conjunction formulas

    ds : List (ℕ × Sort)
    ds = constants_in formulas

    bs : List (List Sort)
    bs = blocks_in formulas

    p : Problem
    p = record { prefix = map constant_place ds ++ places_of Existential bs; matrix = t }

    V : ℕ × Sort → Type 0
    V = IsPlaceBelow p (length p.prefix)

    fit : FitBool (HasConstant c) t
    fit = conjunction-fit (HasConstant c) formulas each has

    says : Says c no_levels (form_of t) (Of c t true)
    says = form-right c (tree_size t) t (omega arith) true no_levels fit.0 fit.1

    known : FitBool (IsKnown c ds) t
    known =
        conjunction-fit (IsKnown c ds) formulas each
        (each-known c ds (constants_of_each formulas) (found-any (constants_of_each formulas)) has)

    kept : Kept (IsKnown c ds) V no_levels (form_of t)
    kept = form-kept (IsKnown c ds) V (tree_size t) t (omega arith) true no_levels known.0 known.1

    part : PartOf (IsKnown c ds) V (matrix_in formulas) Bool
    part = kept.matrix no_levels (placed_variable (length ds) bs) (no-outer (IsKnown c ds) V) (placed-are (IsKnown c ds) ds bs t kept.sorts)

-- the point of a problem
point-length : (c : List ℕ) (ds : List (ℕ × Sort)) → length (point_of c ds) ≡ length (map constant_place ds)
point-length c ds = length-map ds (value_of c) ∙ sym (length-map ds constant_place)

pub wins-is : (formulas : List Tree) (c : List ℕ) →
    WinsFrom (problem_of formulas) Existential (values_at c formulas)
    ≡ Means [] (slice_get (point_of c (constants_in formulas))) (closed_in formulas) 1
unfolding problem_of
wins-is formulas c =
    let ds = constants_in formulas in
    let rest = places_of Existential (blocks_in formulas) in
    let m = with_places (index_in ds) (matrix_in formulas) in
    let at = λ (n k : ℕ). Means [] (slice_get (point_of c ds)) (closed_from n (drop k (map constant_place ds ++ rest)) m) 1 in
    let first : at (length (point_of c ds)) (length (point_of c ds)) ≡ at (length ds) (length (map constant_place ds)) =
    ap (λ n. at n (length (point_of c ds))) (length-map ds (value_of c)) ∙ ap (at (length ds)) (point-length c ds) in
    first ∙ ap (λ ps. Means [] (slice_get (point_of c ds)) (closed_from (length ds) ps m) 1) (drop-append_seam (map constant_place ds) rest)

pub prenex-under-constants : PrenexUnderConstants
prenex-under-constants formulas c assertions values = (
  λ wins. there (subst (λ (T : Type 0). T) (wins-is formulas c) wins),
  λ hold. subst (λ (T : Type 0). T) (sym (wins-is formulas c)) (back hold),
)
  where
    each : AllByRecursion IsAssertion formulas
    each = recursion_from_All IsAssertion formulas assertions

    has : AllByRecursion (HasConstant c) (constants_of_each formulas)
    has = recursion_from_All (HasConstant c) (constants_of_each formulas) values

    fit : FitBool (HasConstant c) (conjunction formulas)
    fit = conjunction-fit (HasConstant c) formulas each has

    back : HoldUnder c formulas → Means [] (slice_get (point_of c (constants_in formulas))) (closed_in formulas) 1
    back hold =
        closed-means formulas c true each has
        (conjunction-holds c formulas each (recursion_from_All (λ t. Means c no_levels t 1) formulas hold))

    by-truth : Means [] (slice_get (point_of c (constants_in formulas))) (closed_in formulas) 1 → (v : Truth) →
        Means c no_levels (conjunction formulas) (truth v) → HoldUnder c formulas
    by-truth wins true m = All-from_recursion (λ t. Means c no_levels t 1) formulas (conjunction-parts c formulas each has m)
    by-truth wins false m =
        let same : 1 ≡ 0 =
        one_meaning (closed_in formulas) [] (slice_get (point_of c (constants_in formulas))) 1 0 wins
        (closed-means formulas c false each has m) in
        absurd (omega (arith, same))

    there : Means [] (slice_get (point_of c (constants_in formulas))) (closed_in formulas) 1 → HoldUnder c formulas
    there wins =
        let m = fit-truth c no_levels no_levels (conjunction formulas) fit.0 fit.1 nothing-valued in
        by-truth wins m.0 m.1
