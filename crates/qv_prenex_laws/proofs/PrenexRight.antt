-- The theorem of prenex problems: the problem of some formulas holds exactly where they are true.
use Rattle.std.proofs.Common.{◌≡◌, ℕ, true, zero, suc, ◌+◌, ◌<◌, ◌≤◌, inl, inr, Option, Some, None, List, [], ◌∷◌, ◌++◌, length, map, slice_get, refl, sym, ap, ◌∙◌, subst, arith}
use Rattle.std.specs.Prelude.{IsSomeAnd, unwrap_or, option_map}
use Rattle.std.specs.List.{AllByRecursion}
use Rattle.std.proofs.lemmas.Bool.{ne_eqb, eq-eqb}
use Rattle.std.proofs.lemmas.List.{length-map}
use Rattle.std.proofs.lemmas.List.Elements.{recursion_from_All, All-from_recursion}
use Rattle.std.proofs.lemmas.Option.{slice_get-map}
use Rattle.qv_words.specs.declared.sort.Sort.{Sort}
use Rattle.qv_words.specs.Sort.{IsValueOf}
use Rattle.qv_words.specs.Tree.{Tree}
use Rattle.qv_words.specs.Sorted.{no_levels, with_level}
use Rattle.qv_words.specs.Meaning.{Means}
use Rattle.qv_words.specs.Truth.{AreTrue, HasConstantsOf, constants_of_each}
use Rattle.qv_words.specs.Problem.{Place, Existential, Holds, problem_of, index_in, places_of, closed_from}
use Rattle.qv_prenex_laws.specs.PrenexLaws.{PrenexTheorem}
use Rattle.qv_words.proofs.Leaves.{past_level}
use Rattle.qv_words.proofs.Existing.{HasConstant}
use Rattle.qv_prenex_laws.proofs.Closing.{AreOf}
use Rattle.qv_prenex_laws.proofs.Says.{slot}
use Rattle.qv_prenex_laws.proofs.InOrder.{IsFound, OneSort, found-sort, all-in_order, AreRising, in_order-rising}
use Rattle.qv_prenex_laws.proofs.ClosedBlocks.{with_values, past, place_of, block-means, values-at, past-length}
use Rattle.qv_prenex_laws.proofs.LawfulProblems.{constant_place}
use Rattle.qv_prenex_laws.proofs.UnderConstants.{point_of, constants_in, blocks_in, placed_in, closed_in, wins-is, prenex-under-constants}
use Rattle.qv_words.proofs.Winning.{under-same}

abbrev pub sorts_of : List (ℕ × Sort) → List Sort
sorts_of ds = map (λ d. d.1) ds

-- the places of constants are an existential block
places-are-block : (ds : List (ℕ × Sort)) → map constant_place ds ≡ map (place_of Existential) (sorts_of ds)
places-are-block [] = refl
places-are-block (d ∷ ds) = ap (λ ps. constant_place d ∷ ps) (places-are-block ds)

-- values at the first places stand there, and no others
values-past : (e : ℕ → Option ℕ) (n : ℕ) (xs : List ℕ) (l : ℕ) → n + length xs ≤ l → with_values e n xs l ≡ e l
values-past e n [] l le = refl
values-past e n (x ∷ xs) l le =
    values-past (with_level e n x) (suc n) xs l (omega (arith, le)) ∙ past_level e n x l (ne_eqb l n (λ k. omega (arith, k, le)))

values-are : (xs : List ℕ) (l : ℕ) → with_values no_levels 0 xs l ≡ slice_get xs l
values-are xs l = go (slice_get xs l) refl
  where
    go : (o : Option ℕ) → slice_get xs l ≡ o → with_values no_levels 0 xs l ≡ o
    go None e = values-past no_levels 0 xs l (outside xs l e)
      where
        outside : (xs : List ℕ) (l : ℕ) → slice_get xs l ≡ None → 0 + length xs ≤ l
        outside [] l k = omega arith
        outside (x ∷ xs) zero k = cc
        outside (x ∷ xs) (suc l) k = let r = outside xs l k in omega (arith, r)
    go (Some u) e =
        let here : 0 + l ≡ l = omega arith in
        subst (λ (k : ℕ). with_values no_levels 0 xs k ≡ Some u) here (values-at no_levels 0 xs l u e)

-- an existential block that means 1 has values
block-opens : (b : List Sort) (rest : List Place) (m : Tree) (e : ℕ → Option ℕ) (n : ℕ) →
    Means [] e (closed_from n (map (place_of Existential) b ++ rest) m) 1 →
    (xs : List ℕ) × AreOf xs b × Means [] (with_values e n xs) (closed_from (past n b) rest m) 1
block-opens [] rest m e n h = ([], tt, h)
block-opens (s ∷ b) rest m e n (inl h) =
    let r = block-opens b rest m (with_level e n h.1.0) (suc n) h.1.2 in
    (h.1.0 ∷ r.0, (h.1.1, r.1), r.2)
block-opens (s ∷ b) rest m e n (inr h) = cc

-- the problem holds exactly where the form's places win from some values of the constants
pub holds-is : (formulas : List Tree) →
    Holds (problem_of formulas)
    ≡ Means [] no_levels (closed_from 0
    (map (place_of Existential) (sorts_of (constants_in formulas)) ++ places_of Existential (blocks_in formulas))
    (placed_in formulas)) 1
unfolding problem_of
holds-is formulas =
    ap (λ ps. Means [] no_levels (closed_from 0 (ps ++ places_of Existential (blocks_in formulas)) (placed_in formulas)) 1)
    (places-are-block (constants_in formulas))

past-sorts : (ds : List (ℕ × Sort)) → past 0 (sorts_of ds) ≡ length ds
past-sorts ds = let k = past-length 0 (sorts_of ds) in let l = length-map ds (λ d. d.1) in omega (arith, k, l)

-- values of the constants, listed by index
abbrev listed : ℕ → (ℕ → ℕ) → List ℕ
listed zero f = []
listed (suc n) f = f 0 ∷ listed n (λ i. f (suc i))

listed-at : (n : ℕ) (f : ℕ → ℕ) (i : ℕ) → i < n → slice_get (listed n f) i ≡ Some (f i)
listed-at zero f i lt = absurd (omega (arith, lt))
listed-at (suc n) f zero lt = refl
listed-at (suc n) f (suc i) lt = listed-at n (λ j. f (suc j)) i (omega (arith, lt))

abbrev bound : List (ℕ × Sort) → ℕ
bound [] = 0
bound (d ∷ ds) = suc d.0 + bound ds

below-bound : (ds : List (ℕ × Sort)) → AllByRecursion (λ d. d.0 < bound ds) ds
below-bound ds = each ds 0 (bound ds) (omega arith)
  where
    each : (ds : List (ℕ × Sort)) (k n : ℕ) → k + bound ds ≤ n → AllByRecursion (λ d. d.0 < n) ds
    each [] k n le = tt
    each (d ∷ ds) k n le = (omega (arith, le), each ds (k + suc d.0) n (omega (arith, le)))

abbrev value_in : List (ℕ × Sort) → List ℕ → ℕ → ℕ
value_in ds xs i = unwrap_or (slice_get xs (index_in ds i)) 0

same-map : (f g : ℕ × Sort → ℕ) (ds : List (ℕ × Sort)) → AllByRecursion (λ d. f d ≡ g d) ds → map f ds ≡ map g ds
same-map f g [] h = refl
same-map f g (d ∷ ds) h = let first = h.0 in let rest = same-map f g ds h.1 in cc

own-values : (ds : List (ℕ × Sort)) (xs : List ℕ) → AreRising ds → AreOf xs (sorts_of ds) → map (λ d. value_in ds xs d.0) ds ≡ xs
own-values [] [] h k = refl
own-values [] (x ∷ xs) h k = absurd k
own-values (d ∷ ds) [] h k = absurd k
own-values (d ∷ ds) (x ∷ xs) h k =
    let first : value_in (d ∷ ds) (x ∷ xs) d.0 ≡ x = rw (eq-eqb d.0 d.0 refl) refl in
    let rest : map (λ e. value_in (d ∷ ds) (x ∷ xs) e.0) ds ≡ map (λ e. value_in ds xs e.0) ds =
    same-map (λ e. value_in (d ∷ ds) (x ∷ xs) e.0) (λ e. value_in ds xs e.0) ds (each ds h.0) in
    ap (λ y. y ∷ map (λ e. value_in (d ∷ ds) (x ∷ xs) e.0) ds) first ∙ ap (λ ys. x ∷ ys) (rest ∙ own-values ds xs h.1 k.1)
  where
    each : (es : List (ℕ × Sort)) → AllByRecursion (λ e. d.0 < e.0) es →
        AllByRecursion (λ e. value_in (d ∷ ds) (x ∷ xs) e.0 ≡ value_in ds xs e.0) es
    each [] below = tt
    each (e ∷ es) below = let lt = below.0 in (rw (ne_eqb d.0 e.0 (λ k. omega (arith, k, lt))) refl, each es below.1)

-- the values that are given to the constants are of their sorts
value-has : (ds : List (ℕ × Sort)) (xs : List ℕ) (n : ℕ) (leaf : ℕ × Sort) → AreOf xs (sorts_of ds) → IsFound OneSort ds leaf →
    leaf.0 < n → HasConstant (listed n (value_in ds xs)) leaf
value-has ds xs n leaf typed found lt = go (slice_get ds (index_in ds leaf.0)) refl found
  where
    go : (o : Option (ℕ × Sort)) → slice_get ds (index_in ds leaf.0) ≡ o → IsSomeAnd o (λ k. (k.0 ≡ leaf.0) × (k.1 ≡ leaf.1)) →
        HasConstant (listed n (value_in ds xs)) leaf
    go None at h = absurd h
    go (Some d) at h =
        let sort : slice_get (sorts_of ds) (index_in ds leaf.0) ≡ Some leaf.1 =
        slice_get-map (λ k. k.1) ds (index_in ds leaf.0) ∙ ap (option_map (λ k. k.1)) at ∙ ap Some h.1 in
        let r = slot xs (sorts_of ds) (index_in ds leaf.0) leaf.1 typed sort in
        let value : value_in ds xs leaf.0 ≡ r.0 = ap (λ o. unwrap_or o 0) r.1 in
        rw (listed-at n (value_in ds xs) leaf.0 lt) (subst (λ (v : ℕ). IsValueOf v leaf.1) (sym value) r.2)

all-have : (ds : List (ℕ × Sort)) (xs : List ℕ) (n : ℕ) → AreOf xs (sorts_of ds) → (leaves : List (ℕ × Sort)) →
    AllByRecursion (IsFound OneSort ds) leaves → AllByRecursion (λ d. d.0 < n) leaves →
    AllByRecursion (HasConstant (listed n (value_in ds xs))) leaves
all-have ds xs n typed [] h k = tt
all-have ds xs n typed (leaf ∷ leaves) h k = (value-has ds xs n leaf typed h.0 k.0, all-have ds xs n typed leaves h.1 k.1)

-- the point of these values
point-again : (ds : List (ℕ × Sort)) (xs : List ℕ) (n : ℕ) → AreRising ds → AreOf xs (sorts_of ds) → AllByRecursion (λ d. d.0 < n) ds →
    point_of (listed n (value_in ds xs)) ds ≡ xs
point-again ds xs n rising typed below =
    same-map (λ d. unwrap_or (slice_get (listed n (value_in ds xs)) d.0) 0) (λ d. value_in ds xs d.0) ds (each ds below)
    ∙ own-values ds xs rising typed
  where
    each : (es : List (ℕ × Sort)) → AllByRecursion (λ d. d.0 < n) es →
        AllByRecursion (λ d. unwrap_or (slice_get (listed n (value_in ds xs)) d.0) 0 ≡ value_in ds xs d.0) es
    each [] k = tt
    each (e ∷ es) k = (ap (λ o. unwrap_or o 0) (listed-at n (value_in ds xs) e.0 k.0), each es k.1)

-- values of the constants are of the sorts of their places
point-typed : (c : List ℕ) (ds : List (ℕ × Sort)) → AllByRecursion (HasConstant c) ds → AreOf (point_of c ds) (sorts_of ds)
point-typed c [] h = tt
point-typed c (d ∷ ds) h = (value (slice_get c d.0) h.0, point-typed c ds h.1)
  where
    value : (o : Option ℕ) → IsSomeAnd o (λ v. IsValueOf v d.1) → IsValueOf (unwrap_or o 0) d.1
    value None k = absurd k
    value (Some v) k = k

pub prenex-theorem : PrenexTheorem
prenex-theorem formulas assertions one = (
  λ holds. true-from (subst (λ (T : Type 0). T) (holds-is formulas) holds),
  λ are. subst (λ (T : Type 0). T) (sym (holds-is formulas)) (holds-from are),
)
  where
    ds : List (ℕ × Sort)
    ds = constants_in formulas

    cs : List (ℕ × Sort)
    cs = constants_of_each formulas

    rest : List Place
    rest = places_of Existential (blocks_in formulas)

    body : Tree
    body = closed_in formulas

    true-from : Means [] no_levels (closed_from 0 (map (place_of Existential) (sorts_of ds) ++ rest) (placed_in formulas)) 1 →
        AreTrue formulas
    true-from holds =
        let r = block-opens (sorts_of ds) rest (placed_in formulas) no_levels 0 holds in
        let xs = r.0 in
        let n = bound cs in
        let c = listed n (value_in ds xs) in
        let has : HasConstantsOf c formulas =
        All-from_recursion (HasConstant c) cs (all-have ds xs n r.1 cs (found-sort cs one) (below-bound cs)) in
        let point : point_of c ds ≡ xs = point-again ds xs n (in_order-rising cs) r.1 (all-in_order (λ d. d.0 < n) cs (below-bound cs)) in
        let closed : Means [] (with_values no_levels 0 xs) body 1 =
        subst (λ (k : ℕ). Means [] (with_values no_levels 0 xs) (closed_from k rest (placed_in formulas)) 1) (past-sorts ds) r.2 in
        let there : Means [] (slice_get (point_of c ds)) body 1 =
        subst (λ (ys : List ℕ). Means [] (slice_get ys) body 1) (sym point)
        (under-same body (with_values no_levels 0 xs) (slice_get xs) 1 (values-are xs) closed) in
        (c, has, (prenex-under-constants formulas c assertions has).0 (subst (λ (T : Type 0). T) (sym (wins-is formulas c)) there))

    holds-from : AreTrue formulas →
        Means [] no_levels (closed_from 0 (map (place_of Existential) (sorts_of ds) ++ rest) (placed_in formulas)) 1
    holds-from (c, has, hold) =
        let xs = point_of c ds in
        let wins : Means [] (slice_get xs) body 1 =
        subst (λ (T : Type 0). T) (wins-is formulas c) ((prenex-under-constants formulas c assertions has).1 hold) in
        let typed = point-typed c ds (all-in_order (HasConstant c) cs (recursion_from_All (HasConstant c) cs has)) in
        let closed : Means [] (with_values no_levels 0 xs) body 1 =
        under-same body (slice_get xs) (with_values no_levels 0 xs) 1 (λ l. sym (values-are xs l)) wins in
        block-means Existential true (sorts_of ds) rest (placed_in formulas) no_levels 0 (
          xs,
          typed,
          subst (λ (k : ℕ). Means [] (with_values no_levels 0 xs) (closed_from k rest (placed_in formulas)) 1)
              (sym (past-sorts ds)) closed,
        )
