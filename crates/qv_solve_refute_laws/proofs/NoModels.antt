-- A model of the clauses would give values that make the formulas true.
use Rattle.std.proofs.Common.{◌≡◌, ℕ, ◌<◌, ◌^◌, Bool, Some, None, Option, List, [], ◌∷◌, slice_get, get_or, refl, sym, ap, ◌∙◌, subst, arith}
use Rattle.std.specs.Prelude.{All, IsSomeAnd, option_and_then, option_map, unwrap_or}
use Rattle.std.specs.List.{AllByRecursion, AllZip, Contains}
use Rattle.std.proofs.lemmas.List.Elements.{All-from_recursion, recursion_from_All}
use Rattle.std.proofs.lemmas.Nat.{pow_pos}
use Rattle.qv_words.specs.declared.sort.Sort.{Sort}
use Rattle.qv_words.specs.declared.sort.Sort.TheVariants.{Bits, Bool as BoolSort}
use Rattle.qv_words.specs.Sort.{IsValueOf}
use Rattle.qv_words.specs.Tree.{Tree, Variable, IsQuantifierFree, tree_sort}
use Rattle.qv_words.specs.Sorted.{HasValues, constants_of, free_levels}
use Rattle.qv_words.specs.Meaning.{Means}
use Rattle.qv_words.specs.Skolem.{IsTermOf, goal_of}
use Rattle.qv_words.specs.Expansion.{Grown, IsEarlierEigen, grown_behind, leaves_of, line_numbered, sort_at}
use Rattle.qv_words.specs.Gate.{Lit}
use Rattle.qv_words.specs.Clauses.{bits_of}
use Rattle.qv_words.specs.PassLaws.{IsPlain, StandsFor}
use Rattle.qv_words.specs.Problem.{Problem, Place, Existential, Universal}
use Rattle.qv_words.specs.Linked.{chain, tree_of}
use Rattle.qv_words.proofs.Elements.{all-at, all-both_weaker, all-weaker, some-and}
use Rattle.qv_words.proofs.Leaves.{HasValue}
use Rattle.qv_rewrite_passes.specs.Passes.{behind_all}
use Rattle.qv_rewrite_passes.proofs.Behind.{all-stand}
use Rattle.qv_circuits_laws.specs.CircuitLaws.{number_of}
use Rattle.qv_circuits_laws.specs.ClauseLaws.{blasted, level_value, IsOverLevels}
use Rattle.qv_circuits_laws.proofs.Modelling.{models-give_values}
use Rattle.qv_game_entry_laws.proofs.Occurring.{bits-found_in, leaf-of}
use Rattle.qv_cert_section_laws.proofs.LawfulLines.{leaves-are_terms}
use Rattle.qv_cert_section_laws.proofs.SkolemByOneMore.{goals-are_terms}
use Rattle.qv_game_laws.proofs.ChainTheorem.{chain-theorem}
use Rattle.qv_game_laws.proofs.TreeTheorem.{tree-theorem}
use Rattle.qv_solve_refute_laws.specs.FinalLaws.{FalseListsHaveNoModel, FinalListsHaveNoModel, HaveNoModel}

-- the values that a model gives to levels, and 0 where it gives none
abbrev given : (ℕ → Bool) → (ℕ → Sort) → List Tree → ℕ → Option ℕ
given v sorts formulas l = Some (unwrap_or (level_value v sorts formulas l) 0)

abbrev Leaf : (ℕ → Sort) → ℕ × Sort → Type 0
Leaf sorts leaf = leaf.1 ≡ sorts leaf.0

abbrev Formula : Tree → Type 0
Formula t = IsTermOf t BoolSort

pub none-of_none : {X : Type 0} (xs : List X) → All (Contains []) xs → xs ≡ []
none-of_none [] h = refl
none-of_none (x ∷ xs) h = absurd (never (recursion_from_All (Contains []) (x ∷ xs) h).0)
  where
    never : Contains [] x → ⊥
    never k = let less = k.1 in absurd (omega (arith, less))

-- 0 is a value of each sort
some-power : (w : ℕ) → 0 < 2 ^ w
some-power w = pow_pos w

zero-value : (s : Sort) → IsValueOf 0 s
zero-value BoolSort = omega arith
zero-value (Bits w) = some-power w

abbrev IsTrueUnder : (ℕ → Option ℕ) → Tree → Type 0
IsTrueUnder e t = HasValues [] e t × Means [] e t 1

-- what passes leave is over the same levels
abbrev IsLeft : (ℕ → Sort) → Tree → Type 0
IsLeft sorts u = IsPlain u × (tree_sort u ≡ Some BoolSort) × IsOverLevels sorts u

left-one : (sorts : ℕ → Sort) (u t : Tree) → StandsFor u t → Formula t → All (Leaf sorts) (free_levels t) → IsLeft sorts u
left-one sorts u t h term leveled = (
  h.plain,
  h.sort ∙ term.sort,
  record {
    constant_free = none-of_none (constants_of u) (subst (λ (cs : List (ℕ × Sort)). All (Contains cs) (constants_of u)) term.constant_free h.constants);
    levels = λ k d less.
        let at = h.variables k d less in
        subst (Leaf sorts) at.2 (leveled at.0 (get_or (free_levels u) k d) at.1);
  },
)

left-each : (sorts : ℕ → Sort) (us ts : List Tree) → AllZip StandsFor us ts → AllByRecursion Formula ts → AllByRecursion (λ t. All (Leaf sorts) (free_levels t)) ts → AllByRecursion (IsLeft sorts) us
left-each sorts [] [] z h k = tt
left-each sorts (u ∷ us) (t ∷ ts) z h k = (left-one sorts u t z.0 h.0 k.0, left-each sorts us ts z.1 h.1 k.1)
left-each sorts [] (t ∷ ts) z h k = tt
left-each sorts (u ∷ us) [] z h k = absurd z

-- where that is true, so are the formulas
true-before : (e : ℕ → Option ℕ) (us ts : List Tree) → AllZip StandsFor us ts → AllByRecursion (HasValues [] e) ts → AllByRecursion (λ u. Means [] e u 1) us → AllByRecursion (IsTrueUnder e) ts
true-before e [] [] z h k = tt
true-before e (u ∷ us) (t ∷ ts) z h k = ((h.0, z.0.gains [] e 1 h.0 k.0), true-before e us ts z.1 h.1 k.1)
true-before e [] (t ∷ ts) z h k = absurd z
true-before e (u ∷ us) [] z h k = tt

-- the values are of the levels' sorts
module _ (v : ℕ → Bool) (sorts : ℕ → Sort) (us : List Tree) (free : AllByRecursion IsQuantifierFree us) (values : AllByRecursion (HasValues [] (given v sorts us)) us) where
  given-value : (l : ℕ) → IsValueOf (unwrap_or (level_value v sorts us l) 0) (sorts l)
  given-value l = go (bits_of (blasted us) (Variable l (sorts l))) refl
    where
      go : (o : Option (List Lit)) → bits_of (blasted us) (Variable l (sorts l)) ≡ o → IsValueOf (unwrap_or (level_value v sorts us l) 0) (sorts l)
      go None is = subst (λ (o : Option (List Lit)). IsValueOf (unwrap_or (option_map (number_of v) o) 0) (sorts l)) (sym is) (zero-value (sorts l))
      go (Some bits) is =
          let at = bits-found_in us (Variable l (sorts l)) bits free is in
          let own = all-at (HasValues [] (given v sorts us)) us at.index at.formula values at.is in
          leaf-of (HasValue (given v sorts us)) l (sorts l) at.formula (all-at IsQuantifierFree us at.index at.formula free at.is) (recursion_from_All (HasValue (given v sorts us)) (free_levels at.formula) own.levels) at.within

  given-values : (t : Tree) → Formula t → All (Leaf sorts) (free_levels t) → HasValues [] (given v sorts us) t
  given-values t term leveled = record {
    constants = subst (λ (cs : List (ℕ × Sort)). All (λ leaf. IsSomeAnd (slice_get [] leaf.0) (λ x. IsValueOf x leaf.1)) cs) (sym term.constant_free) (All-from_recursion (λ leaf. IsSomeAnd (slice_get [] leaf.0) (λ x. IsValueOf x leaf.1)) [] tt);
    levels = λ k d less. subst (IsValueOf (unwrap_or (level_value v sorts us (get_or (free_levels t) k d).0) 0)) (sym (leveled k d less)) (given-value (get_or (free_levels t) k d).0);
  }

pub false-lists : FalseListsHaveNoModel
false-lists passes formulas sorts terms leveled never v model =
    let us = behind_all passes formulas in
    let each : AllByRecursion Formula formulas = recursion_from_All Formula formulas terms in
    let levels : AllByRecursion (λ t. All (Leaf sorts) (free_levels t)) formulas = recursion_from_All (λ t. All (Leaf sorts) (free_levels t)) formulas leveled in
    let stand : AllZip StandsFor us formulas = all-stand passes formulas (all-weaker Formula IsPlain formulas (λ t h. record { sorted = h.sorted; free = h.quantifier_free }) each) in
    let left : AllByRecursion (IsLeft sorts) us = left-each sorts us formulas stand each levels in
    let plain : AllByRecursion IsPlain us = all-weaker (IsLeft sorts) IsPlain us (λ u h. h.0) left in
    let e = given v sorts us in
    let made = models-give_values us sorts v e (All-from_recursion IsPlain us plain) (All-from_recursion (λ t. tree_sort t ≡ Some BoolSort) us (all-weaker (IsLeft sorts) (λ t. tree_sort t ≡ Some BoolSort) us (λ u h. h.1) left)) (All-from_recursion (IsOverLevels sorts) us (all-weaker (IsLeft sorts) (IsOverLevels sorts) us (λ u h. h.2) left))
    (λ l x is. ap (λ (o : Option ℕ). Some (unwrap_or o 0)) is) model in
    let free : AllByRecursion IsQuantifierFree us = all-weaker IsPlain IsQuantifierFree us (λ u h. h.free) plain in
    let values = recursion_from_All (HasValues [] e) us made.0 in
    let before : AllByRecursion (HasValues [] e) formulas = all-both_weaker Formula (λ t. All (Leaf sorts) (free_levels t)) (HasValues [] e) formulas (λ t h k. given-values v sorts us free values t h k) each levels in
    never e (All-from_recursion (IsTrueUnder e) formulas (true-before e us formulas stand before (recursion_from_All (λ t. Means [] e t 1) us made.2)))

-- the goal of the chain, and the leaves of the tree
place-sort : (p : Problem) (leaf : ℕ × Sort) → IsSomeAnd (slice_get p.prefix leaf.0) (λ place. (place.quantifier ≡ Universal) × (place.sort ≡ leaf.1)) → leaf.1 ≡ sort_at p leaf.0
place-sort p leaf h =
    let place = some-and (slice_get p.prefix leaf.0) (λ q. (q.quantifier ≡ Universal) × (q.sort ≡ leaf.1)) h in
    let at : slice_get p.prefix leaf.0 ≡ Some place.0 = place.1 in
    sym place.2.1 ∙ sym (sort-here at)
  where
    sort-here : {place : Place} → slice_get p.prefix leaf.0 ≡ Some place → sort_at p leaf.0 ≡ place.sort
    sort-here at = rw at refl

abbrev eigen_sorts : List Grown → ℕ → Sort
eigen_sorts grown l = unwrap_or (option_and_then (λ (g : Grown). g.eigen) (line_numbered grown l)) BoolSort

eigen-sort : (grown : List Grown) (leaf : ℕ × Sort) → IsEarlierEigen grown leaf → leaf.1 ≡ eigen_sorts grown leaf.0
eigen-sort grown leaf h =
    let g = some-and (line_numbered grown leaf.0) (λ g. g.eigen ≡ Some leaf.1) h.1 in
    sym (ap (λ (o : Option Grown). unwrap_or (option_and_then (λ (g : Grown). g.eigen) o) BoolSort) g.1 ∙ ap (λ (o : Option Sort). unwrap_or o BoolSort) g.2)

pub final-lists : FinalListsHaveNoModel
final-lists p Existential entries formulas hp linked won (passes, is) =
    let made = chain-theorem p entries hp linked won in
    let goal = goal_of p (chain p entries) in
    let term = goals-are_terms p (chain p entries) hp made.0 in
    let leaves : All (Leaf (sort_at p)) (free_levels goal) = λ k d less. place-sort p (get_or (free_levels goal) k d) (term.1 k d less).1 in
    subst HaveNoModel (sym is) (false-lists passes (goal ∷ []) (sort_at p) (All-from_recursion Formula (goal ∷ []) (term.0, tt)) (All-from_recursion (λ t. All (Leaf (sort_at p)) (free_levels t)) (goal ∷ []) (leaves, tt))
    (λ e all. let own = (recursion_from_All (IsTrueUnder e) (goal ∷ []) all).0 in made.1 e own.0 own.1))
final-lists p Universal entries formulas hp linked won (passes, is) =
    let made = tree-theorem p entries hp linked won in
    let lines = tree_of p entries in
    let grown = grown_behind p [] lines in
    let terms = leaves-are_terms p lines hp made.0 in
    subst HaveNoModel (sym is) (false-lists passes (leaves_of p lines) (eigen_sorts grown) (λ k d less. (terms k d less).0) (λ k d less j x within. eigen-sort grown (get_or (free_levels (get_or (leaves_of p lines) k d)) j x) ((terms k d less).1 j x within)) made.1)
