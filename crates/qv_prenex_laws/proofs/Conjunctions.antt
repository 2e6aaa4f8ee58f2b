-- The conjunction of asserted formulas: it may be asserted, and holds where each of them does.
use Rattle.std.proofs.Common.{◌≡◌, ℕ, Bool as Truth, true, ◌&&◌, Some, List, [], ◌∷◌, ◌++◌, refl, sym, subst, lit<, lit≤}
use Rattle.std.specs.List.{AllByRecursion}
use Rattle.qv_words.specs.declared.sort.Sort.{Sort}
use Rattle.qv_words.specs.declared.sort.Sort.TheVariants.{Bool}
use Rattle.qv_words.specs.declared.op.Op.TheVariants.{And}
use Rattle.qv_words.specs.Op.{truth}
use Rattle.qv_words.specs.Tree.{Tree, tree_sort}
use Rattle.qv_words.specs.Sorted.{no_levels, constants_of, free_levels}
use Rattle.qv_words.specs.Meaning.{Means}
use Rattle.qv_words.specs.Truth.{IsAssertion, constants_of_each}
use Rattle.qv_words.specs.Prenex.{binary}
use Rattle.qv_words.specs.Problem.{conjunction_with, conjunction}
use Rattle.qv_words.proofs.Leaves.{front, back, both}
use Rattle.qv_words.proofs.Existing.{HasConstant}
use Rattle.qv_prenex_laws.proofs.Forms.{IsCovered, and-means}
use Rattle.qv_prenex_laws.proofs.Says.{Valued}
use Rattle.qv_prenex_laws.proofs.Splits.{FitIn}
use Rattle.qv_prenex_laws.proofs.SplitRule.{two-truths}
use Rattle.std.proofs.lemmas.Bool.{and_parts}

-- a fit formula of sort Bool
abbrev pub FitBool : (ℕ × Sort → Type 0) → Tree → Type 0
FitBool W t = FitIn W no_levels t × (tree_sort t ≡ Some Bool)

assertion-fit : (W : ℕ × Sort → Type 0) (t : Tree) → IsAssertion t → AllByRecursion W (constants_of t) → FitBool W t
assertion-fit W t h k =
    (record { sorted = h.sorted; covered = subst (AllByRecursion (IsCovered no_levels)) (sym h.closed) tt; constants = k }, h.bool)

and-fit : (W : ℕ × Sort → Type 0) (a b : Tree) → FitBool W a → FitBool W b → FitBool W (binary And a b)
and-fit W a b h k =
    let s : tree_sort (binary And a b) ≡ Some Bool = rw (h.1, k.1) refl in (
      record {
        sorted = ((h.0.sorted, (k.0.sorted, tt)), rw s refl);
        covered =
            both (IsCovered no_levels) (free_levels a) (free_levels b ++ []) h.0.covered
            (both (IsCovered no_levels) (free_levels b) [] k.0.covered tt);
        constants = both W (constants_of a) (constants_of b ++ []) h.0.constants (both W (constants_of b) [] k.0.constants tt);
      },
      s,
    )

with-fit : (W : ℕ × Sort → Type 0) (t : Tree) (us : List Tree) → FitBool W t → AllByRecursion IsAssertion us →
    AllByRecursion W (constants_of_each us) → FitBool W (conjunction_with t us)
with-fit W t [] h a k = h
with-fit W t (u ∷ us) h a k =
    with-fit W (binary And t u) us (and-fit W t u h (assertion-fit W u a.0 (front W (constants_of u) (constants_of_each us) k))) a.1
    (back W (constants_of u) (constants_of_each us) k)

pub conjunction-fit : (W : ℕ × Sort → Type 0) (formulas : List Tree) → AllByRecursion IsAssertion formulas →
    AllByRecursion W (constants_of_each formulas) → FitBool W (conjunction formulas)
conjunction-fit W [] a k = (record { sorted = ((lit≤ tt, lit≤ tt), lit< tt); covered = tt; constants = tt }, refl)
conjunction-fit W (t ∷ ts) a k =
    with-fit W t ts (assertion-fit W t a.0 (front W (constants_of t) (constants_of_each ts) k)) a.1
    (back W (constants_of t) (constants_of_each ts) k)

-- each of some formulas means 1
abbrev pub AllHold : List ℕ → List Tree → Type 0
AllHold c formulas = AllByRecursion (λ t. Means c no_levels t 1) formulas

with-holds : (c : List ℕ) (t : Tree) (us : List Tree) → tree_sort t ≡ Some Bool → Means c no_levels t 1 → AllByRecursion IsAssertion us →
    AllHold c us → Means c no_levels (conjunction_with t us) 1
with-holds c t [] s m a h = m
with-holds c t (u ∷ us) s m a h =
    let k = and-means c no_levels t u true true s a.0.bool m h.0 in
    with-holds c (binary And t u) us k.0 k.1 a.1 h.1

pub conjunction-holds : (c : List ℕ) (formulas : List Tree) → AllByRecursion IsAssertion formulas → AllHold c formulas →
    Means c no_levels (conjunction formulas) 1
conjunction-holds c [] a h = refl
conjunction-holds c (t ∷ ts) a h = with-holds c t ts a.0.bool h.0 a.1 h.1

pub nothing-valued : Valued no_levels no_levels
nothing-valued l = tt

with-parts : (c : List ℕ) (t : Tree) (us : List Tree) → FitBool (HasConstant c) t → AllByRecursion IsAssertion us →
    AllByRecursion (HasConstant c) (constants_of_each us) → Means c no_levels (conjunction_with t us) 1 →
    Means c no_levels t 1 × AllHold c us
with-parts c t [] h a k m = (m, tt)
with-parts c t (u ∷ us) h a k m =
    let fu = assertion-fit (HasConstant c) u a.0 (front (HasConstant c) (constants_of u) (constants_of_each us) k) in
    let rest =
    with-parts c (binary And t u) us (and-fit (HasConstant c) t u h fu) a.1
    (back (HasConstant c) (constants_of u) (constants_of_each us) k) m in
    let two = two-truths c no_levels no_levels And (λ x y. x && y) t u true and-means h.0 h.1 fu.0 fu.1 nothing-valued rest.0 in
    let each = and_parts two.0 two.1 two.4 in (
      subst (λ (b : Truth). Means c no_levels t (truth b)) each.0 two.2,
      (subst (λ (b : Truth). Means c no_levels u (truth b)) each.1 two.3, rest.1),
    )

pub conjunction-parts : (c : List ℕ) (formulas : List Tree) → AllByRecursion IsAssertion formulas →
    AllByRecursion (HasConstant c) (constants_of_each formulas) → Means c no_levels (conjunction formulas) 1 → AllHold c formulas
conjunction-parts c [] a k m = tt
conjunction-parts c (t ∷ ts) a k m =
    with-parts c t ts (assertion-fit (HasConstant c) t a.0 (front (HasConstant c) (constants_of t) (constants_of_each ts) k)) a.1
    (back (HasConstant c) (constants_of t) (constants_of_each ts) k) m
