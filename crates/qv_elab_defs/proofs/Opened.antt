-- Trees over constants and open binders of certain sorts.
use Rattle.std.proofs.Common.{◌≡◌, ℕ, ◌==◌, Bool, true, false, cond, Option, Some, None, List, [], ◌∷◌, map, refl, sym, ap, subst, ◌∙◌, slice_get}
use Rattle.std.specs.Prelude.{IfSome, IsSome, is_some, is_none, unwrap_or, option_and_then, option_map}
use Rattle.std.specs.List.{AllByRecursion}
use Rattle.qv_words.specs.declared.sort.Sort.{Sort}
use Rattle.qv_words.specs.declared.sort.Sort.TheVariants.{Bool as BoolSort}
use Rattle.qv_words.specs.declared.op.Op.{Op}
use Rattle.qv_words.specs.Rank.{result_sort}
use Rattle.qv_words.specs.Tree.{Tree, Trees, Constant, Variable, Literal, Apply, ForAll, Exists, Nil, Cons, tree_sort, tree_sorts, closed_sort}
use Rattle.qv_words.specs.Sorted.{with_level, constants_of, constants_of_all, free_levels, free_levels_of_all, IsSortedBelow, AreSortedBelow}
use Rattle.qv_words.proofs.Leaves.{both, above, past_level}
use Rattle.qv_sorts.specs.Faults.{fault_of}
use Rattle.qv_sorts.proofs.Agreement.{agreement}
use Rattle.qv_elab_defs.specs.Applying.{sort_of, in_trees}
pub use Rattle.qv_elab_defs.specs.OpenTrees.{IsOpen, AreOpen}

-- the map N has what M has
abbrev pub Within : (ℕ → Option Sort) → (ℕ → Option Sort) → Type 0
Within M N = (l : ℕ) (s : Sort) → M l ≡ Some s → N l ≡ Some s

within-level : (M N : ℕ → Option Sort) (l : ℕ) (s : Sort) → Within M N → Within (with_level M l s) (with_level N l s)
within-level M N l s w k u = go (k == l)
  where
    go : (b : Bool) → cond b (Some s) (M k) ≡ Some u → cond b (Some s) (N k) ≡ Some u
    go true h = h
    go false h = w k u h

mutual
  pub wider : (t : Tree) (K : List Sort) (low : ℕ) (M N : ℕ → Option Sort) → Within M N → IsOpen K low M t → IsOpen K low N t
  wider (Constant i s) K low M N w h = h
  wider (Variable l s) K low M N w h = (h.0, w l s h.1)
  wider (Literal s n) K low M N w h = h
  wider (Apply o ts) K low M N w h = (widers ts K low M N w h.0, h.1)
  wider (ForAll l s body) K low M N w h = (h.0, h.1, wider body K low (with_level M l s) (with_level N l s) (within-level M N l s w) h.2, h.3)
  wider (Exists l s body) K low M N w h = (h.0, h.1, wider body K low (with_level M l s) (with_level N l s) (within-level M N l s w) h.2, h.3)

  widers : (ts : Trees) (K : List Sort) (low : ℕ) (M N : ℕ → Option Sort) → Within M N → AreOpen K low M ts → AreOpen K low N ts
  widers Nil K low M N w h = tt
  widers (Cons t ts) K low M N w h = (wider t K low M N w h.0, widers ts K low M N w h.1)

-- such a tree is sorted
mutual
  pub open-sorted : (t : Tree) (K : List Sort) (low : ℕ) (M : ℕ → Option Sort) → IsOpen K low M t → IsSortedBelow M t
  open-sorted (Constant i s) K low M h = h.0
  open-sorted (Variable l s) K low M h = (h.0, subst (λ (o : Option Sort). IfSome o (λ bound. s ≡ bound)) (sym h.1) refl)
  open-sorted (Literal s n) K low M h = h
  open-sorted (Apply o ts) K low M h = (opens-sorted ts K low M h.0, h.1)
  open-sorted (ForAll l s body) K low M h = (h.0, open-sorted body K low (with_level M l s) h.2, h.3)
  open-sorted (Exists l s body) K low M h = (h.0, open-sorted body K low (with_level M l s) h.2, h.3)

  opens-sorted : (ts : Trees) (K : List Sort) (low : ℕ) (M : ℕ → Option Sort) → AreOpen K low M ts → AreSortedBelow M ts
  opens-sorted Nil K low M h = tt
  opens-sorted (Cons t ts) K low M h = (open-sorted t K low M h.0, opens-sorted ts K low M h.1)

-- its free variables are of the open binders
abbrev pub IsBound : (ℕ → Option Sort) → ℕ × Sort → Type 0
IsBound M leaf = M leaf.0 ≡ Some leaf.1

outside : (M : ℕ → Option Sort) (l : ℕ) (s : Sort) (p : ℕ × Sort) → (p.0 == l) ≡ false → IsBound (with_level M l s) p → IsBound M p
outside M l s p e h = sym (past_level M l s p.0 e) ∙ h

mutual
  pub open-levels : (t : Tree) (K : List Sort) (low : ℕ) (M : ℕ → Option Sort) → IsOpen K low M t → AllByRecursion (IsBound M) (free_levels t)
  open-levels (Constant i s) K low M h = tt
  open-levels (Variable l s) K low M h = (h.1, tt)
  open-levels (Literal s n) K low M h = tt
  open-levels (Apply o ts) K low M h = opens-levels ts K low M h.0
  open-levels (ForAll l s body) K low M h =
      above (IsBound M) (IsBound (with_level M l s)) l (free_levels body) (outside M l s) (open-levels body K low (with_level M l s) h.2)
  open-levels (Exists l s body) K low M h =
      above (IsBound M) (IsBound (with_level M l s)) l (free_levels body) (outside M l s) (open-levels body K low (with_level M l s) h.2)

  opens-levels : (ts : Trees) (K : List Sort) (low : ℕ) (M : ℕ → Option Sort) → AreOpen K low M ts → AllByRecursion (IsBound M) (free_levels_of_all ts)
  opens-levels Nil K low M h = tt
  opens-levels (Cons t ts) K low M h =
      both (IsBound M) (free_levels t) (free_levels_of_all ts) (open-levels t K low M h.0) (opens-levels ts K low M h.1)

-- its constants are there
abbrev pub IsThere : List Sort → ℕ × Sort → Type 0
IsThere K leaf = slice_get K leaf.0 ≡ Some leaf.1

mutual
  pub open-constants : (t : Tree) (K : List Sort) (low : ℕ) (M : ℕ → Option Sort) → IsOpen K low M t → AllByRecursion (IsThere K) (constants_of t)
  open-constants (Constant i s) K low M h = (h.1, tt)
  open-constants (Variable l s) K low M h = tt
  open-constants (Literal s n) K low M h = tt
  open-constants (Apply o ts) K low M h = opens-constants ts K low M h.0
  open-constants (ForAll l s body) K low M h = open-constants body K low (with_level M l s) h.2
  open-constants (Exists l s body) K low M h = open-constants body K low (with_level M l s) h.2

  opens-constants : (ts : Trees) (K : List Sort) (low : ℕ) (M : ℕ → Option Sort) → AreOpen K low M ts → AllByRecursion (IsThere K) (constants_of_all ts)
  opens-constants Nil K low M h = tt
  opens-constants (Cons t ts) K low M h =
      both (IsThere K) (constants_of t) (constants_of_all ts) (open-constants t K low M h.0) (opens-constants ts K low M h.1)

-- it has a sort
abbrev HasItsSort : Tree → Type 0
HasItsSort t = tree_sort t ≡ Some (sort_of t)

pub there : (o : Option Sort) → IsSome o → o ≡ Some (unwrap_or o BoolSort)
there None h = absurd (cc)
there (Some s) h = refl

pub of-bool : (o : Option Sort) → o ≡ Some BoolSort → IsSome (closed_sort o)
of-bool o e = subst (λ (q : Option Sort). IsSome (closed_sort q)) (sym e) refl

pub open-sort : (t : Tree) (K : List Sort) (low : ℕ) (M : ℕ → Option Sort) → IsOpen K low M t → tree_sort t ≡ Some (sort_of t)
open-sort (Constant i s) K low M h = refl
open-sort (Variable l s) K low M h = refl
open-sort (Literal s n) K low M h = refl
open-sort (Apply o ts) K low M h = there (tree_sort (Apply o ts)) h.1
open-sort (ForAll l s body) K low M h = there (closed_sort (tree_sort body)) (of-bool (tree_sort body) h.3)
open-sort (Exists l s body) K low M h = there (closed_sort (tree_sort body)) (of-bool (tree_sort body) h.3)

-- trees in a list
pub sorts-in_trees : (ts : List Tree) → AllByRecursion (λ t. tree_sort t ≡ Some (sort_of t)) ts → tree_sorts (in_trees ts) ≡ Some (map (λ t. sort_of t) ts)
sorts-in_trees [] h = refl
sorts-in_trees (t ∷ ts) h =
    let step : tree_sorts (in_trees (t ∷ ts)) ≡ option_and_then (λ s. option_map (λ sorts. s ∷ sorts) (tree_sorts (in_trees ts))) (Some (sort_of t)) =
    ap (λ (o : Option Sort). option_and_then (λ s. option_map (λ sorts. s ∷ sorts) (tree_sorts (in_trees ts))) o) h.0 in
    step ∙ ap (λ (o : Option (List Sort)). option_map (λ sorts. sort_of t ∷ sorts) o) (sorts-in_trees ts h.1)

opens-in_trees : (ts : List Tree) (K : List Sort) (low : ℕ) (M : ℕ → Option Sort) → AllByRecursion (IsOpen K low M) ts → AreOpen K low M (in_trees ts)
opens-in_trees [] K low M h = tt
opens-in_trees (t ∷ ts) K low M h = (h.0, opens-in_trees ts K low M h.1)

opens-sorts : (ts : List Tree) (K : List Sort) (low : ℕ) (M : ℕ → Option Sort) → AllByRecursion (IsOpen K low M) ts → AllByRecursion (λ t. tree_sort t ≡ Some (sort_of t)) ts
opens-sorts [] K low M h = tt
opens-sorts (t ∷ ts) K low M h = (open-sort t K low M h.0, opens-sorts ts K low M h.1)

-- an application without a rank fault
pub open-apply : (o : Op) (ts : List Tree) (K : List Sort) (low : ℕ) (M : ℕ → Option Sort) → AllByRecursion (IsOpen K low M) ts → fault_of o (map (λ t. sort_of t) ts) ≡ None → IsOpen K low M (Apply o (in_trees ts))
open-apply o ts K low M h e =
    let sorts = sorts-in_trees ts (opens-sorts ts K low M h) in
    let ranked : is_some (result_sort o (map (λ t. sort_of t) ts)) ≡ true = sym (agreement o (map (λ t. sort_of t) ts)) ∙ ap (λ f. is_none f) e in
    (opens-in_trees ts K low M h, subst (λ (q : Option (List Sort)). IsSome (option_and_then (result_sort o) q)) (sym sorts) ranked)
