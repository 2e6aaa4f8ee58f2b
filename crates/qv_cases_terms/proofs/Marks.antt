-- Terms that are marked where a variable of a level may be free, and what may be asserted.
use Rattle.std.proofs.Common.{◌≡◌, ◌≢◌, ℕ, ◌+◌, ◌<◌, ◌≤◌, ◌⊎◌, inl, inr, Bool, true, false, not, List, [], ◌∷◌, ◌++◌, Some, length, map, take, get_or, slice_get, refl, ap, subst, sym, ◌∙◌, arith, length-append}
use Rattle.std.specs.Prelude.{All, Option, None, IfSome, IsTrue}
use Rattle.std.specs.List.{AllByRecursion}
use Rattle.std.proofs.lemmas.List.{get_or-map, length-map, get_or_append_left, get_or_push, take_more, take_all}
use Rattle.std.proofs.lemmas.Bool.{cases_lt}
use Rattle.std.proofs.lemmas.List.Elements.{recursion_from_All, All-from_recursion, All-push}
use Rattle.qv_words.specs.declared.op.Op.{Op}
use Rattle.qv_words.specs.declared.sort.Sort.{Sort}
use Rattle.qv_words.specs.Tree.{Tree, Apply, ForAll}
use Rattle.qv_words.specs.Sorted.{free_levels, free_levels_of_all, but_level, constants_of}
use Rattle.qv_words.specs.Truth.{IsAssertion, constants_of_each}
use Rattle.qv_store.specs.Nodes.{tree_at, trees_at}
use Rattle.qv_store.specs.Stores.{AreShared}
use Rattle.qv_cases_terms.specs.Leaves.{AreFitBelow, IsSortAt, IsBelow}
use Rattle.qv_cases_terms.specs.Free.{IsFreeOf, AreFreeOf}
use Rattle.qv_cases_terms.specs.Posable.{IsFormulaAt, MayBePosed}
use Rattle.qv_cases_terms.proofs.AllLeaves.{both, all-but, but-apart, leaves}

-- the arguments of an application
pub kids-free : (level : ℕ) (trees : List Tree) (free : List Bool) (kids : List ℕ) → AreFreeOf level trees free → AllByRecursion (λ k. k < length free) kids →
    AllByRecursion (λ k. get_or free k false ≡ false) kids → AllByRecursion (λ leaf. leaf.0 ≢ level) (free_levels_of_all (trees_at trees kids))
kids-free level trees free [] marks low none = tt
kids-free level trees free (k ∷ ks) marks low none =
    both (λ leaf. leaf.0 ≢ level) (free_levels (tree_at trees k)) (free_levels_of_all (trees_at trees ks))
    (marks k low.0 none.0) (kids-free level trees free ks marks low.1 none.1)

-- one mark more
pub marks-more : (level : ℕ) (trees : List Tree) (free : List Bool) (b : Bool) → AreFreeOf level trees free →
    (b ≡ false → IsFreeOf level (tree_at trees (length free))) → AreFreeOf level trees (free ++ b ∷ [])
marks-more level trees free b marks h n lt e = go (cases_lt n (length free))
  where
    go : (n < length free) ⊎ (length free ≤ n) → IsFreeOf level (tree_at trees n)
    go (inl low) = marks n low (sym (get_or_append_left free (b ∷ []) false n low) ∙ e)
    go (inr high) =
        let last : n ≡ length free = omega (arith, lt, high, length-append free (b ∷ [])) in
        subst (λ m. IsFreeOf level (tree_at trees m)) (sym last) (h (sym (get_or_push free b false n (sym last)) ∙ e))

-- a term of which all leaves have levels below, and none of these is free, is closed
none-left : (levels : ℕ) (xs : List (ℕ × Sort)) → AllByRecursion (IsBelow levels) xs →
    ((level : ℕ) → level < levels → AllByRecursion (λ leaf. leaf.0 ≢ level) xs) → xs ≡ []
none-left levels [] below apart = refl
none-left levels (x ∷ xs) below apart = absurd ((apart x.0 below.0).0 refl)

assertion : (sorts : List Sort) (trees : List Tree) (levels n : ℕ) → AreShared trees → IsFormulaAt trees n →
    AreFitBelow (IsSortAt sorts) (IsBelow levels) trees (length trees) →
    ((level : ℕ) → level < levels → IsFreeOf level (tree_at trees n)) → IsAssertion (tree_at trees n)
assertion sorts trees levels n shared formula fit closed =
    let all = leaves (IsSortAt sorts) (IsBelow levels) trees shared fit (tree_at trees n) n (record { below = formula.below; tree = refl }) in
    record {
      sorted = shared.sorted n formula.below;
      bool = formula.bool;
      closed = none-left levels (free_levels (tree_at trees n)) all.1 closed;
    }

constants-fit : (sorts : List Sort) (trees : List Tree) (levels : ℕ) (ns : List ℕ) → AreShared trees → AllByRecursion (IsFormulaAt trees) ns →
    AreFitBelow (IsSortAt sorts) (IsBelow levels) trees (length trees) → AllByRecursion (IsSortAt sorts) (constants_of_each (map (tree_at trees) ns))
constants-fit sorts trees levels [] shared h fit = tt
constants-fit sorts trees levels (n ∷ ns) shared h fit =
    let all = leaves (IsSortAt sorts) (IsBelow levels) trees shared fit (tree_at trees n) n (record { below = h.0.below; tree = refl }) in
    both (IsSortAt sorts) (constants_of (tree_at trees n)) (constants_of_each (map (tree_at trees) ns)) all.0 (constants-fit sorts trees levels ns shared h.1 fit)

same-sort : (sorts : List Sort) (a b : ℕ × Sort) → IsSortAt sorts a → IsSortAt sorts b → a.0 ≡ b.0 → a.1 ≡ b.1
same-sort sorts a b ha hb e =
    let both-some : Some a.1 ≡ Some b.1 = sym ha ∙ ap (slice_get sorts) e ∙ hb in
    cc

pub may-be-posed : (sorts : List Sort) (trees : List Tree) (levels : ℕ) (ids : List ℕ) → AreShared trees → All (IsFormulaAt trees) ids →
    AreFitBelow (IsSortAt sorts) (IsBelow levels) trees (length trees) →
    ((level : ℕ) → level < levels → All (λ n. IsFreeOf level (tree_at trees n)) ids) → MayBePosed trees ids
may-be-posed sorts trees levels ids shared formulas fit closed = record {
  ids_below = λ k d lt. (formulas k d lt).below;
  assertions = λ k d lt.
      let within : k < length ids = omega (arith, lt, length-map ids (tree_at trees)) in
      subst IsAssertion (sym (get_or-map (tree_at trees) ids k 0 d within))
      (assertion sorts trees levels (get_or ids k 0) shared (formulas k 0 within) fit (λ level low. closed level low k 0 within));
  sorts = λ i j e lt within.
      let cs = constants_of_each (map (tree_at trees) ids) in
      let all : All (IsSortAt sorts) cs =
      All-from_recursion (IsSortAt sorts) cs (constants-fit sorts trees levels ids shared (recursion_from_All (IsFormulaAt trees) ids formulas) fit) in
      same-sort sorts (get_or cs i e) (get_or cs j e) (all i e (omega (arith, lt, within))) (all j e within);
}

-- what holds of all numbers so far, and of one more
pub all-more : (P : ℕ → Type 0) (ns : List ℕ) (i n : ℕ) → i < length ns → n ≡ get_or ns i n → P n → All P (take i ns) → All P (take (i + 1) ns)
all-more P ns i n lt e p h =
    subst (λ (xs : List ℕ). All P xs) (sym (take_more ns i n lt ∙ ap (λ m. take i ns ++ m ∷ []) (sym e)))
    (All-push P (take i ns) n h p)

pub all-whole : (P : ℕ → Type 0) (ns : List ℕ) (i : ℕ) → length ns ≤ i → All P (take i ns) → All P ns
all-whole P ns i le h = subst (λ (xs : List ℕ). All P xs) (take_all i ns le) h

-- the arguments of an application, and the body of a quantifier
pub apply-free : (level : ℕ) (trees : List Tree) (free : List Bool) (o : Op) (kids : List ℕ) → AreFreeOf level trees free → All (λ k. k < length free) kids →
    All (λ k. get_or free k false ≡ false) kids → IsFreeOf level (Apply o (trees_at trees kids))
apply-free level trees free o kids marks low none =
    kids-free level trees free kids marks (recursion_from_All (λ k. k < length free) kids low) (recursion_from_All (λ k. get_or free k false ≡ false) kids none)

pub other-free : (level l : ℕ) (s : Sort) (body : Tree) → IsFreeOf level body → IsFreeOf level (ForAll l s body)
other-free level l s body h = all-but (λ leaf. leaf.0 ≢ level) l (free_levels body) h

pub own-free : (level l : ℕ) (s : Sort) (body : Tree) → l ≡ level → IsFreeOf level (ForAll l s body)
own-free level l s body e =
    subst (λ k. AllByRecursion (λ leaf. leaf.0 ≢ k) (but_level l (free_levels body))) e (but-apart l (free_levels body))

-- one level more
pub levels-more : (n : ℕ) (trees : List Tree) (ids : List ℕ) (free : List Bool) → ((level : ℕ) → level < n → All (λ id. IsFreeOf level (tree_at trees id)) ids) →
    AreFreeOf n trees free → All (λ id. id < length free) ids → All (λ id. get_or free id false ≡ false) ids →
    (level : ℕ) → level < n + 1 → All (λ id. IsFreeOf level (tree_at trees id)) ids
levels-more n trees ids free before marks low none level lt = go (cases_lt level n)
  where
    go : (level < n) ⊎ (n ≤ level) → All (λ id. IsFreeOf level (tree_at trees id)) ids
    go (inl less) = before level less
    go (inr more) =
        let same : n ≡ level = omega (arith, lt, more) in
        λ k d within. subst (λ m. IsFreeOf m (tree_at trees (get_or ids k d))) same (marks (get_or ids k d) (low k d within) (none k d within))

-- a quantifier over a body that isn't marked, or over this level
pub binder-free : (level l : ℕ) (s : Sort) (trees : List Tree) (free : List Bool) (body : ℕ) → AreFreeOf level trees free → body < length free →
    (l ≡ level) ⊎ (get_or free body false ≡ false) → IsFreeOf level (ForAll l s (tree_at trees body))
binder-free level l s trees free body marks low (inl e) = own-free level l s (tree_at trees body) e
binder-free level l s trees free body marks low (inr e) = other-free level l s (tree_at trees body) (marks body low e)

pub unmarked : (b : Bool) → not b ≡ false → b ≡ true
unmarked true e = refl
unmarked false e = sym e

pub node-apply-free : (level : ℕ) (trees : List Tree) (free : List Bool) (n : ℕ) (o : Op) (kids : List ℕ) → AreFreeOf level trees free → n ≤ length free →
    All (λ k. k < n) kids → All (λ k. get_or free k false ≡ false) kids → Apply o (trees_at trees kids) ≡ tree_at trees n → IsFreeOf level (tree_at trees n)
node-apply-free level trees free n o kids marks le low none is =
    subst (IsFreeOf level) is (apply-free level trees free o kids marks (λ k d lt. let less = low k d lt in omega (arith, less, le)) none)

-- what follows where a test that may have run out of memory holds
pub some-more : {A B : Type 0} → (o : Option Bool) → IfSome o (λ b. IsTrue b → A) → (A → B) → IfSome o (λ b. IsTrue b → B)
some-more None h f = tt
some-more (Some b) h f = λ e. f (h e)
