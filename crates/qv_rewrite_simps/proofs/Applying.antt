-- What the steps of applications need of the terms that were made of their arguments.
use Rattle.std.proofs.Common.{◌≡◌, ℕ, ◌<◌, ◌≤◌, true, false, Option, Some, None, IsSome, List, [], ◌∷◌, length, get_or, slice_get, append-nil, refl, sym, ap, ◌∙◌, subst, arith, inl, inr}
use Rattle.std.specs.Prelude.{option_and_then, is_some}
use Rattle.std.specs.List.{AllByRecursion, AllZip}
use Rattle.std.proofs.lemmas.Bool.{cases_lt}
use Rattle.std.proofs.lemmas.Option.{slice_get_read}
use Rattle.qv_words.specs.declared.sort.Sort.{Sort}
use Rattle.qv_words.specs.declared.op.Op.{Op}
use Rattle.qv_words.specs.Rank.{result_sort}
use Rattle.qv_words.specs.Tree.{Tree, Trees, Constant, Variable, Literal, Apply, ForAll, Exists, Nil, Cons, tree_sort, tree_sorts, IsQuantifierFree, AreQuantifierFree}
use Rattle.qv_words.specs.Sorted.{IsSorted}
use Rattle.qv_words.proofs.Ranks.{sorts_parts, few_arguments}
use Rattle.qv_rewrite_passes.specs.Simps.{small, simp_node, simped, simped_each}
use Rattle.qv_rewrite_passes.proofs.Meanings.{same-apply}
use Rattle.qv_rewrite_passes.proofs.Simping.{small-same, each-same}
use Rattle.qv_store.specs.Nodes.{tree_at, trees_at}
use Rattle.qv_store.specs.Stores.{Grows, children_of}
use Rattle.qv_store.specs.Walks.{IsWalk, IsFound, named, with_subtrees}
use Rattle.qv_store.proofs.Passes.{EachTree, each-of-walk}
use Rattle.qv_store.proofs.Replacement.{grown-tree, walk-low}
use Rattle.qv_rewrite_simps.specs.declared.args.Args.{Args}
use Rattle.qv_rewrite_simps.specs.declared.args.Args.TheVariants.{One, Two, Three}
use Rattle.qv_rewrite_simps.specs.Held.{numbers_of, trees_of_args, AreArgsBelow, AreFree, AreSimped}
use Rattle.qv_rewrite_simps.proofs.Found.{stands-found}

-- what a small rule makes is sorted
pub small-sorted : (o : Op) (ts : Trees) (u : Tree) → IsSorted (Apply o ts) → IsQuantifierFree (Apply o ts) → Some u ≡ small o ts → IsSorted u
small-sorted o ts u h p e = (small-same o ts h p u (sym e)).sorted

-- an application with a sort has at most three arguments
sorts-length : (trees : List Tree) (ns : List ℕ) (sorts : List Sort) → tree_sorts (trees_at trees ns) ≡ Some sorts → length sorts ≡ length ns
sorts-length trees [] sorts e = let none : sorts ≡ [] = cc in ap length none
sorts-length trees (n ∷ ns) sorts e =
    let parts = sorts_parts (tree_at trees n) (trees_at trees ns) sorts e in
    ap length parts.4 ∙ omega (arith, sorts-length trees ns parts.1 parts.3)

few-sorts : (o : Op) (q : Option (List Sort)) (n : ℕ) → ((sorts : List Sort) → q ≡ Some sorts → length sorts ≡ n) → 3 < n → option_and_then (result_sort o) q ≡ None
few-sorts o None n h many = refl
few-sorts o (Some sorts) n h many = let long : 3 < length sorts = omega (arith, many, h sorts refl) in few_arguments o sorts long

pub few-kids : (trees : List Tree) (o : Op) (ns : List ℕ) → IsSome (tree_sort (Apply o (trees_at trees ns))) → length ns ≤ 3
few-kids trees o ns h = elim (cases_lt 3 (length ns)) [
  | inl many ↦ let none = few-sorts o (tree_sorts (trees_at trees ns)) (length ns) (sorts-length trees ns) many in absurd (let x : true ≡ false = sym h ∙ ap is_some none in cc)
  | inr few ↦ few
]

-- the terms that were made of arguments
each-made : (trees : List Tree) (ids made kids numbers : List ℕ) → AreSimped trees (tree_at trees) ids made → AllZip (IsFound ids made) kids numbers → trees_at trees numbers ≡ simped_each (trees_at trees kids)
each-made trees ids made [] [] h zip = refl
each-made trees ids made [] (m ∷ ms) h zip = absurd zip
each-made trees ids made (k ∷ ks) [] h zip = absurd zip
each-made trees ids made (k ∷ ks) (m ∷ ms) h zip =
    ap (λ (t : Tree). Cons t (trees_at trees ms)) (stands-found trees (tree_at trees) ids made k m h zip.0).tree
    ∙ ap (Cons (simped (tree_at trees k))) (each-made trees ids made ks ms h zip.1)

each-below : (trees : List Tree) (ids made kids numbers : List ℕ) → AreSimped trees (tree_at trees) ids made → AllZip (IsFound ids made) kids numbers → AllByRecursion (λ m. m < length trees) numbers
each-below trees ids made [] [] h zip = tt
each-below trees ids made [] (m ∷ ms) h zip = absurd zip
each-below trees ids made (k ∷ ks) [] h zip = tt
each-below trees ids made (k ∷ ks) (m ∷ ms) h zip = ((stands-found trees (tree_at trees) ids made k m h zip.0).below, each-below trees ids made ks ms h zip.1)

args-below : (n : ℕ) (args : Args) → AllByRecursion (λ m. m < n) (numbers_of args) → AreArgsBelow n args
args-below n (One a) h = h.0
args-below n (Two a b) h = (h.0, h.1.0)
args-below n (Three a b c) h = (h.0, h.1.0, h.1.1.0)

-- an application whose arguments were made
pub record IsReady (trees : List Tree) (t : Tree) (o : Op) (args : Args) : Type 0 where
  pub below : AreArgsBelow (length trees) args
  pub sorted : IsSorted (Apply o (trees_of_args trees args))
  pub free : IsQuantifierFree (Apply o (trees_of_args trees args))
  pub whole : simp_node o (trees_of_args trees args) ≡ simped t

pub ready : (trees : List Tree) (ids made kids : List ℕ) (t : Tree) (o : Op) (args : Args) → t ≡ Apply o (trees_at trees kids) → IsSorted t → IsQuantifierFree t → AreSimped trees (tree_at trees) ids made → AllZip (IsFound ids made) kids (numbers_of args) → IsReady trees t o args
ready trees ids made kids t o args is sorted free h zip =
    let ts = trees_at trees kids in
    let own : IsSorted (Apply o ts) = subst IsSorted is sorted in
    let plain : IsQuantifierFree (Apply o ts) = subst IsQuantifierFree is free in
    let same = same-apply o ts (simped_each ts) own.1 (each-same ts own.0 plain) in
    let each : trees_of_args trees args ≡ simped_each ts = each-made trees ids made kids (numbers_of args) h zip in
    record {
      below = args-below (length trees) args (each-below trees ids made kids (numbers_of args) h zip);
      sorted = subst (λ (us : Trees). IsSorted (Apply o us)) (sym each) same.sorted;
      free = subst (λ (us : Trees). IsQuantifierFree (Apply o us)) (sym each) same.free;
      whole = ap (simp_node o) each ∙ sym (ap simped is);
    }

-- a walk's terms have no quantifiers, where that from which it began has none
each-free : (ts : Trees) → AreQuantifierFree ts → EachTree IsQuantifierFree ts
each-free Nil h = tt
each-free (Cons t ts) h = (h.0, each-free ts h.1)

inherit-free : (t : Tree) → IsQuantifierFree t → EachTree IsQuantifierFree (children_of t)
inherit-free (Constant i s) h = tt
inherit-free (Variable l s) h = tt
inherit-free (Literal s n) h = tt
inherit-free (Apply o ts) h = each-free ts h
inherit-free (ForAll l s t) h = absurd h
inherit-free (Exists l s t) h = absurd h

pub all-free : (trees : List Tree) (ids : List ℕ) (n : ℕ) → named trees ids ≡ with_subtrees [] (tree_at trees n) → IsQuantifierFree (tree_at trees n) → AreFree trees ids
all-free trees ids n order free k m at = each-of-walk IsQuantifierFree inherit-free trees ids n order free k m at

pub free-item : (old now : List Tree) (items ids : List ℕ) (k n : ℕ) → Grows old now → items ≡ ids → k < length items → n ≡ get_or items k n → IsWalk old ids → AreFree old ids → IsQuantifierFree (tree_at now n)
free-item old now items ids k n grows same low at walk free =
    let there : slice_get ids k ≡ Some n = subst (λ (js : List ℕ). slice_get js k ≡ Some n) same (slice_get_read items (length items) k n refl low at) in
    subst IsQuantifierFree (sym (grown-tree old now grows n (walk-low old ids walk k n there))) (free k n there)

pub grows-itself : (trees : List Tree) → Grows trees trees
grows-itself trees = record { more = []; behind = sym (append-nil trees) }
