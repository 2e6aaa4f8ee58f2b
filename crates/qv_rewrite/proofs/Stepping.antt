-- Steps of a sweep over the terms of a store.
use Rattle.std.proofs.Common.{◌≡◌, ℕ, ◌<◌, ◌≤◌, inl, inr, true, false, Option, Some, None, IsSome, List, [], ◌∷◌, length, nat_eq, refl, sym, ap, ◌∙◌, subst, arith, All}
use Rattle.std.specs.Prelude.{unwrap_or, option_and_then, is_some}
use Rattle.std.specs.List.{AllByRecursion, Contains}
use Rattle.std.specs.HashMap.{get}
use Rattle.std.proofs.lemmas.Bool.{cases_lt}
use Rattle.std.proofs.lemmas.List.Elements.{All-contains, All-from_recursion}
use Rattle.qv_words.specs.declared.sort.Sort.{Sort}
use Rattle.qv_words.specs.declared.op.Op.{Op}
use Rattle.qv_words.specs.Rank.{result_sort}
use Rattle.qv_words.specs.Tree.{Tree, Apply, Cons, tree_sort, tree_sorts, IsQuantifierFree, AreQuantifierFree}
use Rattle.qv_words.specs.Sorted.{IsSorted}
use Rattle.qv_words.proofs.Ranks.{few_arguments, sorts_parts}
use Rattle.qv_words.proofs.Passing.{keeps-apply}
use Rattle.qv_store.specs.Nodes.{tree_at, trees_at}
use Rattle.qv_store.specs.Stores.{AreShared}
use Rattle.qv_rewrite.specs.declared.args.Args.{Args}
use Rattle.qv_rewrite.specs.declared.args.Args.TheVariants.{One, Two, Three}
use Rattle.qv_rewrite.specs.declared.rewriting.Rewriting.{Rewriting}
use Rattle.qv_rewrite.specs.Sweep.{remade, swept, swept_each}
use Rattle.qv_rewrite.specs.Made.{numbers_of, trees_of_args, AreArgsBelow}
use Rattle.qv_rewrite.specs.Steps.{MadeMap, AreSwept, AreMadeOf, IsMissing, IsReady}
use Rattle.qv_rewrite.proofs.Swept.{swept_each-keeps}

-- an application with a sort has at most three arguments
sorts-length : (trees : List Tree) (ns : List ℕ) (sorts : List Sort) → tree_sorts (trees_at trees ns) ≡ Some sorts → length sorts ≡ length ns
sorts-length trees [] sorts e = let none : sorts ≡ [] = cc in ap length none
sorts-length trees (n ∷ ns) sorts e =
    let parts = sorts_parts (tree_at trees n) (trees_at trees ns) sorts e in
    ap length parts.4 ∙ omega (arith, sorts-length trees ns parts.1 parts.3)

few-sorts : (o : Op) (q : Option (List Sort)) (n : ℕ) → ((sorts : List Sort) → q ≡ Some sorts → length sorts ≡ n) → 3 < n → option_and_then (result_sort o) q ≡ None
few-sorts o None n h many = refl
few-sorts o (Some sorts) n h many = let long : 3 < length sorts = omega (arith, many, h sorts refl) in few_arguments o sorts long

pub few-kids : (trees : List Tree) (o : Op) (ns : List ℕ) → IsSome (tree_sort (Apply o (trees_at trees ns))) → length ns ≤ 3
few-kids trees o ns h = elim (cases_lt 3 (length ns)) [
  | inl many ↦ let none = few-sorts o (tree_sorts (trees_at trees ns)) (length ns) (sorts-length trees ns) many in absurd (let x : true ≡ false = sym h ∙ ap is_some none in cc)
  | inr few ↦ few
]

-- an argument of which nothing was made yet
free-each : (trees : List Tree) (ns : List ℕ) → AreQuantifierFree (trees_at trees ns) → AllByRecursion (λ n. IsQuantifierFree (tree_at trees n)) ns
free-each trees [] h = tt
free-each trees (n ∷ ns) h = (h.0, free-each trees ns h.1)

pub missing-kid : (trees : List Tree) (made : MadeMap) (id : ℕ) (o : Op) (kids : List ℕ) (kid : ℕ) → All (λ n. n < id) kids → Apply o (trees_at trees kids) ≡ tree_at trees id → IsQuantifierFree (tree_at trees id) → Contains kids kid → get nat_eq made kid ≡ None → IsMissing trees made id kid
missing-kid trees made id o kids kid below is free among missing =
    let each : AreQuantifierFree (trees_at trees kids) = subst IsQuantifierFree (sym is) free in
    record {
      below = All-contains (λ n. n < id) kids kid below among;
      free = All-contains (λ n. IsQuantifierFree (tree_at trees n)) kids kid (All-from_recursion (λ n. IsQuantifierFree (tree_at trees n)) kids (free-each trees kids each)) among;
      missing = missing;
    }

-- what was made of arguments
made-trees : (rules : Rewriting) (trees : List Tree) (made : MadeMap) (ks ms : List ℕ) → AreSwept rules trees made → AreMadeOf made ks ms → trees_at trees ms ≡ swept_each rules (trees_at trees ks)
made-trees rules trees made [] [] h e = refl
made-trees rules trees made (k ∷ ks) (m ∷ ms) h e =
    ap (λ t. Cons t (trees_at trees ms)) ((h.stands k m e.0).tree) ∙ ap (Cons (swept rules (tree_at trees k))) (made-trees rules trees made ks ms h e.1)
made-trees rules trees made [] (m ∷ ms) h e = absurd e
made-trees rules trees made (k ∷ ks) [] h e = absurd e

made-below : (rules : Rewriting) (trees : List Tree) (made : MadeMap) (ks ms : List ℕ) → AreSwept rules trees made → AreMadeOf made ks ms → AllByRecursion (λ m. m < length trees) ms
made-below rules trees made [] [] h e = tt
made-below rules trees made (k ∷ ks) (m ∷ ms) h e = ((h.stands k m e.0).below, made-below rules trees made ks ms h e.1)
made-below rules trees made [] (m ∷ ms) h e = absurd e
made-below rules trees made (k ∷ ks) [] h e = absurd e

args-below : (n : ℕ) (args : Args) → AllByRecursion (λ m. m < n) (numbers_of args) → AreArgsBelow n args
args-below n (One a) h = h.0
args-below n (Two a b) h = (h.0, h.1.0)
args-below n (Three a b c) h = (h.0, h.1.0, h.1.1.0)

-- an application that is ready to be rebuilt
pub record IsRebuildable (rules : Rewriting) (trees : List Tree) (id : ℕ) (o : Op) (args : Args) : Type 0 where
  pub below : AreArgsBelow (length trees) args
  pub sorted : IsSorted (Apply o (trees_of_args trees args))
  pub whole : unwrap_or (remade rules o (trees_of_args trees args)) (Apply o (trees_of_args trees args)) ≡ swept rules (tree_at trees id)

pub rebuildable : (rules : Rewriting) (trees : List Tree) (made : MadeMap) (id : ℕ) (o : Op) (args : Args) → AreSwept rules trees made → AreShared trees → id < length trees → IsQuantifierFree (tree_at trees id) → IsReady trees made id (λ kids. Apply o (trees_at trees kids)) (numbers_of args) → IsRebuildable rules trees id o args
rebuildable rules trees made id o args h shared inside free ready =
    let us : trees_of_args trees args ≡ swept_each rules (trees_at trees ready.kids) = made-trees rules trees made ready.kids (numbers_of args) h ready.made_of in
    let sorted : IsSorted (Apply o (trees_at trees ready.kids)) = subst IsSorted ready.tree_is (shared.sorted id inside) in
    let plain : IsQuantifierFree (Apply o (trees_at trees ready.kids)) = subst IsQuantifierFree ready.tree_is free in
    let kept = keeps-apply o (trees_at trees ready.kids) (swept_each rules (trees_at trees ready.kids)) sorted.1 (swept_each-keeps rules (trees_at trees ready.kids) sorted.0 plain) in
    record {
      below = args-below (length trees) args (made-below rules trees made ready.kids (numbers_of args) h ready.made_of);
      sorted = subst (λ ts. IsSorted (Apply o ts)) (sym us) kept.sorted;
      whole = ap (λ ts. unwrap_or (remade rules o ts) (Apply o ts)) us ∙ ap (swept rules) (sym ready.tree_is);
    }
