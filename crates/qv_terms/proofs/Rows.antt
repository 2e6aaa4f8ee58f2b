-- The view of an application, by the list of its terms.
use Rattle.std.proofs.Common.{◌≡◌, ◌≢◌, ℕ, zero, suc, ◌+◌, ◌<◌, ◌≤◌, List, [], ◌∷◌, length, get_or, set, take, Vec, Global, Option, Some, None, Result, Ok, Err, IfOk, OnErr, refl, sym, ap, ◌∙◌, arith, below_more}
use Rattle.std.specs.Prelude.{option_and_then, option_map, ok_or}
use Rattle.std.proofs.lemmas.List.{get_or-set_same, get_or-set_other, get_or_default}
use mathlib.Core.Former.{Count}
use Rattle.qv_words.specs.declared.op.Op.{Op}
use Rattle.qv_words.specs.declared.sort.Sort.{Sort}
use Rattle.qv_words.specs.declared.sort.Sort.TheVariants.{Bool}
use Rattle.qv_words.specs.Rank.{result_sort}
use Rattle.qv_words.specs.Tree.{Apply, Cons, tree_sort, tree_sorts}
use Rattle.qv_words.proofs.Ranks.{few_arguments, sorts_parts}
use Rattle.qv_terms.specs.declared.term.Term.{Term, App, App', Row_of-Term, end_of-Term, more_of-Term, items-the_row-Term, items_hidden-the_row-Term-0}
use Rattle.qv_terms.specs.View.{tree, row_trees, trees}

abbrev row_of : Term → (n : Count) × Row_of-Term n
row_of (App' _ _ row) = (_, row)
row_of _ = (_, end_of-Term)

rows : (n : _) (row : Row_of-Term n) → row_trees row ≡ trees (items-the_row-Term n row)
rows n end_of-Term = refl
rows n (more_of-Term t rest) = ap (Cons (tree t)) (rows _ rest)

-- the tree of an application is that of its operator and its terms' trees
pub tree-App : (o : Op) (kids : Vec Term Global) → tree (App o kids) ≡ Apply o (trees kids.items)
tree-App o kids =
    let row = row_of (App o kids) in ap (Apply o) (rows row.0 row.1 ∙ ap trees (items_hidden-the_row-Term-0 kids))

-- there are as many sorts as terms
pub length-tree_sorts : (ts : List Term) (sorts : List Sort) → tree_sorts (trees ts) ≡ Some sorts → length sorts ≡ length ts
length-tree_sorts [] sorts e = let none : sorts ≡ [] = cc in ap length none
length-tree_sorts (t ∷ ts) sorts e =
    let parts = sorts_parts (tree t) (trees ts) sorts e in
    ap length parts.4 ∙ omega (arith, length-tree_sorts ts parts.1 parts.3)

-- too many arguments have no rank
pub too_many : (o : Op) (ts : List Term) → 3 < length ts → tree_sort (Apply o (trees ts)) ≡ None
too_many o ts h = go (tree_sorts (trees ts)) refl
  where
    go : (p : Option (List Sort)) → tree_sorts (trees ts) ≡ p → option_and_then (result_sort o) p ≡ None
    go None e = refl
    go (Some sorts) e = let long : 3 < length sorts = omega (arith, h, length-tree_sorts ts sorts e) in few_arguments o sorts long

-- where each term has the sort in its place, these are the sorts of the list
pub tree_sorts-each : (ts : List Term) (ss : List Sort) → length ts ≤ length ss → ((k : ℕ) (d : Term) → k < length ts → tree_sort (tree (get_or ts k d)) ≡ Some (get_or ss k Bool)) → tree_sorts (trees ts) ≡ Some (take (length ts) ss)
tree_sorts-each [] ss long each = refl
tree_sorts-each (t ∷ ts) [] long each = absurd (omega (arith, long))
tree_sorts-each (t ∷ ts) (s ∷ ss) long each =
    let first : tree_sort (tree t) ≡ Some s = each 0 t (omega arith) in
    let others : tree_sorts (trees ts) ≡ Some (take (length ts) ss) =
    tree_sorts-each ts ss (omega (arith, long)) (λ k d h. each (suc k) d (omega (arith, h))) in
    rw (first, others)

-- where a term has none, the list has none
pub tree_sorts-missing : (ts : List Term) (i : ℕ) (d : Term) → i < length ts → tree_sort (tree (get_or ts i d)) ≡ None → tree_sorts (trees ts) ≡ None
tree_sorts-missing [] i d h e = absurd (omega (arith, h))
tree_sorts-missing (t ∷ ts) zero d h e = ap (option_and_then (λ s. option_map (λ sorts. s ∷ sorts) (tree_sorts (trees ts)))) e
tree_sorts-missing (t ∷ ts) (suc i) d h e =
    let others : tree_sorts (trees ts) ≡ None = tree_sorts-missing ts i d (omega (arith, h)) e in
    rw others (none_then (tree_sort (tree t)))
  where
    none_then : (o : Option Sort) → option_and_then (λ s. option_map (λ (sorts : List Sort). s ∷ sorts) None) o ≡ None
    none_then None = refl
    none_then (Some s) = refl

-- the sort of the next term goes into its place
pub sorts-more : (ts : List Term) (ss : List Sort) (i : ℕ) (t : Term) (s : Sort) → i < length ts → i < length ss → t ≡ get_or ts i t → tree_sort (tree t) ≡ Some s → ((k : ℕ) (d : Term) → k < i → tree_sort (tree (get_or ts k d)) ≡ Some (get_or ss k Bool)) → (k : ℕ) (d : Term) → k < i + 1 → tree_sort (tree (get_or ts k d)) ≡ Some (get_or (set ss i s) k Bool)
sorts-more ts ss i t s in_terms in_sorts at sort before k d h =
    let P : ℕ → Type 0 = λ k. (d : Term) → tree_sort (tree (get_or ts k d)) ≡ Some (get_or (set ss i s) k Bool) in
    let earlier : (k : ℕ) → k < i → P k = λ k h d. let other : k ≢ i = omega arith in rw get_or-set_other (before k d h) in
    let here : P i = λ d.
    ap (λ x. tree_sort (tree x)) (get_or_default ts i d t in_terms ∙ sym at) ∙ sort ∙ ap Some (sym (get_or-set_same ss i s Bool in_sorts)) in
    below_more P i earlier here k h d

-- the sort of an application, from those of its arguments
pub tree_sort-each : (o : Op) (ts : List Term) (ss : List Sort) → length ts ≤ length ss → ((k : ℕ) (d : Term) → k < length ts → tree_sort (tree (get_or ts k d)) ≡ Some (get_or ss k Bool)) → tree_sort (Apply o (trees ts)) ≡ result_sort o (take (length ts) ss)
tree_sort-each o ts ss long each = ap (option_and_then (result_sort o)) (tree_sorts-each ts ss long each)

-- what `ok_or` makes of a sort
pub ok_or-sort : {E : Type 0} (o p : Option Sort) (r : Result Sort E) (e : E) → r ≡ ok_or o e → p ≡ o → IfOk r (λ sort. p ≡ Some sort) × OnErr r (p ≡ None)
ok_or-sort None p r e is same = rw is (tt, same)
ok_or-sort (Some s) p r e is same = rw is (same, tt)

-- an argument without a sort leaves its application without one
pub tree_sort-missing : (o : Op) (ts : List Term) (i : ℕ) (t : Term) → i < length ts → t ≡ get_or ts i t → tree_sort (tree t) ≡ None → tree_sort (Apply o (trees ts)) ≡ None
tree_sort-missing o ts i t h at none =
    ap (option_and_then (result_sort o)) (tree_sorts-missing ts i t h (ap (λ x. tree_sort (tree x)) (sym at) ∙ none))

-- what holds whatever a result is
pub on_err : {A E : Type 0} (r : Result A E) (P : Type 0) → P → OnErr r P
on_err (Ok x) P p = tt
on_err (Err e) P p = p
