-- A definition's body with arguments put in, term by term.
use Rattle.std.proofs.Common.{◌≡◌, ℕ, ◌<◌, ◌⊎◌, inl, inr, Bool, true, false, cond, List, [], ◌∷◌, ◌++◌, length, get_or, slice_get, Option, Some, None, refl, ap, subst, sym, ◌∙◌, arith}
use Rattle.std.specs.Prelude.{◌==◌, not, All, IfSome, nat_lt, unwrap_or}
use Rattle.std.specs.Bool.{OnFalse}
use Rattle.std.specs.List.{AllByRecursion, AllZip}
use Rattle.std.proofs.lemmas.Bool.Decides.{nat_tests}
use Rattle.std.proofs.lemmas.List.Elements.{recursion_from_All, All-from_recursion}
use Rattle.std.proofs.lemmas.Option.{slice_get_within, slice_get-get_or}
use Rattle.qv_words.specs.declared.sort.Sort.{Sort}
use Rattle.qv_words.specs.Tree.{Tree, Trees, Constant, Variable, Literal, Apply, ForAll, Exists, Nil, Cons, IsQuantifierFree, AreQuantifierFree}
use Rattle.qv_words.specs.Sorted.{IsSorted, IsSortedBelow, AreSortedBelow, with_level, no_levels, but_level, free_levels, free_levels_of_all}
use Rattle.qv_words.proofs.Leaves.{front, back, below, at_level, past_level}
use Rattle.qv_words.proofs.Elements.{all-at, all-of, pushed-cases, get-map}
use Rattle.qv_store.specs.declared.node.Node.{Node}
use Rattle.qv_store.specs.declared.node.Node.TheVariants.{Const, Var, Lit, App, Ex}
use Rattle.qv_store.specs.declared.node.Node.TheVariants.{All as AllNode}
use Rattle.qv_store.specs.Nodes.{tree_at, trees_at, children, node_tree, HasChildrenBelow}
use Rattle.qv_store.specs.Stores.{StandsAt, Grows, children_of}
use Rattle.qv_store.specs.Walks.{IsWalk, IsFound, named, with_subtrees}
use Rattle.qv_store.specs.Replacing.{first_of}
use Rattle.qv_store.proofs.Passes.{EachTree, each-of-walk}
use Rattle.qv_store.proofs.Evaluation.{item-at}
use Rattle.qv_store.proofs.Replacement.{grown-tree, grown-within, grown-walk, grown-stands, walk-low}
use Rattle.qv_elab_defs.specs.Putting.{moved_level, put_in, put_in_each}
use Rattle.qv_elab_macros.specs.PutIn.{with_args, arg_for, moved_top, IsMoved, ArePut, IsNextIn}
use Rattle.qv_elab_defs.proofs.NamedTrees.{named-kept}
use Rattle.qv_elab_defs.proofs.SortedBelow.{IsKept, sorted-kept, sorted-alone}

-- what is sorted with the arguments put in has subtrees that are so
module _ (k binders : ℕ) (given : List Tree) where
  each-sorted : (ts : Trees) → AreSortedBelow no_levels (put_in_each k binders given ts) → EachTree (λ t. IsSorted (put_in k binders given t)) ts
  each-sorted Nil h = tt
  each-sorted (Cons t ts) h = (h.0, each-sorted ts h.1)

  inherit-sorted : (t : Tree) → IsSorted (put_in k binders given t) → EachTree (λ u. IsSorted (put_in k binders given u)) (children_of t)
  inherit-sorted (Constant i s) h = tt
  inherit-sorted (Variable l s) h = tt
  inherit-sorted (Literal s n) h = tt
  inherit-sorted (Apply o ts) h = each-sorted ts h.0
  inherit-sorted (ForAll l s body) h = (sorted-alone (put_in k binders given body) (with_level no_levels (moved_level k binders l) s) h.1, tt)
  inherit-sorted (Exists l s body) h = (sorted-alone (put_in k binders given body) (with_level no_levels (moved_level k binders l) s) h.1, tt)

-- an argument's place
not-there : (xs : List ℕ) (l : ℕ) → slice_get xs l ≡ None → nat_lt l (length xs) ≡ false
not-there xs l e = go (nat_lt l (length xs)) refl
  where
    go : (b : Bool) → nat_lt l (length xs) ≡ b → b ≡ false
    go false h = refl
    go true h =
        let lt : l < length xs = grind (arith, nat_tests) in
        let some = slice_get-get_or xs l 0 lt in
        absurd (cc)

-- what was made of children
module _ (trees : List Tree) (binders : ℕ) (args ids made : List ℕ) (right : ArePut trees (with_args trees binders args) (tree_at trees) ids made) where
  made-trees : (kids new : List ℕ) → AllZip (IsFound ids made) kids new → trees_at trees new ≡ put_in_each (length args) binders (named trees args) (trees_at trees kids)
  made-trees [] [] h = refl
  made-trees [] (n ∷ ns) h = absurd h
  made-trees (k ∷ ks) [] h = absurd h
  made-trees (k ∷ ks) (n ∷ ns) h =
      let first : tree_at trees n ≡ with_args trees binders args (tree_at trees k) = (right h.0.place k n h.0.at h.0.found).tree in
      ap (λ t. Cons t (trees_at trees ns)) first ∙ ap (Cons (with_args trees binders args (tree_at trees k))) (made-trees ks ns h.1)

  made-low : (kids new : List ℕ) → AllZip (IsFound ids made) kids new → AllByRecursion (λ n. n < length trees) new
  made-low [] [] h = tt
  made-low [] (n ∷ ns) h = absurd h
  made-low (k ∷ ks) [] h = absurd h
  made-low (k ∷ ks) (n ∷ ns) h = ((right h.0.place k n h.0.at h.0.found).below, made-low ks ns h.1)

  -- a node for which no argument stands
  top-put : (node : Node) → arg_for args node ≡ None → (kids : List ℕ) → trees_at trees kids ≡ put_in_each (length args) binders (named trees args) (trees_at trees (children node))
      → moved_top (length args) binders node (trees_at trees kids) ≡ with_args trees binders args (node_tree trees node)
  top-put (Const i s) none kids e = refl
  top-put (Var l s) none kids e =
      ap (λ b. cond b (unwrap_or (slice_get (named trees args) l) (Variable l s)) (Variable (moved_level (length args) binders l) s)) (sym (not-there args l none))
  top-put (Lit w) none kids e = refl
  top-put (App o ks) none kids e = ap (Apply o) e
  top-put (AllNode l s body) none kids e = ap (λ ts. ForAll (moved_level (length args) binders l) s (first_of ts)) e
  top-put (Ex l s body) none kids e = ap (λ ts. Exists (moved_level (length args) binders l) s (first_of ts)) e

-- the node that is put
pub record IsPutNode (trees : List Tree) (binders : ℕ) (args : List ℕ) (n : ℕ) (new : Node) : Type 0 where
  pub children : HasChildrenBelow (length trees) new
  pub tree : node_tree trees new ≡ with_args trees binders args (tree_at trees n)
  pub sorted : IsSorted (node_tree trees new)

pub put-node : (trees : List Tree) (binders : ℕ) (args ids made : List ℕ) (n : ℕ) (node new : Node) → IsNextIn trees binders args ids made n
    → node_tree trees node ≡ tree_at trees n → arg_for args node ≡ None → IsMoved (length args) binders ids made node new → IsPutNode trees binders args n new
put-node trees binders args ids made n node new next tree none moved =
    let kids = made-trees trees binders args ids made next.made_before (Rattle.qv_store.specs.Nodes.children node) (Rattle.qv_store.specs.Nodes.children new) moved.found in
    let low = made-low trees binders args ids made next.made_before (Rattle.qv_store.specs.Nodes.children node) (Rattle.qv_store.specs.Nodes.children new) moved.found in
    let same : node_tree trees new ≡ with_args trees binders args (tree_at trees n) =
    moved.tree trees ∙ top-put trees binders args ids made next.made_before node none (Rattle.qv_store.specs.Nodes.children new) kids ∙ ap (with_args trees binders args) tree in
    record {
      children = All-from_recursion (λ k. k < length trees) (Rattle.qv_store.specs.Nodes.children new) low;
      tree = same;
      sorted = subst IsSorted (sym same) next.sorted;
    }

-- a variable for which an argument stands
pub put-arg : (trees : List Tree) (binders : ℕ) (args : List ℕ) (n m : ℕ) (node : Node) → All (λ arg. arg < length trees) args → node_tree trees node ≡ tree_at trees n → arg_for args node ≡ Some m
    → StandsAt trees m (with_args trees binders args (tree_at trees n))
put-arg trees binders args n m (Const i s) there tree e = absurd (cc)
put-arg trees binders args n m (Var l s) there tree e =
    let within : l < length args = slice_get_within args l m e in
    let test : nat_lt l (length args) ≡ true = grind (arith, nat_tests) in
    let at : slice_get (named trees args) l ≡ Some (tree_at trees m) = get-map (tree_at trees) args l m e in
    let own : with_args trees binders args (Variable l s) ≡ tree_at trees m =
    ap (λ b. cond b (unwrap_or (slice_get (named trees args) l) (Variable l s)) (Variable (moved_level (length args) binders l) s)) test ∙ ap (λ o. unwrap_or o (Variable l s)) at in
    record { below = all-at (λ k. k < length trees) args l m (recursion_from_All _ args there) e; tree = sym own ∙ ap (with_args trees binders args) tree }
put-arg trees binders args n m (Lit w) there tree e = absurd (cc)
put-arg trees binders args n m (App o ks) there tree e = absurd (cc)
put-arg trees binders args n m (AllNode l s body) there tree e = absurd (cc)
put-arg trees binders args n m (Ex l s body) there tree e = absurd (cc)

-- in a greater store
module _ (old new : List Tree) (grows : Grows old new) (binders : ℕ) (args : List ℕ) (there : All (λ arg. arg < length old) args) where
  args-kept : named new args ≡ named old args
  args-kept = named-kept old new grows args (recursion_from_All (λ arg. arg < length old) args there)

  pub with-kept : (n : ℕ) → n < length old → with_args new binders args (tree_at new n) ≡ with_args old binders args (tree_at old n)
  with-kept n low = ap (λ given. put_in (length args) binders given (tree_at new n)) args-kept ∙ ap (with_args old binders args) (grown-tree old new grows n low)

-- the loop over the terms of a walk
module _ (old new : List Tree) (walk items made args : List ℕ) (binders i n : ℕ) (grows : Grows old new) (same : items ≡ walk) (many : length made ≡ i) (h : i < length items)
    (is : n ≡ get_or items i n) (walks : IsWalk old walk) (there : All (λ arg. arg < length old) args) (right : ArePut new (with_args old binders args) (tree_at old) items made) where
  at-next : (lent : List ℕ) → lent ≡ made → slice_get walk (length lent) ≡ Some n
  at-next lent read = item-at items walk lent made i n same read many h is

  low-next : n < length old
  low-next = walk-low old walk walks (length made) n (at-next made refl)

  pub within-next : n < length new
  within-next = grown-within old new grows n low-next

  pub asked-next : (lent : List ℕ) → lent ≡ made → (root : ℕ) → named old walk ≡ with_subtrees [] (tree_at old root) → IsSorted (with_args old binders args (tree_at old root)) → IsNextIn new binders args walk lent n
  asked-next lent read root order sorted =
      let all = each-of-walk (λ t. IsSorted (with_args old binders args t)) (inherit-sorted (length args) binders (named old args)) old walk root order sorted in
      let own : ArePut new (with_args old binders args) (tree_at old) walk lent =
      subst (λ ms. ArePut new (with_args old binders args) (tree_at old) walk ms) (sym read) (subst (λ is. ArePut new (with_args old binders args) (tree_at old) is made) same right) in
      record {
        walk = grown-walk old new grows walk walks;
        at = at-next lent read;
        made_before = λ k m p e f.
            let within = walk-low old walk walks k m e in
            subst (λ t. StandsAt new p t) (sym (with-kept old new grows binders args there m within)) (own k m p e f);
        args_there = λ k d lt. grown-within old new grows (get_or args k d) (there k d lt);
        sorted = subst IsSorted (sym (with-kept old new grows binders args there n low-next)) (all (length lent) n (at-next lent read));
      }

  pub made-next : (newer : List Tree) (m : ℕ) (after : List ℕ) → Grows new newer → StandsAt newer m (with_args new binders args (tree_at new n)) → after ≡ made ++ m ∷ []
      → ArePut newer (with_args old binders args) (tree_at old) items after
  made-next newer m after grows' at pushed = subst (λ ms. ArePut newer (with_args old binders args) (tree_at old) items ms) (sym pushed) more
    where
      here : slice_get items (length made) ≡ Some n
      here = ap (λ is. slice_get is (length made)) same ∙ at-next made refl

      own : StandsAt newer m (with_args old binders args (tree_at old n))
      own = subst (StandsAt newer m) (with-kept old new grows binders args there n low-next) at

      more : ArePut newer (with_args old binders args) (tree_at old) items (made ++ m ∷ [])
      more k j p found stands = by (pushed-cases made m k p stands)
        where
          by : (slice_get made k ≡ Some p) ⊎ ((k ≡ length made) × (m ≡ p)) → StandsAt newer p (with_args old binders args (tree_at old j))
          by (inl e) = grown-stands new newer grows' p (with_args old binders args (tree_at old j)) (right k j p found e)
          by (inr e) =
              let same : Some n ≡ Some j = sym here ∙ sym (ap (slice_get items) e.0) ∙ found in
              let one : n ≡ j = cc in
              subst (λ q. StandsAt newer q (with_args old binders args (tree_at old j))) e.1 (subst (λ i. StandsAt newer m (with_args old binders args (tree_at old i))) one own)

pub made-none : (trees : List Tree) (put : Tree → Tree) (tree : ℕ → Tree) (ids made : List ℕ) → made ≡ [] → ArePut trees put tree ids made
made-none trees put tree ids made none k n m at here = let gone : slice_get [] k ≡ Some m = sym (ap (λ ms. slice_get ms k) none) ∙ here in absurd (cc)

-- where nothing is to be put in: no parameters, and no binder at the use
same-level : (l : ℕ) → moved_level 0 0 l ≡ l
same-level l = omega arith

put-level : (l : ℕ) (s : Sort) → put_in 0 0 [] (Variable l s) ≡ Variable l s
put-level l s =
    let none : nat_lt l 0 ≡ false = grind (arith, nat_tests) in
    ap (λ b. cond b (unwrap_or (slice_get [] l) (Variable l s)) (Variable (moved_level 0 0 l) s)) none ∙ ap (λ k. Variable k s) (same-level l)

mutual
  put-nothing : (t : Tree) → put_in 0 0 [] t ≡ t
  put-nothing (Constant i s) = refl
  put-nothing (Variable l s) = put-level l s
  put-nothing (Literal s n) = refl
  put-nothing (Apply o ts) = ap (Apply o) (put-nothing_each ts)
  put-nothing (ForAll l s body) = ap (λ k. ForAll k s (put_in 0 0 [] body)) (same-level l) ∙ ap (ForAll l s) (put-nothing body)
  put-nothing (Exists l s body) = ap (λ k. Exists k s (put_in 0 0 [] body)) (same-level l) ∙ ap (Exists l s) (put-nothing body)

  put-nothing_each : (ts : Trees) → put_in_each 0 0 [] ts ≡ ts
  put-nothing_each Nil = refl
  put-nothing_each (Cons t ts) = ap (λ u. Cons u (put_in_each 0 0 [] ts)) (put-nothing t) ∙ ap (Cons t) (put-nothing_each ts)

-- or no variable and no quantifier in the tree
abbrev IsNone : ℕ × Sort → Type 0
IsNone leaf = leaf.0 < 0

mutual
  put-ground : (b : ℕ) (t : Tree) → IsQuantifierFree t → AllByRecursion IsNone (free_levels t) → put_in 0 b [] t ≡ t
  put-ground b (Constant i s) free none = refl
  put-ground b (Variable l s) free none = absurd (omega (arith, none.0))
  put-ground b (Literal s n) free none = refl
  put-ground b (Apply o ts) free none = ap (Apply o) (put-ground_each b ts free none)
  put-ground b (ForAll l s body) free none = absurd free
  put-ground b (Exists l s body) free none = absurd free

  put-ground_each : (b : ℕ) (ts : Trees) → AreQuantifierFree ts → AllByRecursion IsNone (free_levels_of_all ts) → put_in_each 0 b [] ts ≡ ts
  put-ground_each b Nil free none = refl
  put-ground_each b (Cons t ts) free none =
      ap (λ u. Cons u (put_in_each 0 b [] ts)) (put-ground b t free.0 (front IsNone (free_levels t) (free_levels_of_all ts) none))
      ∙ ap (Cons t) (put-ground_each b ts free.1 (back IsNone (free_levels t) (free_levels_of_all ts) none))

no-args : (trees : List Tree) (args : List ℕ) → length args ≡ 0 → args ≡ []
no-args trees [] e = refl
no-args trees (n ∷ ns) e = absurd (omega (arith, e))

pub stays-whole : (trees : List Tree) (binders : ℕ) (args : List ℕ) (t : Tree) → length args ≡ 0 → binders ≡ 0 → with_args trees binders args t ≡ t
stays-whole trees binders args t none zero-binders =
    ap (λ ns. with_args trees binders ns t) (no-args trees args none) ∙ ap (λ b. put_in 0 b [] t) zero-binders ∙ put-nothing t

pub stays-ground : (trees : List Tree) (binders : ℕ) (args : List ℕ) (t : Tree) → length args ≡ 0 → IsQuantifierFree t → All (λ leaf. leaf.0 < length args) (free_levels t) → with_args trees binders args t ≡ t
stays-ground trees binders args t none free levels =
    ap (λ ns. with_args trees binders ns t) (no-args trees args none)
    ∙ put-ground binders t free (recursion_from_All IsNone (free_levels t) (subst (λ n. All (λ leaf. leaf.0 < n) (free_levels t)) none levels))

pub when-not : {P : Type 0} (b : Bool) → not b ≡ true → OnFalse b P → P
when-not true e h = absurd (cc)
when-not false e h = h
