-- What a line without faults says of what was listed.
use Rattle.std.proofs.Common.{◌≡◌, ℕ, zero, suc, ◌<◌, ◌≤◌, Bool, true, false, not, cond, nat_eq, Option, Some, None, List, [], ◌∷◌, ◌++◌, length, map, get_or, slice_get, unwrap_or, refl, sym, ap, subst, ◌∙◌, arith}
use Rattle.std.specs.Prelude.{is_some, nat_lt, nat_le, All, max, option_map, option_and_then, IsTrue}
use Rattle.std.specs.List.{AllByRecursion, list_all}
use Rattle.std.specs.Option.{option_map_or}
use Rattle.std.proofs.lemmas.Bool.Decides.{nat_tests}
use Rattle.std.proofs.lemmas.Option.{slice_get_within, get_or_from_slice_get}
use Rattle.std.proofs.lemmas.List.Elements.{All-from_recursion, recursion_from_All}
use Rattle.qv_words.specs.declared.sort.Sort.{Sort}
use Rattle.qv_words.specs.declared.sort.Sort.TheVariants.{Bool as BoolSort}
use Rattle.qv_words.specs.declared.op.Op.{Op}
use Rattle.qv_words.specs.Sort.{IsLawful}
use Rattle.qv_words.specs.Tree.{Tree, Trees, Variable, Apply, Cons, tree_sort}
use Rattle.qv_words.specs.Sorted.{IsSorted, AreSortedBelow, no_levels, free_levels, free_levels_of_all}
use Rattle.qv_words.specs.Problem.{Problem, Quantifier}
use Rattle.qv_words.specs.Problem.{Place as PlainPlace}
use Rattle.qv_words.specs.GameLaws.{IsProblem}
use Rattle.qv_words.specs.Expansion.{Grown, sort_at}
use Rattle.qv_words.proofs.Elements.{get-map, found-at}
use Rattle.qv_store.specs.declared.problem.Place.{Place}
use Rattle.qv_store.specs.declared.problem.Problem.{Problem as StoreProblem}
use Rattle.qv_store.specs.Nodes.{tree_at, trees_at}
use Rattle.qv_store.specs.Stores.{StandsAt, AreShared}
use Rattle.qv_store.specs.Problems.{place_of, problem_in}
use Rattle.qv_cert.specs.Listed.{tree_of_node, trees_of_nodes, grown_of, grown_line, eigen_sort}
use Rattle.qv_cert.specs.Faults.{is_place, is_node, is_parent, depth_of, has_rank}
use Rattle.qv_cert.proofs.SatSections.{nth}
use Rattle.qv_cert_nodes.specs.declared.listed.Listed.{Listed}
use Rattle.qv_cert_nodes.specs.declared.listed.Branch.{Branch}
use Rattle.qv_cert_nodes.specs.Lists.{listed_in, branch_numbered, depth_in, has_number, id_at, reach_at, reach_of, reach_of_leaves, reach_of_nodes, HasTerms, IsNodeOf, IsLawfulPlace, IsEigenLine, IsBranch, IsListed}
use Rattle.qv_cert_nodes.proofs.Kept.{number-there, numbers-there, node-tree, node-reach, line-there, depth-kept, depth-path, eigen-none, eigen-some}
use Rattle.qv_cert.proofs.Pinned.{less}
use Rattle.std.proofs.lemmas.Bool.{and_parts}

-- ---- places

pub map-get : {A B : Type 0} (f : A → B) (xs : List A) (n : ℕ) → slice_get (map f xs) n ≡ option_map f (slice_get xs n)
map-get f [] n = refl
map-get f (x ∷ xs) zero = refl
map-get f (x ∷ xs) (suc n) = map-get f xs n

pub place-there : (trees : List Tree) (p : StoreProblem) (test : Quantifier → Bool) (place : ℕ) → IsProblem (problem_in trees p) → is_place test (problem_in trees p) place ≡ true → IsLawfulPlace p place
place-there trees p test place problem e = go (slice_get p.prefix.items place) refl
  where
    go : (o : Option Place) → slice_get p.prefix.items place ≡ o → IsLawfulPlace p place
    go None none =
        let absent : is_place test (problem_in trees p) place ≡ false =
        ap (λ (o : Option PlainPlace). option_map_or (λ q. test q.quantifier) o false) (map-get place_of p.prefix.items place ∙ ap (option_map place_of) none) in
        absurd cc
    go (Some q) found = record {
      found = q;
      place_is = found;
      lawful = nth (λ (x : PlainPlace). IsLawful x.sort) (map place_of p.prefix.items) place (place_of q) problem.sorts (get-map place_of p.prefix.items place q found);
    }

pub sort-found : (trees : List Tree) (p : StoreProblem) (place : ℕ) (q : Place) → slice_get p.prefix.items place ≡ Some q → sort_at (problem_in trees p) place ≡ q.sort
sort-found trees p place q e = rw (get-map place_of p.prefix.items place q e) refl

-- ---- nodes

at-most : (a b : ℕ) → nat_le a b ≡ true → a ≤ b
at-most a b e = grind (arith, nat_tests)

number-of : (a : Listed) (k : ℕ) → has_number a k ≡ true → IsNodeOf a k
number-of a k e =
    let parts = and_parts (nat_lt 0 k) (nat_le k (length a.nodes.items)) e in
    record { some = less 0 k parts.0; there = at-most k (length a.nodes.items) parts.1 }

pub node-of : (trees : List Tree) (a : Listed) (k : ℕ) → is_node (listed_in trees a) k ≡ true → IsNodeOf a k
node-of trees a k e = number-of a k (number-there trees a k ∙ e)

numbers-of : (a : Listed) (ks : List ℕ) → list_all (has_number a) ks ≡ true → AllByRecursion (IsNodeOf a) ks
numbers-of a [] e = tt
numbers-of a (k ∷ ks) e = let parts = and_parts (has_number a k) (list_all (has_number a) ks) e in (number-of a k parts.0, numbers-of a ks parts.1)

pub nodes-of : (trees : List Tree) (a : Listed) (ks : List ℕ) → list_all (is_node (listed_in trees a)) ks ≡ true → All (IsNodeOf a) ks
nodes-of trees a ks e = All-from_recursion (IsNodeOf a) ks (numbers-of a ks (numbers-there trees a ks ∙ e))

-- the terms of nodes
id-found : (a : Listed) (k : ℕ) → IsNodeOf a k → (m : ℕ) × (suc m ≡ k) × (slice_get a.nodes.items m ≡ Some (id_at a k))
id-found a zero h = absurd (omega (arith, h.some))
id-found a (suc m) h =
    let found = found-at a.nodes.items m (omega (arith, h.there)) in
    (m, refl, found.1 ∙ ap Some (sym (get_or_from_slice_get a.nodes.items m found.0 0 found.1)))

id-tree : (trees : List Tree) (a : Listed) (k : ℕ) → IsNodeOf a k → tree_at trees (id_at a k) ≡ tree_of_node (listed_in trees a) k
id-tree trees a k h = let found = id-found a k h in node-tree trees a found.0 k (id_at a k) found.1 found.2

pub below-at : (n : ℕ) (ids : List ℕ) (k id : ℕ) → AllByRecursion (λ x. x < n) ids → slice_get ids k ≡ Some id → id < n
below-at n [] k id h e = absurd cc
below-at n (x ∷ ids) zero id h e = let same : x ≡ id = cc in omega (arith, h.0, same)
below-at n (x ∷ ids) (suc k) id h e = below-at n ids k id h.1 e

id-below : (trees : List Tree) (a : Listed) (k : ℕ) → HasTerms trees a → IsNodeOf a k → id_at a k < length trees
id-below trees a k terms h = let found = id-found a k h in below-at (length trees) a.nodes.items found.0 (id_at a k) terms found.2

ids-below-each : (trees : List Tree) (a : Listed) (ks : List ℕ) → HasTerms trees a → AllByRecursion (IsNodeOf a) ks → AllByRecursion (λ id. id < length trees) (map (id_at a) ks)
ids-below-each trees a [] terms h = tt
ids-below-each trees a (k ∷ ks) terms h = (id-below trees a k terms h.0, ids-below-each trees a ks terms h.1)

pub ids-below : (trees : List Tree) (a : Listed) (ks ids : List ℕ) → HasTerms trees a → All (IsNodeOf a) ks → ids ≡ map (id_at a) ks → All (λ id. id < length trees) ids
ids-below trees a ks ids terms h e =
    subst (All (λ id. id < length trees)) (sym e)
    (All-from_recursion (λ id. id < length trees) (map (id_at a) ks) (ids-below-each trees a ks terms (recursion_from_All (IsNodeOf a) ks h)))

ids-trees-each : (trees : List Tree) (a : Listed) (ks : List ℕ) → AllByRecursion (IsNodeOf a) ks → trees_at trees (map (id_at a) ks) ≡ trees_of_nodes (listed_in trees a) ks
ids-trees-each trees a [] h = refl
ids-trees-each trees a (k ∷ ks) h =
    ap (λ (t : Tree). Cons t (trees_at trees (map (id_at a) ks))) (id-tree trees a k h.0)
    ∙ ap (Cons (tree_of_node (listed_in trees a) k)) (ids-trees-each trees a ks h.1)

pub ids-trees : (trees : List Tree) (a : Listed) (ks ids : List ℕ) → All (IsNodeOf a) ks → ids ≡ map (id_at a) ks → trees_at trees ids ≡ trees_of_nodes (listed_in trees a) ks
ids-trees trees a ks ids h e = ap (trees_at trees) e ∙ ids-trees-each trees a ks (recursion_from_All (IsNodeOf a) ks h)

sorted-each : (trees : List Tree) (ids : List ℕ) → AreShared trees → AllByRecursion (λ id. id < length trees) ids → AreSortedBelow no_levels (trees_at trees ids)
sorted-each trees [] shared h = tt
sorted-each trees (id ∷ ids) shared h = (shared.sorted id h.0, sorted-each trees ids shared h.1)

-- an application to nodes with a rank is sorted
pub application-sorted : (trees : List Tree) (a : Listed) (o : Op) (ks ids : List ℕ) → AreShared trees → HasTerms trees a → All (IsNodeOf a) ks → ids ≡ map (id_at a) ks
    → IsTrue (has_rank (Apply o (trees_of_nodes (listed_in trees a) ks))) → IsSorted (Apply o (trees_at trees ids))
application-sorted trees a o ks ids shared terms h e rank = (
  sorted-each trees ids shared (recursion_from_All (λ id. id < length trees) ids (ids-below trees a ks ids terms h e)),
  subst (λ (ts : Trees). IsTrue (has_rank (Apply o ts))) (sym (ids-trees trees a ks ids h e)) rank,
)

-- its tree
pub application-stands : (trees more : List Tree) (a : Listed) (o : Op) (ks ids : List ℕ) (id : ℕ) → All (IsNodeOf a) ks → ids ≡ map (id_at a) ks
    → StandsAt more id (Apply o (trees_at trees ids)) → StandsAt more id (Apply o (trees_of_nodes (listed_in trees a) ks))
application-stands trees more a o ks ids id h e s = record { below = s.below; tree = s.tree ∙ ap (Apply o) (ids-trees trees a ks ids h e) }

-- the reach of an application
reach-append : (xs ys : List (ℕ × Sort)) → reach_of_leaves (xs ++ ys) ≡ max (reach_of_leaves xs) (reach_of_leaves ys)
reach-append [] ys = omega arith
reach-append (x ∷ xs) ys = let e = reach-append xs ys in omega (arith, e)

reach-beside : (trees : List Tree) (p : Problem) (a : Listed) (k : ℕ) → IsListed trees p a → IsNodeOf a k → reach_at a k ≡ reach_of (tree_of_node (listed_in trees a) k)
reach-beside trees p a zero h node = absurd (omega (arith, node.some))
reach-beside trees p a (suc m) h node = node-reach trees p a m (suc m) h refl (omega (arith, node.there))

reach-each : (trees : List Tree) (p : Problem) (a : Listed) (ks : List ℕ) → IsListed trees p a → AllByRecursion (IsNodeOf a) ks
    → reach_of_nodes a ks ≡ reach_of_leaves (free_levels_of_all (trees_of_nodes (listed_in trees a) ks))
reach-each trees p a [] h nodes = refl
reach-each trees p a (k ∷ ks) h nodes =
    let first = reach-beside trees p a k h nodes.0 in
    let others = reach-each trees p a ks h nodes.1 in
    let whole = reach-append (free_levels (tree_of_node (listed_in trees a) k)) (free_levels_of_all (trees_of_nodes (listed_in trees a) ks)) in
    ap (λ n. max n (reach_of_nodes a ks)) first
    ∙ ap (max (reach_of (tree_of_node (listed_in trees a) k))) others
    ∙ sym whole

pub application-reach : (trees : List Tree) (p : Problem) (a : Listed) (o : Op) (ks : List ℕ) (reach : ℕ) → IsListed trees p a → All (IsNodeOf a) ks → reach ≡ reach_of_nodes a ks
    → reach ≡ reach_of (Apply o (trees_of_nodes (listed_in trees a) ks))
application-reach trees p a o ks reach h nodes e = e ∙ reach-each trees p a ks h (recursion_from_All (IsNodeOf a) ks nodes)

-- ---- lines

pub parent-there : (trees : List Tree) (p : Problem) (a : Listed) (parent : ℕ) → is_parent p (listed_in trees a) parent ≡ true → parent ≤ length a.branches.items
parent-there trees p a parent e =
    let parts = and_parts (is_some (grown_line p (listed_in trees a) parent)) (not (nat_eq (depth_of p (listed_in trees a) parent) (length p.prefix))) e in
    at-most parent (length a.branches.items) (line-there trees p a parent ∙ parts.0)

pub depth-same : (trees : List Tree) (p : Problem) (a : Listed) (line : ℕ) → IsListed trees p a → depth_in a line ≡ depth_of p (listed_in trees a) line
depth-same trees p a line h = depth-kept trees p a line h ∙ depth-path (grown_line p (listed_in trees a) line)

-- the place below a line
pub place-below : (trees : List Tree) (p : StoreProblem) (a : Listed) (test : Quantifier → Bool) (parent : ℕ) → IsProblem (problem_in trees p) → IsListed trees (problem_in trees p) a
    → is_place test (problem_in trees p) (depth_of (problem_in trees p) (listed_in trees a) parent) ≡ true → IsLawfulPlace p (depth_in a parent)
place-below trees p a test parent problem h e =
    subst (IsLawfulPlace p) (sym (depth-same trees (problem_in trees p) a parent h)) (place-there trees p test (depth_of (problem_in trees p) (listed_in trees a) parent) problem e)

pub place-within : (p : StoreProblem) (place : ℕ) → IsLawfulPlace p place → place < length p.prefix.items
place-within p place h = slice_get_within p.prefix.items place h.found h.place_is

-- a line with an eigenvariable
pub eigen-line : (trees : List Tree) (p : Problem) (a : Listed) (line : ℕ) → IsListed trees p a → is_some (eigen_sort p (listed_in trees a) line) ≡ true → IsEigenLine a line
eigen-line trees p a line h e = go (branch_numbered a line) refl
  where
    go : (o : Option Branch) → branch_numbered a line ≡ o → IsEigenLine a line
    go None is = let no = eigen-none trees p a line (sym is) in absurd cc
    go (Some b) is = record { branch = b; branch_is = is; eigen = eigen-some trees p a line b h (sym is) ∙ e }

pub eigen-some-line : (a : Listed) (line : ℕ) → IsEigenLine a line → 0 < line
eigen-some-line a zero h = let e = h.branch_is in absurd cc
eigen-some-line a (suc k) h = omega arith

-- its variable
pub eigen-stands : (trees : List Tree) (p : Problem) (a : Listed) (m line : ℕ) (x : Branch) → suc m ≡ line → IsListed trees p a → IsEigenLine a line → x ≡ get_or a.branches.items m x
    → StandsAt trees x.id (Variable line (unwrap_or (eigen_sort p (listed_in trees a) line) BoolSort))
eigen-stands trees p a m line x e h line-is at =
    subst (λ n. StandsAt trees x.id (Variable n (unwrap_or (eigen_sort p (listed_in trees a) n) BoolSort))) e
    (subst (λ (y : Branch). StandsAt trees y.id (Variable (suc m) (unwrap_or (eigen_sort p (listed_in trees a) (suc m)) BoolSort))) same
    (record { below = own.below; tree = variable.1 ∙ ap (Variable (suc m)) sort }))
  where
    here : slice_get a.branches.items m ≡ Some line-is.branch
    here = subst (λ n. branch_numbered a n ≡ Some line-is.branch) (sym e) line-is.branch_is

    own : IsBranch trees (grown_of p (listed_in trees a)) m line-is.branch
    own = h.branches m line-is.branch here

    variable : (s : Sort) × (tree_at trees line-is.branch.id ≡ Variable (suc m) s)
    variable = own.own line-is.eigen

    same : line-is.branch ≡ x
    same = sym (get_or_from_slice_get a.branches.items m line-is.branch x here) ∙ sym at

    sort : variable.0 ≡ unwrap_or (eigen_sort p (listed_in trees a) (suc m)) BoolSort
    sort =
        sym (ap (λ (o : Option Grown). unwrap_or (option_and_then (λ g. g.eigen) o) BoolSort) own.grown_is
        ∙ ap (λ (b : Bool). unwrap_or (cond b (tree_sort (tree_at trees line-is.branch.id)) None) BoolSort) line-is.eigen
        ∙ ap (λ (t : Tree). unwrap_or (tree_sort t) BoolSort) variable.1)
