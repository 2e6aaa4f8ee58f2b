-- The leaves of an expansion list, one after the other, in a store that grows.
use Rattle.std.proofs.Common.{◌≡◌, ℕ, zero, suc, ◌<◌, ◌≤◌, ◌==◌, Bool, true, false, cond, Option, Some, List, [], ◌∷◌, ◌++◌, length, map, take, slice_get, refl, sym, ap, subst, ◌∙◌, arith}
use Rattle.std.specs.Prelude.{All, MatchOption, Result, Ok, Err, IfOk}
use Rattle.std.specs.List.{AllByRecursion}
use Rattle.std.proofs.lemmas.Bool.Decides.{nat_tests}
use Rattle.std.proofs.lemmas.List.{length-map, map-append, take_all}
use Rattle.std.proofs.lemmas.List.Elements.{All-from_recursion, recursion_from_All, filter-append}
use Rattle.qv_words.specs.declared.sort.Sort.TheVariants.{Bool as BoolSort}
use Rattle.qv_words.specs.Tree.{Tree, IsQuantifierFree}
use Rattle.qv_words.specs.Sorted.{free_levels}
use Rattle.qv_words.specs.Problem.{Problem}
use Rattle.qv_words.specs.Replacement.{replaced, HasTheirSorts}
use Rattle.qv_words.specs.Skolem.{IsTermOf}
use Rattle.qv_words.specs.Linked.{IsPlaceBelow}
use Rattle.qv_words.specs.Expansion.{Grown, root, line_numbered, path_of, full, leaves_of, IsEarlierEigen, IsExpansion}
use Rattle.qv_words.specs.GameLaws.{IsProblem}
use Rattle.qv_words.proofs.Elements.{all-weaker, take-one, found-at}
use Rattle.qv_words.proofs.NewNodes.{nil-behind}
use Rattle.qv_words.proofs.Leaves.{both}
use Rattle.qv_cert_section_laws.proofs.PutTerms.{IsTermThere}
use Rattle.qv_cert_section_laws.proofs.LawfulLines.{lawful-lines, lawful-first, leaf-put, leaves-are_terms}
use Rattle.qv_store.specs.declared.problem.Problem.{Problem as StoreProblem}
use Rattle.qv_store.specs.Nodes.{tree_at}
use Rattle.qv_store.specs.Stores.{Grows, StandsAt}
use Rattle.qv_store.specs.Walks.{named}
use Rattle.qv_store.specs.Problems.{place_of, places_of, problem_in, IsPosedIn}
use Rattle.qv_store.specs.Replacing.{put_by_level}
use Rattle.qv_store.proofs.Replacement.{grows-more}
use Rattle.qv_cert.specs.Listed.{Listed as PlainListed}
use Rattle.qv_cert.specs.Listed.{grown_of}
use Rattle.qv_cert_nodes.specs.declared.listed.Listed.{Listed}
use Rattle.qv_cert_nodes.specs.Lists.{listed_in, depth_in, IsListed}
use Rattle.qv_cert_nodes.specs.Putting.{IsPath}
use Rattle.qv_cert_nodes.proofs.Kept.{depth-kept, length-of}
use Rattle.qv_cert_nodes.proofs.Grown.{longer, stays, listed-stays, kept-stays, map-pushed, same-map}
use Rattle.qv_cert_nodes.proofs.Climbing.{path-stands}
use Rattle.qv_cert_nodes.proofs.Puts.{sorts-put}
use Rattle.qv_words.proofs.Replaced.{same-put}

-- ---- the problem in a store that has grown

pub problem-stays : (trees more : List Tree) (p : StoreProblem) → Grows trees more → p.matrix < length trees → problem_in more p ≡ problem_in trees p
problem-stays trees more p g h = ap (λ (t : Tree). let q : Problem = record { prefix = places_of p; matrix = t } in q) (stays trees more p.matrix g h)

pub posed-stays : (trees more : List Tree) (p : StoreProblem) → Grows trees more → IsPosedIn trees p → IsPosedIn more p
posed-stays trees more p g h = record {
  below = omega (arith, h.below, longer trees more g);
  problem = subst IsProblem (sym (problem-stays trees more p g h.below)) h.problem;
}

pub listed-moved : (trees more : List Tree) (p : StoreProblem) (a : Listed) → Grows trees more → IsPosedIn trees p → IsListed trees (problem_in trees p) a → IsListed more (problem_in more p) a
listed-moved trees more p a g posed h = subst (λ (q : Problem). IsListed more q a) (sym (problem-stays trees more p g posed.below)) (kept-stays trees more (problem_in trees p) a g h)

pub expansion-moved : (trees more : List Tree) (p : StoreProblem) (a : Listed) → Grows trees more → IsPosedIn trees p → IsListed trees (problem_in trees p) a → IsExpansion (problem_in trees p) (listed_in trees a).lines
    → IsExpansion (problem_in more p) (listed_in more a).lines
expansion-moved trees more p a g posed h is =
    subst (λ (q : Problem). IsExpansion q (listed_in more a).lines) (sym (problem-stays trees more p g posed.below))
    (subst (λ (l : PlainListed). IsExpansion (problem_in trees p) l.lines) (sym (listed-stays trees more (problem_in trees p) a g h)) is)

-- ---- one leaf

-- the path of a line by its number
abbrev pub path_at : Problem → PlainListed → ℕ → List Tree
path_at p l line = path_of (line_numbered (grown_of p l) line)

numbered-there : (p : Problem) (grown : List Grown) (line : ℕ) → line ≤ length grown → (g : Grown) × (line_numbered grown line ≡ Some g) × (slice_get (root ∷ grown) line ≡ Some g)
numbered-there p grown zero h = (root, refl, refl)
numbered-there p grown (suc n) h = let found = found-at grown n (omega (arith, h)) in (found.0, found.1, found.1)

pub leaf-terms : (trees : List Tree) (p : StoreProblem) (a : Listed) (line : ℕ) (put : List (Option ℕ)) → IsPosedIn trees p → IsListed trees (problem_in trees p) a → IsExpansion (problem_in trees p) (listed_in trees a).lines
    → line ≤ length a.branches.items → depth_in a line ≡ length p.prefix.items → IsPath trees put (path_at (problem_in trees p) (listed_in trees a) line)
    → HasTheirSorts (put_by_level trees put) (tree_at trees p.matrix)
leaf-terms trees p a line put posed h is within deep path =
    let q = problem_in trees p in
    let grown = grown_of q (listed_in trees a) in
    let many : length grown ≡ length a.branches.items = length-of trees q a in
    let found = numbered-there q grown line (omega (arith, within, many)) in
    let lawful = lawful-lines q (listed_in trees a).lines [] posed.problem (lawful-first q) is line found.0 found.1 in
    let whole : path_at q (listed_in trees a) line ≡ found.0.path = ap path_of found.1 in
    let full_path : length found.0.path ≡ length q.prefix =
    sym (ap (λ (ts : List Tree). length ts) whole) ∙ sym (depth-kept trees q a line h) ∙ deep ∙ sym (length-map p.prefix.items place_of) in
    let same : (j : ℕ) → put_by_level trees put j ≡ slice_get found.0.path j =
    λ j. path-stands trees put (path_at q (listed_in trees a) line) path j ∙ ap (λ (ts : List Tree). slice_get ts j) whole in
    let P = IsEarlierEigen grown in
    sorts-put P (put_by_level trees put) (tree_at trees p.matrix)
    (all-weaker (IsPlaceBelow q (length q.prefix)) (IsTermThere P (put_by_level trees put)) (free_levels (tree_at trees p.matrix))
    (λ leaf below. subst (λ (o : Option Tree). MatchOption o (P leaf) (λ t. IsTermOf t leaf.1 × AllByRecursion P (free_levels t))) (sym (same leaf.0)) (leaf-put q grown found.0.path lawful full_path leaf below))
    (recursion_from_All (IsPlaceBelow q (length q.prefix)) (free_levels (tree_at trees p.matrix)) posed.problem.variables))

pub leaf-stands : (trees more : List Tree) (put : List (Option ℕ)) (path : List Tree) (t : Tree) (id : ℕ) → IsPath trees put path → StandsAt more id (replaced (put_by_level trees put) t) → StandsAt more id (replaced (slice_get path) t)
leaf-stands trees more put path t id path-is s = record { below = s.below; tree = s.tree ∙ same-put (put_by_level trees put) (slice_get path) (path-stands trees put path path-is) t }

-- ---- the leaves of the first lines

abbrev pub leaf_tree : Problem → Grown → Tree
leaf_tree p g = replaced (slice_get g.path) p.matrix

pub record IsGathered (trees more : List Tree) (p : StoreProblem) (a : Listed) (leaves : List ℕ) (n : ℕ) : Type 0 where
  pub grows : Grows trees more
  pub below : AllByRecursion (λ id. id < length more) leaves
  pub leaves_are : named more leaves ≡ map (leaf_tree (problem_in trees p)) (full (problem_in trees p) (take n (root ∷ grown_of (problem_in trees p) (listed_in trees a))))

-- one line more, in a store that has grown once more
full-more : (p : Problem) (gs : List Grown) (n : ℕ) (g : Grown) → slice_get gs n ≡ Some g → full p (take (suc n) gs) ≡ full p (take n gs) ++ full p (g ∷ [])
full-more p gs n g at = ap (full p) (take-one gs n g at) ∙ filter-append (λ x. length x.path == length p.prefix) (take n gs) (g ∷ [])

named-moves : (more new : List Tree) (ids : List ℕ) → Grows more new → AllByRecursion (λ id. id < length more) ids → named new ids ≡ named more ids
named-moves more new ids g h = same-map (tree_at new) (tree_at more) ids (all-weaker (λ id. id < length more) (λ id. tree_at new id ≡ tree_at more id) ids (λ id k. stays more new id g k) h)

-- whether the line of this number is a leaf
full-one : (p : Problem) (g : Grown) (b : Bool) → (length g.path == length p.prefix) ≡ b → full p (g ∷ []) ≡ cond b (g ∷ []) []
full-one p g b e = ap (λ (x : Bool). cond x (g ∷ []) []) e

pub gather-none : (trees more : List Tree) (p : StoreProblem) (a : Listed) (leaves : List ℕ) (n : ℕ) → IsListed trees (problem_in trees p) a → n ≤ length a.branches.items
    → (depth_in a n == length p.prefix.items) ≡ false → IsGathered trees more p a leaves n → IsGathered trees more p a leaves (suc n)
gather-none trees more p a leaves n h within e c =
    let q = problem_in trees p in
    let grown = grown_of q (listed_in trees a) in
    let found = numbered-there q grown n (omega (arith, within, length-of trees q a)) in
    let deep : depth_in a n ≡ length found.0.path = depth-kept trees q a n h ∙ ap (λ (o : Option Grown). length (path_of o)) found.1 in
    let test : (length found.0.path == length q.prefix) ≡ false =
    sym (ap (λ k. k == length p.prefix.items) deep ∙ ap (λ k. length found.0.path == k) (sym (length-map p.prefix.items place_of))) ∙ e in
    record {
      grows = c.grows;
      below = c.below;
      leaves_are = c.leaves_are ∙ ap (map (leaf_tree q)) (nil-behind (full q (take n (root ∷ grown))) ∙ ap (λ (gs : List Grown). full q (take n (root ∷ grown)) ++ gs) (sym (full-one q found.0 false test))
          ∙ sym (full-more q (root ∷ grown) n found.0 found.2));
    }

pub gather-one : (trees more new : List Tree) (p : StoreProblem) (a : Listed) (leaves pushed : List ℕ) (n id : ℕ) → IsPosedIn trees p → IsListed trees (problem_in trees p) a → n ≤ length a.branches.items
    → (depth_in a n == length p.prefix.items) ≡ true → Grows more new → pushed ≡ leaves ++ id ∷ []
    → StandsAt new id (replaced (slice_get (path_at (problem_in more p) (listed_in more a) n)) (tree_at more p.matrix))
    → IsGathered trees more p a leaves n → IsGathered trees new p a pushed (suc n)
gather-one trees more new p a leaves pushed n id posed h within e g pushed-is s c =
    let q = problem_in trees p in
    let grown = grown_of q (listed_in trees a) in
    let found = numbered-there q grown n (omega (arith, within, length-of trees q a)) in
    let deep : depth_in a n ≡ length found.0.path = depth-kept trees q a n h ∙ ap (λ (o : Option Grown). length (path_of o)) found.1 in
    let test : (length found.0.path == length q.prefix) ≡ true =
    sym (ap (λ k. k == length p.prefix.items) deep ∙ ap (λ k. length found.0.path == k) (sym (length-map p.prefix.items place_of))) ∙ e in
    let path : path_at (problem_in more p) (listed_in more a) n ≡ found.0.path =
    ap (λ (x : Problem). path_at x (listed_in more a) n) (problem-stays trees more p c.grows posed.below)
    ∙ ap (λ (l : PlainListed). path_at q l n) (listed-stays trees more q a c.grows h) ∙ ap path_of found.1 in
    let tree : tree_at new id ≡ leaf_tree q found.0 =
    s.tree ∙ ap (λ (ts : List Tree). replaced (slice_get ts) (tree_at more p.matrix)) path ∙ ap (replaced (slice_get found.0.path)) (stays trees more p.matrix c.grows posed.below) in
    record {
      grows = grows-more trees more new c.grows g;
      below = subst (AllByRecursion (λ k. k < length new)) (sym pushed-is)
          (both (λ k. k < length new) leaves (id ∷ []) (all-weaker (λ k. k < length more) (λ k. k < length new) leaves (λ k b. omega (arith, b, longer more new g)) c.below) (s.below, tt));
      leaves_are = ap (named new) pushed-is ∙ map-pushed (tree_at new) leaves id
          ∙ ap (λ (ts : List Tree). ts ++ tree_at new id ∷ []) (named-moves more new leaves g c.below ∙ c.leaves_are)
          ∙ ap (λ (t : Tree). map (leaf_tree q) (full q (take n (root ∷ grown))) ++ t ∷ []) tree
          ∙ sym (map-append (leaf_tree q) (full q (take n (root ∷ grown))) (found.0 ∷ []))
          ∙ ap (map (leaf_tree q)) (ap (λ (gs : List Grown). full q (take n (root ∷ grown)) ++ gs) (sym (full-one q found.0 true test)) ∙ sym (full-more q (root ∷ grown) n found.0 found.2));
    }

pub gather-start : (trees : List Tree) (p : StoreProblem) (a : Listed) (leaves : List ℕ) → leaves ≡ [] → IsGathered trees trees p a leaves 0
gather-start trees p a leaves e = record {
  grows = record { more = []; behind = nil-behind trees };
  below = subst (AllByRecursion (λ id. id < length trees)) (sym e) tt;
  leaves_are = ap (named trees) e;
}

pub gathered : (trees more : List Tree) (p : StoreProblem) (a : Listed) (leaves : List ℕ) (n : ℕ) → suc (length a.branches.items) ≤ n → IsGathered trees more p a leaves n
    → named more leaves ≡ leaves_of (problem_in trees p) (listed_in trees a).lines
gathered trees more p a leaves n h c =
    let q = problem_in trees p in
    let grown = grown_of q (listed_in trees a) in
    c.leaves_are ∙ ap (λ (gs : List Grown). map (leaf_tree q) (full q gs)) (take_all n (root ∷ grown) (omega (arith, h, length-of trees q a)))

pub free-each : (more : List Tree) (ids : List ℕ) → AllByRecursion IsQuantifierFree (named more ids) → AllByRecursion (λ id. IsQuantifierFree (tree_at more id)) ids
free-each more [] h = tt
free-each more (id ∷ ids) h = (h.0, free-each more ids h.1)

pub gathered-free : (trees more : List Tree) (p : StoreProblem) (a : Listed) (leaves : List ℕ) (n : ℕ) → suc (length a.branches.items) ≤ n → IsPosedIn trees p → IsExpansion (problem_in trees p) (listed_in trees a).lines
    → IsGathered trees more p a leaves n → All (λ id. IsQuantifierFree (tree_at more id)) leaves
gathered-free trees more p a leaves n h posed is c =
    let q = problem_in trees p in
    let lines = (listed_in trees a).lines in
    let P = λ (t : Tree). IsTermOf t BoolSort × All (IsEarlierEigen (grown_of q (listed_in trees a))) (free_levels t) in
    All-from_recursion (λ id. IsQuantifierFree (tree_at more id)) leaves
    (free-each more leaves
    (subst (AllByRecursion IsQuantifierFree) (sym (gathered trees more p a leaves n h c))
    (all-weaker P IsQuantifierFree (leaves_of q lines) (λ t k. k.0.quantifier_free) (recursion_from_All P (leaves_of q lines) (leaves-are_terms q lines posed.problem is)))))

pub gathered-below : (trees more : List Tree) (p : StoreProblem) (a : Listed) (leaves : List ℕ) (n : ℕ) → IsGathered trees more p a leaves n → All (λ id. id < length more) leaves
gathered-below trees more p a leaves n c = All-from_recursion (λ id. id < length more) leaves c.below

pub if-ok : {A E : Type 0} (r : Result A E) (P Q : A → Type 0) → ((a : A) → P a → Q a) → IfOk r P → IfOk r Q
if-ok (Ok a) P Q h k = h a k
if-ok (Err e) P Q h k = tt

-- by what the test of a line's depth says
pub same-test : (a b d n : ℕ) → a ≡ d → b ≡ n → a ≡ b → (d == n) ≡ true
same-test a b d n e f same = grind (arith, nat_tests)

pub other-test : (a b d n : ℕ) → a ≡ d → b ≡ n → (a ≡ b → ⊥) → (d == n) ≡ false
other-test a b d n e f other = grind (arith, nat_tests)

-- the same under other names
pub gathered-as : (trees more new : List Tree) (p : StoreProblem) (a : Listed) (leaves others : List ℕ) (n m : ℕ) → new ≡ more → others ≡ leaves → suc n ≡ m → IsGathered trees more p a leaves (suc n) → IsGathered trees new p a others m
gathered-as trees more new p a leaves others n m e f g h =
    subst (λ (ts : List Tree). IsGathered trees ts p a others m) (sym e)
    (subst (λ (ids : List ℕ). IsGathered trees more p a ids m) (sym f) (subst (λ k. IsGathered trees more p a leaves k) g h))
