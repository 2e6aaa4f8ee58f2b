-- What is said of pairs, joined by `and`, and when that is too deep.
use Rattle.std.proofs.Common.{◌≡◌, ◌≤◌, ◌<◌, ◌+◌, ◌*◌, ℕ, max, Bool, true, false, cond, Some, None, List, [], ◌∷◌, ◌++◌, map, length, take, get_or, refl, sym, ap, subst, ◌∙◌, Ok, Err, arith, length-append}
use Rattle.std.specs.Prelude.{All, nat_le, unwrap_or}
use Rattle.std.specs.List.{AllByRecursion, list_all}
use Rattle.std.proofs.Math.Nat.{mul-le-mul_left, le-max_left}
use Rattle.std.proofs.lemmas.Bool.Decides.{nat_tests}
use Rattle.std.proofs.lemmas.List.{length-map, map-append, take_more}
use Rattle.std.proofs.lemmas.List.Elements.{recursion_from_All, All-push, All-weaker}
use Rattle.qv_words.specs.declared.sort.Sort.{Sort}
use Rattle.qv_words.specs.declared.sort.Sort.TheVariants.{Bool as BoolSort}
use Rattle.qv_words.specs.declared.op.Op.TheVariants.{And}
use Rattle.qv_words.specs.Tree.{Tree, Apply, tree_sort}
use Rattle.qv_words.specs.Rank.{sort_eq}
use Rattle.qv_words.specs.Sorted.{IsSorted}
use Rattle.qv_store.specs.Nodes.{tree_at}
use Rattle.qv_store.specs.Walks.{named}
use Rattle.qv_store.specs.Stores.{StandsAt, Grows, AreShared}
use Rattle.qv_store.proofs.Replacement.{grown-tree, grown-within}
use Rattle.qv_sorts.specs.Faults.{fault_of}
use Rattle.qv_elab_defs.specs.declared.faults.ElabKind.TheVariants.{Sorts, DepthLimit}
use Rattle.qv_elab_apply.specs.declared.outlines.Outline.{Outline}
use Rattle.qv_elab_defs.specs.Faults.{refuse, ◌>>=◌}
use Rattle.qv_elab_defs.specs.Applying.{sort_of, in_trees, unless_fault, applied, to_the_left, neighbours, all_pairs, have_one_sort, conjunction, chained, distinct, depth_of, depth_limit}
use Rattle.qv_elab_defs.specs.Built.{limited}
use Rattle.qv_elab_apply.specs.Outlines.{outline_of, joined_left, outlined}
use Rattle.qv_elab_apply.specs.Chained.{neighbours_in, pairs_in, both_at, said_of, AreAlike, IsPairBelow}
use Rattle.qv_elab_defs.proofs.NamedTrees.{named-kept}
use Rattle.qv_elab_apply.proofs.Outlined.{outlined-left}
use Rattle.qv_elab_apply.proofs.Paired.{and-bool, said-bool, said-sorted, said-neighbours, said-pairs}

-- what is said of each pair is sorted
said-all_sorted : (trees : List Tree) → AreShared trees → (same : Bool) (ps : List (ℕ × ℕ)) → AllByRecursion (IsPairBelow (length trees)) ps → AllByRecursion (λ p. AreAlike (both_at trees p)) ps
    → AllByRecursion IsSorted (map (λ p. said_of same (both_at trees p)) ps)
said-all_sorted trees shared same [] low alike = tt
said-all_sorted trees shared same (p ∷ ps) low alike = (
  said-sorted same (both_at trees p) (shared.sorted p.0 low.0.0) (shared.sorted p.1 low.0.1) alike.0,
  said-all_sorted trees shared same ps low.1 alike.1,
)

outlines-of_said : (trees : List Tree) (same : Bool) (ps : List (ℕ × ℕ)) → map (λ p. outline_of (said_of same (both_at trees p))) ps ≡ map outline_of (map (λ p. said_of same (both_at trees p)) ps)
outlines-of_said trees same [] = refl
outlines-of_said trees same (p ∷ ps) = ap (λ os. outline_of (said_of same (both_at trees p)) ∷ os) (outlines-of_said trees same ps)

-- the outline of them all
outlined-conjunction : (ts : List Tree) (first : Outline) (others : List Outline) → AllByRecursion IsSorted ts → map outline_of ts ≡ first ∷ others → outlined (conjunction ts) ≡ joined_left And first others
outlined-conjunction [] first others h e = absurd (cc)
outlined-conjunction (t ∷ ts) first others h e =
    let one : outline_of t ≡ first = cc in
    let rest : map outline_of ts ≡ others = cc in
    outlined-left And t ts h.0 h.1 ∙ ap (λ (a : Outline). joined_left And a (map outline_of ts)) one ∙ ap (joined_left And first) rest

pub outlined-said : (trees : List Tree) → AreShared trees → (same : Bool) (ps : List (ℕ × ℕ)) (outlines : List Outline) (first : Outline) (others : List Outline) → All (IsPairBelow (length trees)) ps → All (λ p. AreAlike (both_at trees p)) ps
    → outlines ≡ map (λ p. outline_of (said_of same (both_at trees p))) ps → outlines ≡ first ∷ others → outlined (conjunction (map (λ p. said_of same (both_at trees p)) ps)) ≡ joined_left And first others
outlined-said trees shared same ps outlines first others low alike e f =
    outlined-conjunction (map (λ p. said_of same (both_at trees p)) ps) first others
    (said-all_sorted trees shared same ps (recursion_from_All (IsPairBelow (length trees)) ps low) (recursion_from_All (λ p. AreAlike (both_at trees p)) ps alike))
    (sym (outlines-of_said trees same ps) ∙ sym e ∙ f)

-- a conjunction of ids
pub conjunction-ids : (trees : List Tree) (ids : List ℕ) (ts : List Tree) (first : ℕ) (others : List ℕ) → named trees ids ≡ ts → ids ≡ first ∷ others → to_the_left And (tree_at trees first) (named trees others) ≡ conjunction ts
conjunction-ids trees ids ts first others e f = ap (λ ns. conjunction (named trees ns)) (sym f) ∙ ap conjunction e

-- a conjunction of formulas has no rank fault, and is deeper than it is long
two-bools : (a b : Sort) → a ≡ BoolSort → b ≡ BoolSort → fault_of And (a ∷ b ∷ []) ≡ None
two-bools a b e f = ap (λ s. fault_of And (s ∷ b ∷ [])) e ∙ ap (λ s. fault_of And (BoolSort ∷ s ∷ [])) f

record IsLong (t : Tree) (us : List Tree) : Type 0 where
  tree : Tree
  ok : to_the_left And t us ≡ Ok tree
  deep : depth_of t + length us ≤ depth_of tree

long : (t : Tree) (us : List Tree) → sort_of t ≡ BoolSort → AllByRecursion (λ u. sort_of u ≡ BoolSort) us → IsLong t us
long t [] h hs = record { tree = t; ok = refl; deep = omega arith }
long t (u ∷ us) h hs =
    let tu : Tree = Apply And (in_trees (t ∷ u ∷ [])) in
    let rest = long tu us (and-bool (in_trees (t ∷ u ∷ []))) hs.1 in
    let step : applied And (t ∷ u ∷ []) ≡ Ok tu = ap (λ f. unless_fault f tu) (two-bools (sort_of t) (sort_of u) h hs.0) in
    record {
      tree = rest.tree;
      ok = ap (λ r. r >>= λ v. to_the_left And v us) step ∙ rest.ok;
      deep = omega (arith, rest.deep, le-max_left (depth_of t) (max (depth_of u) 0));
    }

said-bools : (same : Bool) (ps : List (Tree × Tree)) → AllByRecursion (λ u. sort_of u ≡ BoolSort) (map (said_of same) ps)
said-bools same [] = tt
said-bools same (p ∷ ps) = (said-bool same p, said-bools same ps)

too-deep : (same : Bool) (place : ℕ) (ps : List (Tree × Tree)) → depth_limit + 1 < length ps → limited place (conjunction (map (said_of same) ps)) ≡ refuse place DepthLimit
too-deep same place [] lt = absurd (omega (arith, lt))
too-deep same place (p ∷ ps) lt =
    let whole = long (said_of same p) (map (said_of same) ps) (said-bool same p) (said-bools same ps) in
    let deep : depth_limit < depth_of whole.tree = omega (arith, whole.deep, lt, length-map ps (said_of same)) in
    let test : nat_le (depth_of whole.tree) depth_limit ≡ false = grind (arith, nat_tests) in
    ap (limited place) whole.ok ∙ ap (λ b. cond b (Ok whole.tree) (refuse place DepthLimit)) test

pairs-twice : (ts : List Tree) → 2 * length (all_pairs ts) + length ts ≡ length ts * length ts
pairs-twice [] = refl
pairs-twice (t ∷ ts) =
    omega (arith, pairs-twice ts, length-append (map (λ u. (t, u)) ts) (all_pairs ts), length-map {B = Tree × Tree} ts (λ u. (t, u)))

pairs-many : (ts : List Tree) → 142 < length ts → depth_limit + 1 < length (all_pairs ts)
pairs-many ts lt =
    let le : 143 ≤ length ts = omega (arith, lt) in
    let square : length ts * 143 ≤ length ts * length ts = mul-le-mul_left (length ts) le in
    omega (arith, pairs-twice ts, square, lt)

pub distinct-too_deep : (place : ℕ) (ts : List Tree) → have_one_sort ts ≡ true → 142 < length ts → limited place (distinct ts) ≡ refuse place DepthLimit
distinct-too_deep place ts one lt =
    ap (λ b. limited place (cond b (conjunction (map (said_of false) (all_pairs ts))) (Err Sorts))) one
    ∙ too-deep false place (all_pairs ts) (pairs-many ts lt)

-- one more of what is said
module _ (old now newer : List Tree) (grown : Grows old now) (grows : Grows now newer) (same : Bool) (ps : List (ℕ × ℕ)) (low : All (IsPairBelow (length old)) ps)
    (ids : List ℕ) (below : All (λ n. n < length now) ids) (i : ℕ) (are : named now ids ≡ map (λ p. said_of same (both_at old p)) (take i ps))
    (p : ℕ × ℕ) (lt : i < length ps) (is : p ≡ get_or ps i p) where
  pair-low : IsPairBelow (length old) p
  pair-low = subst (IsPairBelow (length old)) (sym is) (low i p lt)

  pub pair-kept : both_at now p ≡ both_at old p
  pair-kept =
      ap (λ t. (t, tree_at now p.1)) (grown-tree old now grown p.0 pair-low.0) ∙ ap (λ t. (tree_at old p.0, t)) (grown-tree old now grown p.1 pair-low.1)

  pub pair-within : IsPairBelow (length now) p
  pair-within = (grown-within old now grown p.0 pair-low.0, grown-within old now grown p.1 pair-low.1)

  pub said-more : (id : ℕ) (after : List ℕ) → StandsAt newer id (said_of same (both_at now p)) → after ≡ ids ++ id ∷ []
      → All (λ n. n < length newer) after × (named newer after ≡ map (λ p. said_of same (both_at old p)) (take (i + 1) ps))
  said-more id after stands e =
      let kept : named newer ids ≡ named now ids = named-kept now newer grows ids (recursion_from_All (λ n. n < length now) ids below) in
      let wider = All-weaker (λ n. n < length now) (λ n. n < length newer) (λ n h. grown-within now newer grows n h) ids below in
      let next : take (i + 1) ps ≡ take i ps ++ p ∷ [] = take_more ps i p lt ∙ ap (λ q. take i ps ++ q ∷ []) (sym is) in
      let tree : tree_at newer id ≡ said_of same (both_at old p) = stands.tree ∙ ap (said_of same) pair-kept in (
        subst (All (λ n. n < length newer)) (sym e) (All-push (λ n. n < length newer) ids id wider stands.below),
        ap (named newer) e ∙ map-append (tree_at newer) ids (id ∷ []) ∙ ap (λ ts. ts ++ tree_at newer id ∷ []) (kept ∙ are) ∙ ap (λ t. map (λ p. said_of same (both_at old p)) (take i ps) ++ t ∷ []) tree
            ∙ sym (map-append (λ p. said_of same (both_at old p)) (take i ps) (p ∷ [])) ∙ ap (map (λ p. said_of same (both_at old p))) (sym next),
      )

-- a chain of `=`, and `distinct`
pub chained-is : (trees : List Tree) (n : ℕ) (ms : List ℕ) → list_all (λ t. sort_eq (sort_of (tree_at trees n)) (sort_of t)) (named trees ms) ≡ true
    → chained (tree_at trees n) (named trees ms) ≡ conjunction (map (λ p. said_of true (both_at trees p)) (neighbours_in n ms))
chained-is trees n ms e =
    ap (λ b. cond b (conjunction (map (said_of true) (neighbours (tree_at trees n) (named trees ms)))) (Err Sorts)) e ∙ ap conjunction (sym (said-neighbours trees true n ms))

pub chained-other : (place : ℕ) (t : Tree) (us : List Tree) → list_all (λ u. sort_eq (sort_of t) (sort_of u)) us ≡ false → limited place (chained t us) ≡ refuse place Sorts
chained-other place t us e = ap (λ b. limited place (cond b (conjunction (map (said_of true) (neighbours t us))) (Err Sorts))) e

pub distinct-is : (trees : List Tree) (ns : List ℕ) → have_one_sort (named trees ns) ≡ true → distinct (named trees ns) ≡ conjunction (map (λ p. said_of false (both_at trees p)) (pairs_in ns))
distinct-is trees ns e =
    ap (λ b. cond b (conjunction (map (said_of false) (all_pairs (named trees ns)))) (Err Sorts)) e ∙ ap conjunction (sym (said-pairs trees false ns))

pub distinct-other : (place : ℕ) (ts : List Tree) → have_one_sort ts ≡ false → limited place (distinct ts) ≡ refuse place Sorts
distinct-other place ts e = ap (λ b. limited place (cond b (conjunction (map (said_of false) (all_pairs ts))) (Err Sorts))) e

-- a test by the sort that was read
pub chained-tested : (t : Tree) (s : Sort) (us : List Tree) → tree_sort t ≡ Some s → list_all (λ u. sort_eq s (sort_of u)) us ≡ true → list_all (λ u. sort_eq (sort_of t) (sort_of u)) us ≡ true
chained-tested t s us e h = ap (λ o. list_all (λ u. sort_eq (unwrap_or o BoolSort) (sort_of u)) us) e ∙ h
