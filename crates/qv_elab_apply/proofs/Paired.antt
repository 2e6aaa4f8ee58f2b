-- What is said of pairs, joined by `and`.
use Rattle.std.proofs.Common.{◌≡◌, ◌<◌, ◌+◌, ℕ, max, Bool, true, false, cond, Option, Some, None, List, [], ◌∷◌, ◌++◌, map, refl, sym, ap, ◌∙◌, arith}
use Rattle.std.specs.Prelude.{All, unwrap_or, option_map, option_and_then}
use Rattle.std.specs.List.{AllByRecursion, list_all}
use Rattle.std.proofs.lemmas.List.{map-append}
use Rattle.std.proofs.lemmas.List.Elements.{recursion_from_All, All-from_recursion}
use Rattle.qv_words.specs.declared.sort.Sort.{Sort}
use Rattle.qv_words.specs.declared.sort.Sort.TheVariants.{Bits}
use Rattle.qv_words.specs.declared.sort.Sort.TheVariants.{Bool as BoolSort}
use Rattle.qv_words.specs.declared.op.Op.TheVariants.{Not, And, Equal}
use Rattle.qv_words.specs.Rank.{sort_eq, one_bool, two_bools, two_alike}
use Rattle.qv_words.specs.Tree.{Tree, Trees, Apply, tree_sorts}
use Rattle.qv_words.specs.Sorted.{IsSorted}
use Rattle.qv_words.specs.Prenex.{binary}
use Rattle.qv_words.proofs.Equals.{sort_eq-is, sort_eq-refl}
use Rattle.qv_words.proofs.Leaves.{both}
use Rattle.qv_store.specs.Nodes.{tree_at}
use Rattle.qv_store.specs.Walks.{named}
use Rattle.qv_sorts.specs.Faults.{fault_of}
use Rattle.qv_elab_defs.specs.Applying.{sort_of, in_trees, neighbours, all_pairs, have_one_sort, depth_of}
use Rattle.qv_elab_defs.specs.Limit.{saturated}
use Rattle.qv_elab_apply.specs.Outlines.{outline_of}
use Rattle.qv_elab_apply.specs.Chained.{neighbours_in, pairs_in, both_at, said_of, AreAlike, IsPairBelow}
use Rattle.qv_elab_defs.proofs.Ranked.{sorted-apply}
use Rattle.std.proofs.lemmas.Bool.{and_parts}

-- what these operators give is a truth value
some-bool : (o : Option Sort) → unwrap_or (option_map (λ _. BoolSort) o) BoolSort ≡ BoolSort
some-bool None = refl
some-bool (Some s) = refl

pub equal-bool : (ts : Trees) → sort_of (Apply Equal ts) ≡ BoolSort
equal-bool ts = go (tree_sorts ts)
  where
    go : (o : Option (List Sort)) → unwrap_or (option_and_then (λ ss. option_map (λ _. BoolSort) (two_alike ss)) o) BoolSort ≡ BoolSort
    go None = refl
    go (Some ss) = some-bool (two_alike ss)

pub not-bool : (ts : Trees) → sort_of (Apply Not ts) ≡ BoolSort
not-bool ts = go (tree_sorts ts)
  where
    one : (ss : List Sort) → unwrap_or (one_bool ss) BoolSort ≡ BoolSort
    one [] = refl
    one (BoolSort ∷ []) = refl
    one (Bits w ∷ []) = refl
    one (BoolSort ∷ t ∷ ss) = refl
    one (Bits w ∷ t ∷ ss) = refl

    go : (o : Option (List Sort)) → unwrap_or (option_and_then one_bool o) BoolSort ≡ BoolSort
    go None = refl
    go (Some ss) = one ss

pub and-bool : (ts : Trees) → sort_of (Apply And ts) ≡ BoolSort
and-bool ts = go (tree_sorts ts)
  where
    two : (ss : List Sort) → unwrap_or (two_bools ss) BoolSort ≡ BoolSort
    two [] = refl
    two (BoolSort ∷ []) = refl
    two (Bits w ∷ []) = refl
    two (BoolSort ∷ BoolSort ∷ []) = refl
    two (BoolSort ∷ Bits w ∷ []) = refl
    two (Bits v ∷ BoolSort ∷ []) = refl
    two (Bits v ∷ Bits w ∷ []) = refl
    two (BoolSort ∷ BoolSort ∷ u ∷ ss) = refl
    two (BoolSort ∷ Bits w ∷ u ∷ ss) = refl
    two (Bits v ∷ t ∷ u ∷ ss) = refl

    go : (o : Option (List Sort)) → unwrap_or (option_and_then two_bools o) BoolSort ≡ BoolSort
    go None = refl
    go (Some ss) = two ss

pub said-bool : (same : Bool) (p : Tree × Tree) → sort_of (said_of same p) ≡ BoolSort
said-bool true p = equal-bool (in_trees (p.0 ∷ p.1 ∷ []))
said-bool false p = not-bool (in_trees (binary Equal p.0 p.1 ∷ []))

-- the outline of what is said
pub said-outline : (same : Bool) (p : Tree × Tree) → outline_of (said_of same p) ≡ record { sort = BoolSort; depth = saturated (depth_of (said_of same p)) }
said-outline same p = ap (λ (s : Sort). record { sort = s; depth = saturated (depth_of (said_of same p)) }) (said-bool same p)

pub said-depth : (same : Bool) (p : Tree × Tree) (d : ℕ) → d ≡ saturated (1 + max (depth_of p.0) (depth_of p.1)) → saturated (depth_of (said_of same p)) ≡ cond same d (saturated (1 + d))
said-depth true p d e = omega (arith, e)
said-depth false p d e = omega (arith, e)

-- two trees of one sort can be equal
equal-ranked : (a b : Tree) → sort_of a ≡ sort_of b → fault_of Equal (sort_of a ∷ sort_of b ∷ []) ≡ None
equal-ranked a b e = ap (λ s. fault_of Equal (s ∷ sort_of b ∷ [])) e ∙ alike (sort_of b)
  where
    alike : (s : Sort) → fault_of Equal (s ∷ s ∷ []) ≡ None
    alike s = rw (sort_eq-refl s)

pub equation-ranked : (p : Tree × Tree) → AreAlike p → fault_of Equal (map (λ t. sort_of t) (p.0 ∷ p.1 ∷ [])) ≡ None
equation-ranked p e = equal-ranked p.0 p.1 e

pub negation-ranked : (t : Tree) → sort_of t ≡ BoolSort → fault_of Not (map (λ t. sort_of t) (t ∷ [])) ≡ None
negation-ranked t e = ap (λ s. fault_of Not (s ∷ [])) e

equation-sorted : (p : Tree × Tree) → IsSorted p.0 → IsSorted p.1 → AreAlike p → IsSorted (binary Equal p.0 p.1)
equation-sorted p h k e = sorted-apply Equal (p.0 ∷ p.1 ∷ []) (h, (k, tt)) (equation-ranked p e)

pub said-sorted : (same : Bool) (p : Tree × Tree) → IsSorted p.0 → IsSorted p.1 → AreAlike p → IsSorted (said_of same p)
said-sorted true p h k e = equation-sorted p h k e
said-sorted false p h k e =
    sorted-apply Not (binary Equal p.0 p.1 ∷ []) (equation-sorted p h k e, tt) (negation-ranked (binary Equal p.0 p.1) (equal-bool (in_trees (p.0 ∷ p.1 ∷ []))))

-- pairs by number
module _ (trees : List Tree) where
  pub said-neighbours : (same : Bool) (n : ℕ) (ms : List ℕ) → map (λ p. said_of same (both_at trees p)) (neighbours_in n ms) ≡ map (said_of same) (neighbours (tree_at trees n) (named trees ms))
  said-neighbours same n [] = refl
  said-neighbours same n (m ∷ ms) = ap (λ ts. said_of same (tree_at trees n, tree_at trees m) ∷ ts) (said-neighbours same m ms)

  said-with : (same : Bool) (n : ℕ) (ms : List ℕ) → map (λ p. said_of same (both_at trees p)) (map (λ m. (n, m)) ms) ≡ map (said_of same) (map (λ u. (tree_at trees n, u)) (named trees ms))
  said-with same n [] = refl
  said-with same n (m ∷ ms) = ap (λ ts. said_of same (tree_at trees n, tree_at trees m) ∷ ts) (said-with same n ms)

  pub said-pairs : (same : Bool) (ns : List ℕ) → map (λ p. said_of same (both_at trees p)) (pairs_in ns) ≡ map (said_of same) (all_pairs (named trees ns))
  said-pairs same [] = refl
  said-pairs same (n ∷ ns) =
      map-append (λ p. said_of same (both_at trees p)) (map (λ m. (n, m)) ns) (pairs_in ns)
      ∙ ap (λ ts. ts ++ map (λ p. said_of same (both_at trees p)) (pairs_in ns)) (said-with same n ns)
      ∙ ap (λ ts. map (said_of same) (map (λ u. (tree_at trees n, u)) (named trees ns)) ++ ts) (said-pairs same ns)
      ∙ sym (map-append (said_of same) (map (λ u. (tree_at trees n, u)) (named trees ns)) (all_pairs (named trees ns)))

  -- all of one sort
  abbrev AreOf : Sort → ℕ → Type 0
  AreOf s n = s ≡ sort_of (tree_at trees n)

  one-sort : (s : Sort) (ns : List ℕ) → list_all (λ u. sort_eq s (sort_of u)) (named trees ns) ≡ true → AllByRecursion (AreOf s) ns
  one-sort s [] e = tt
  one-sort s (n ∷ ns) e =
      let parts = and_parts (sort_eq s (sort_of (tree_at trees n))) (list_all (λ u. sort_eq s (sort_of u)) (named trees ns)) e in
      (sort_eq-is s (sort_of (tree_at trees n)) parts.0, one-sort s ns parts.1)

  alike-neighbours : (s : Sort) (n : ℕ) (ms : List ℕ) → AreOf s n → AllByRecursion (AreOf s) ms → AllByRecursion (λ p. AreAlike (both_at trees p)) (neighbours_in n ms)
  alike-neighbours s n [] h hs = tt
  alike-neighbours s n (m ∷ ms) h hs = (sym h ∙ hs.0, alike-neighbours s m ms hs.0 hs.1)

  alike-with : (s : Sort) (n : ℕ) (ms : List ℕ) → AreOf s n → AllByRecursion (AreOf s) ms → AllByRecursion (λ p. AreAlike (both_at trees p)) (map (λ m. (n, m)) ms)
  alike-with s n [] h hs = tt
  alike-with s n (m ∷ ms) h hs = (sym h ∙ hs.0, alike-with s n ms h hs.1)

  alike-pairs : (s : Sort) (ns : List ℕ) → AllByRecursion (AreOf s) ns → AllByRecursion (λ p. AreAlike (both_at trees p)) (pairs_in ns)
  alike-pairs s [] h = tt
  alike-pairs s (n ∷ ns) h = both (λ p. AreAlike (both_at trees p)) (map (λ m. (n, m)) ns) (pairs_in ns) (alike-with s n ns h.0 h.1) (alike-pairs s ns h.1)

  pub are-alike_neighbours : (n : ℕ) (ms : List ℕ) → list_all (λ u. sort_eq (sort_of (tree_at trees n)) (sort_of u)) (named trees ms) ≡ true → All (λ p. AreAlike (both_at trees p)) (neighbours_in n ms)
  are-alike_neighbours n ms e =
      All-from_recursion (λ p. AreAlike (both_at trees p)) (neighbours_in n ms) (alike-neighbours (sort_of (tree_at trees n)) n ms refl (one-sort (sort_of (tree_at trees n)) ms e))

  pub are-alike_pairs : (ns : List ℕ) → have_one_sort (named trees ns) ≡ true → All (λ p. AreAlike (both_at trees p)) (pairs_in ns)
  are-alike_pairs [] e = All-from_recursion (λ p. AreAlike (both_at trees p)) [] tt
  are-alike_pairs (n ∷ ns) e =
      All-from_recursion (λ p. AreAlike (both_at trees p)) (pairs_in (n ∷ ns)) (alike-pairs (sort_of (tree_at trees n)) (n ∷ ns) (refl, one-sort (sort_of (tree_at trees n)) ns e))

-- both of each pair are there
below-neighbours : (bound n : ℕ) (ms : List ℕ) → n < bound → AllByRecursion (λ k. k < bound) ms → AllByRecursion (IsPairBelow bound) (neighbours_in n ms)
below-neighbours bound n [] h hs = tt
below-neighbours bound n (m ∷ ms) h hs = ((h, hs.0), below-neighbours bound m ms hs.0 hs.1)

below-with : (bound n : ℕ) (ms : List ℕ) → n < bound → AllByRecursion (λ k. k < bound) ms → AllByRecursion (IsPairBelow bound) (map (λ m. (n, m)) ms)
below-with bound n [] h hs = tt
below-with bound n (m ∷ ms) h hs = ((h, hs.0), below-with bound n ms h hs.1)

below-pairs : (bound : ℕ) (ns : List ℕ) → AllByRecursion (λ k. k < bound) ns → AllByRecursion (IsPairBelow bound) (pairs_in ns)
below-pairs bound [] h = tt
below-pairs bound (n ∷ ns) h = both (IsPairBelow bound) (map (λ m. (n, m)) ns) (pairs_in ns) (below-with bound n ns h.0 h.1) (below-pairs bound ns h.1)

pub are-below_neighbours : (bound n : ℕ) (ms : List ℕ) → n < bound → All (λ k. k < bound) ms → All (IsPairBelow bound) (neighbours_in n ms)
are-below_neighbours bound n ms low h = All-from_recursion (IsPairBelow bound) (neighbours_in n ms) (below-neighbours bound n ms low (recursion_from_All (λ k. k < bound) ms h))

pub are-below_pairs : (bound : ℕ) (ns : List ℕ) → All (λ k. k < bound) ns → All (IsPairBelow bound) (pairs_in ns)
are-below_pairs bound ns h = All-from_recursion (IsPairBelow bound) (pairs_in ns) (below-pairs bound ns (recursion_from_All (λ k. k < bound) ns h))
