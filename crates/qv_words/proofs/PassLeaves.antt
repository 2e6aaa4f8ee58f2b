-- The leaves of a formula after a pass are among those before.
use Rattle.std.proofs.Common.{◌≡◌, ℕ, inl, inr, Option, Some, None, List, ◌++◌, refl, sym, subst}
use Rattle.std.specs.Prelude.{unwrap_or}
use Rattle.std.specs.List.{AllByRecursion, Contains}
use Rattle.std.proofs.lemmas.List.Elements.{All-contains, All-contains_itself, All-from_recursion, recursion_from_All, Contains-append_left, Contains-append_right}
use Rattle.qv_words.specs.declared.sort.Sort.{Sort}
use Rattle.qv_words.specs.declared.op.Op.{Op}
use Rattle.qv_words.specs.Tree.{Tree, Trees, Constant, Variable, Literal, Apply, ForAll, Exists, Nil, Cons}
use Rattle.qv_words.specs.Sorted.{constants_of, constants_of_all, free_levels, free_levels_of_all}
use Rattle.qv_words.specs.declared.rule.Rule.{Rule}
use Rattle.qv_words.specs.Passes.{rewritten, passed, passed_each}
use Rattle.qv_words.proofs.Elements.{all-weaker}
use Rattle.qv_words.proofs.Leaves.{both}
use Rattle.qv_words.proofs.RuleParts.{IsWithin, IsWithinEach, IsPart, rewritten-part}

-- the leaves of one list are among those of another
abbrev pub Among : List (ℕ × Sort) → List (ℕ × Sort) → Type 0
Among xs ys = AllByRecursion (Contains ys) xs

among-itself : (xs : List (ℕ × Sort)) → Among xs xs
among-itself xs = recursion_from_All (Contains xs) xs (All-contains_itself xs)

pub among-trans : (xs ys zs : List (ℕ × Sort)) → Among xs ys → Among ys zs → Among xs zs
among-trans xs ys zs f g = all-weaker (Contains ys) (Contains zs) xs (λ x h. All-contains (Contains zs) ys x (All-from_recursion (Contains zs) ys g) h) f

among-left : (xs ys zs : List (ℕ × Sort)) → Among xs ys → Among xs (ys ++ zs)
among-left xs ys zs f = all-weaker (Contains ys) (Contains (ys ++ zs)) xs (λ x h. Contains-append_left ys zs x h) f

pub among-right : (xs ys zs : List (ℕ × Sort)) → Among xs zs → Among xs (ys ++ zs)
among-right xs ys zs f = all-weaker (Contains zs) (Contains (ys ++ zs)) xs (λ x h. Contains-append_right ys zs x h) f

-- the constants and the variables of one tree are among those of another, and of some trees
pub record HasLeavesIn (u : Tree) (constants variables : List (ℕ × Sort)) : Type 0 where
  pub constants_in : Among (constants_of u) constants
  pub variables_in : Among (free_levels u) variables

pub record HaveLeavesIn (us : Trees) (constants variables : List (ℕ × Sort)) : Type 0 where
  pub constants_in : Among (constants_of_all us) constants
  pub variables_in : Among (free_levels_of_all us) variables

pub leaves-itself : (t : Tree) → HasLeavesIn t (constants_of t) (free_levels t)
leaves-itself t = record { constants_in = among-itself (constants_of t); variables_in = among-itself (free_levels t) }

pub leaves-trans : (u : Tree) (c v d w : List (ℕ × Sort)) → HasLeavesIn u c v → Among c d → Among v w → HasLeavesIn u d w
leaves-trans u c v d w h f g = record { constants_in = among-trans (constants_of u) c d h.constants_in f; variables_in = among-trans (free_levels u) v w h.variables_in g }

pub in-first : (u t : Tree) (ts : Trees) → HasLeavesIn u (constants_of t) (free_levels t) → HasLeavesIn u (constants_of_all (Cons t ts)) (free_levels_of_all (Cons t ts))
in-first u t ts h = record {
  constants_in = among-left (constants_of u) (constants_of t) (constants_of_all ts) h.constants_in;
  variables_in = among-left (free_levels u) (free_levels t) (free_levels_of_all ts) h.variables_in;
}

in-others : (u t : Tree) (ts : Trees) → HasLeavesIn u (constants_of_all ts) (free_levels_of_all ts) → HasLeavesIn u (constants_of_all (Cons t ts)) (free_levels_of_all (Cons t ts))
in-others u t ts h = record {
  constants_in = among-right (constants_of u) (constants_of t) (constants_of_all ts) h.constants_in;
  variables_in = among-right (free_levels u) (free_levels t) (free_levels_of_all ts) h.variables_in;
}

-- a subtree
is-same : (u t : Tree) → u ≡ t → HasLeavesIn u (constants_of t) (free_levels t)
is-same u t e = subst (λ (x : Tree). HasLeavesIn x (constants_of t) (free_levels t)) (sym e) (leaves-itself t)

mutual
  within-leaves : (u t : Tree) → IsWithin u t → HasLeavesIn u (constants_of t) (free_levels t)
  within-leaves u (Constant i s) h = is-same u (Constant i s) h
  within-leaves u (Variable l s) h = is-same u (Variable l s) h
  within-leaves u (Literal s n) h = is-same u (Literal s n) h
  within-leaves u (Apply o ts) (inl h) = within-leaves_each u ts h
  within-leaves u (Apply o ts) (inr e) = is-same u (Apply o ts) e
  within-leaves u (ForAll l s t) h = is-same u (ForAll l s t) h
  within-leaves u (Exists l s t) h = is-same u (Exists l s t) h

  within-leaves_each : (u : Tree) (ts : Trees) → IsWithinEach u ts → HasLeavesIn u (constants_of_all ts) (free_levels_of_all ts)
  within-leaves_each u Nil h = absurd h
  within-leaves_each u (Cons t ts) (inl h) = in-first u t ts (within-leaves u t h)
  within-leaves_each u (Cons t ts) (inr h) = in-others u t ts (within-leaves_each u ts h)

pub part-leaves : (u : Tree) (ts : Trees) → IsPart u ts → HasLeavesIn u (constants_of_all ts) (free_levels_of_all ts)
part-leaves u ts (inl l) = subst (λ (x : Tree). HasLeavesIn x (constants_of_all ts) (free_levels_of_all ts)) (sym l.2) (record { constants_in = tt; variables_in = tt })
part-leaves u ts (inr h) = within-leaves_each u ts h

-- a pass
finish : (r : Rule) (o : Op) (us : Trees) (c v : List (ℕ × Sort)) → HaveLeavesIn us c v → HasLeavesIn (unwrap_or (rewritten r o us) (Apply o us)) c v
finish r o us c v h = go (rewritten r o us) (rewritten-part r o us)
  where
    go : (q : Option Tree) → ((u : Tree) → q ≡ Some u → IsPart u us) → HasLeavesIn (unwrap_or q (Apply o us)) c v
    go None part = record { constants_in = h.constants_in; variables_in = h.variables_in }
    go (Some u) part =
        leaves-trans u (constants_of_all us) (free_levels_of_all us) c v (part-leaves u us (part u refl)) h.constants_in h.variables_in

mutual
  pub passed-leaves : (r : Rule) (t : Tree) → HasLeavesIn (passed r t) (constants_of t) (free_levels t)
  passed-leaves r (Constant i s) = leaves-itself (Constant i s)
  passed-leaves r (Variable l s) = leaves-itself (Variable l s)
  passed-leaves r (Literal s n) = leaves-itself (Literal s n)
  passed-leaves r (Apply o ts) = finish r o (passed_each r ts) (constants_of_all ts) (free_levels_of_all ts) (each-leaves r ts)
  passed-leaves r (ForAll l s t) = leaves-itself (ForAll l s t)
  passed-leaves r (Exists l s t) = leaves-itself (Exists l s t)

  each-leaves : (r : Rule) (ts : Trees) → HaveLeavesIn (passed_each r ts) (constants_of_all ts) (free_levels_of_all ts)
  each-leaves r Nil = record { constants_in = tt; variables_in = tt }
  each-leaves r (Cons t ts) =
      let first = in-first (passed r t) t ts (passed-leaves r t) in
      let others = each-leaves r ts in
      let us = passed_each r ts in
      record {
        constants_in = both (Contains (constants_of_all (Cons t ts))) (constants_of (passed r t)) (constants_of_all us) first.constants_in
            (among-right (constants_of_all us) (constants_of t) (constants_of_all ts) others.constants_in);
        variables_in = both (Contains (free_levels_of_all (Cons t ts))) (free_levels (passed r t)) (free_levels_of_all us) first.variables_in
            (among-right (free_levels_of_all us) (free_levels t) (free_levels_of_all ts) others.variables_in);
      }
