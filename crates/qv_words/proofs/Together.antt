-- When formulas hold together.
use Rattle.std.proofs.Common.{◌≡◌, ℕ, List, [], ◌∷◌, ◌++◌, refl, sym, subst}
use Rattle.std.specs.List.{AllByRecursion}
use Rattle.std.proofs.lemmas.List.Elements.{recursion_from_All, All-from_recursion}
use Rattle.qv_words.specs.declared.sort.Sort.{Sort}
use Rattle.qv_words.specs.declared.sort.Sort.TheVariants.{Bool}
use Rattle.qv_words.specs.Tree.{Tree}
use Rattle.qv_words.specs.Sorted.{constants_of, free_levels, no_levels}
use Rattle.qv_words.specs.Meaning.{Means}
use Rattle.qv_words.specs.Truth.{AreTrue, constants_of_each}
use Rattle.qv_words.specs.TruthLaws.{NoFormulasAreTrue, PartsAreTrue, FixedTruth, ConstantsDecideTruth, AssertionsMeanTruth}
use Rattle.qv_words.proofs.Leaves.{front, back, Agree, HasValue}
use Rattle.qv_words.proofs.Agreeing.{SameConstant, same_meaning}
use Rattle.qv_words.proofs.Existing.{HasConstant, one_or_zero, some_meaning}

-- a formula means 1
abbrev IsTrueUnder : List ℕ → Tree → Type 0
IsTrueUnder c t = Means c no_levels t 1

agree-nothing : (xs : List (ℕ × Sort)) → AllByRecursion (Agree no_levels no_levels) xs
agree-nothing [] = tt
agree-nothing (x ∷ xs) = (refl, agree-nothing xs)

-- the constants of two lists of formulas
front-constants : (c : List ℕ) (xs ys : List Tree) → AllByRecursion (HasConstant c) (constants_of_each (xs ++ ys)) → AllByRecursion (HasConstant c) (constants_of_each xs)
front-constants c [] ys h = tt
front-constants c (x ∷ xs) ys h =
    join (constants_of x) (front (HasConstant c) (constants_of x) (constants_of_each (xs ++ ys)) h)
    (front-constants c xs ys (back (HasConstant c) (constants_of x) (constants_of_each (xs ++ ys)) h))
  where
    join : (leaves : List (ℕ × Sort)) → AllByRecursion (HasConstant c) leaves → AllByRecursion (HasConstant c) (constants_of_each xs) → AllByRecursion (HasConstant c) (leaves ++ constants_of_each xs)
    join [] f g = g
    join (leaf ∷ leaves) f g = (f.0, join leaves f.1 g)

back-constants : (c : List ℕ) (xs ys : List Tree) → AllByRecursion (HasConstant c) (constants_of_each (xs ++ ys)) → AllByRecursion (HasConstant c) (constants_of_each ys)
back-constants c [] ys h = h
back-constants c (x ∷ xs) ys h = back-constants c xs ys (back (HasConstant c) (constants_of x) (constants_of_each (xs ++ ys)) h)

true-by : (c : List ℕ) (formulas : List Tree) → AllByRecursion (HasConstant c) (constants_of_each formulas) → AllByRecursion (IsTrueUnder c) formulas → AreTrue formulas
true-by c formulas h m = (c, All-from_recursion (HasConstant c) (constants_of_each formulas) h, All-from_recursion (IsTrueUnder c) formulas m)

pub none-true : NoFormulasAreTrue
none-true = true-by [] [] tt tt

pub parts-true : PartsAreTrue
parts-true xs ys h =
    let there = recursion_from_All (HasConstant h.0) (constants_of_each (xs ++ ys)) h.1 in
    let hold = recursion_from_All (IsTrueUnder h.0) (xs ++ ys) h.2 in (
      true-by h.0 xs (front-constants h.0 xs ys there) (front (IsTrueUnder h.0) xs ys hold),
      true-by h.0 ys (back-constants h.0 xs ys there) (back (IsTrueUnder h.0) xs ys hold),
    )

-- values that agree on a formula's constants
one-decided : (c d : List ℕ) (t : Tree) → AllByRecursion (SameConstant c d) (constants_of t) → IsTrueUnder c t → IsTrueUnder d t
one-decided c d t h = same_meaning t c d no_levels no_levels 1 h (agree-nothing (free_levels t))

each-decided : (c d : List ℕ) (ts : List Tree) → AllByRecursion (SameConstant c d) (constants_of_each ts) → AllByRecursion (IsTrueUnder c) ts → AllByRecursion (IsTrueUnder d) ts
each-decided c d [] h m = tt
each-decided c d (t ∷ ts) h m = (
  one-decided c d t (front (SameConstant c d) (constants_of t) (constants_of_each ts) h) m.0,
  each-decided c d ts (back (SameConstant c d) (constants_of t) (constants_of_each ts) h) m.1,
)

pub constants-decide : ConstantsDecideTruth
constants-decide ts c d h m =
    All-from_recursion (IsTrueUnder d) ts
    (each-decided c d ts (recursion_from_All (SameConstant c d) (constants_of_each ts) h) (recursion_from_All (IsTrueUnder c) ts m))

-- where there are no constants
without-constants : (c d : List ℕ) (leaves : List (ℕ × Sort)) → leaves ≡ [] → AllByRecursion (SameConstant c d) leaves
without-constants c d leaves e = subst (AllByRecursion (SameConstant c d)) (sym e) tt

nothing-wanted : (leaves : List (ℕ × Sort)) → leaves ≡ [] → AllByRecursion (HasConstant []) (leaves ++ [])
nothing-wanted leaves e = subst (λ (xs : List (ℕ × Sort)). AllByRecursion (HasConstant []) (xs ++ [])) (sym e) tt

pub fixed-truth : FixedTruth
fixed-truth t none = (
  λ h. let each = recursion_from_All (IsTrueUnder h.0) (t ∷ []) h.2 in one-decided h.0 [] t (without-constants h.0 [] (constants_of t) none) each.0,
  λ m. true-by [] (t ∷ []) (nothing-wanted (constants_of t) none) (m, tt),
)

-- what may be asserted means 1 or 0
no-leaves : (leaves : List (ℕ × Sort)) → leaves ≡ [] → AllByRecursion (HasValue no_levels) leaves
no-leaves leaves e = subst (AllByRecursion (HasValue no_levels)) (sym e) tt

pub assertions-truth : AssertionsMeanTruth
assertions-truth t c h there =
    let each = front (HasConstant c) (constants_of t) [] (recursion_from_All (HasConstant c) (constants_of_each (t ∷ [])) there) in
    let m = some_meaning t no_levels c no_levels Bool h.sorted each (no-leaves (free_levels t) h.closed) h.bool in
    one_or_zero (Means c no_levels t) m.0 m.1 m.2
