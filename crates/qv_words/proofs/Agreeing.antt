-- Values that agree on a tree's free leaves give it one meaning.
use Rattle.std.proofs.Common.{◌≡◌, ℕ, Option, List, sym, ◌∙◌, inl, inr, slice_get}
use Rattle.std.specs.List.{AllByRecursion}
use Rattle.qv_words.specs.declared.sort.Sort.{Sort}
use Rattle.qv_words.specs.Tree.{Tree, Trees, Constant, Variable, Literal, Apply, ForAll, Exists, Nil, Cons}
use Rattle.qv_words.specs.Sorted.{with_level, constants_of, constants_of_all, free_levels, free_levels_of_all}
use Rattle.qv_words.specs.Meaning.{Means, MeanAll}
use Rattle.qv_words.proofs.Leaves.{front, back, Agree, agree_below}

-- two lists of values agree at a constant
abbrev pub SameConstant : List ℕ → List ℕ → ℕ × Sort → Type 0
SameConstant c d leaf = slice_get c leaf.0 ≡ slice_get d leaf.0

mutual
  pub same_meaning : (t : Tree) (c d : List ℕ) (e f : ℕ → Option ℕ) (v : ℕ) → AllByRecursion (SameConstant c d) (constants_of t) → AllByRecursion (Agree e f) (free_levels t) → Means c e t v → Means d f t v
  same_meaning (Constant i s) c d e f v g h m = sym g.0 ∙ m
  same_meaning (Variable l s) c d e f v g h m = sym h.0 ∙ m
  same_meaning (Literal s n) c d e f v g h m = m
  same_meaning (Apply o args) c d e f v g h m = (m.0, m.1, m.2, same_meaning_each args c d e f m.1 g h m.3, m.4)
  same_meaning (ForAll l s body) c d e f v g h (inl m) =
      inl (m.0, λ u fits. same_meaning body c d (with_level e l u) (with_level f l u) 1 g (agree_below e f l u (free_levels body) h) (m.1 u fits))
  same_meaning (ForAll l s body) c d e f v g h (inr m) =
      inr (m.0, (m.1.0, m.1.1, same_meaning body c d (with_level e l m.1.0) (with_level f l m.1.0) 0 g (agree_below e f l m.1.0 (free_levels body) h) m.1.2))
  same_meaning (Exists l s body) c d e f v g h (inl m) =
      inl (m.0, (m.1.0, m.1.1, same_meaning body c d (with_level e l m.1.0) (with_level f l m.1.0) 1 g (agree_below e f l m.1.0 (free_levels body) h) m.1.2))
  same_meaning (Exists l s body) c d e f v g h (inr m) =
      inr (m.0, λ u fits. same_meaning body c d (with_level e l u) (with_level f l u) 0 g (agree_below e f l u (free_levels body) h) (m.1 u fits))

  pub same_meaning_each : (ts : Trees) (c d : List ℕ) (e f : ℕ → Option ℕ) (vs : List ℕ) → AllByRecursion (SameConstant c d) (constants_of_all ts) → AllByRecursion (Agree e f) (free_levels_of_all ts) → MeanAll c e ts vs → MeanAll d f ts vs
  same_meaning_each Nil c d e f vs g h m = m
  same_meaning_each (Cons t ts) c d e f vs g h m = (
    m.0,
    m.1,
    same_meaning t c d e f m.0 (front (SameConstant c d) (constants_of t) (constants_of_all ts) g) (front (Agree e f) (free_levels t) (free_levels_of_all ts) h) m.2,
    same_meaning_each ts c d e f m.1 (back (SameConstant c d) (constants_of t) (constants_of_all ts) g) (back (Agree e f) (free_levels t) (free_levels_of_all ts) h) m.3,
    m.4,
  )
