-- A problem without places: nothing is played, and the matrix decides.
use Rattle.std.proofs.Common.{◌≡◌, ℕ, ◌+◌, ◌≤◌, length, List, [], ◌∷◌, map, refl, inr, arith}
use Rattle.std.proofs.lemmas.Bool.{false≢true}
use Rattle.qv_words.specs.declared.op.Op.TheVariants.{Xor}
use Rattle.qv_words.specs.Sorted.{no_levels}
use Rattle.qv_words.specs.Tree.{Tree}
use Rattle.qv_words.specs.Prenex.{binary}
use Rattle.qv_words.specs.Passes.{rules_in_order}
use Rattle.qv_words.specs.Problem.{Problem, Quantifier, Existential, Universal}
use Rattle.qv_words.specs.Linked.{Entry, chain, paths_of, tree_of}
use Rattle.qv_words.specs.GameLaws.{HasWon}
use Rattle.qv_rewrite_passes.specs.declared.pass.Pass.TheVariants.{By}
use Rattle.qv_meter.specs.Finals.{IsFinalList}
use Rattle.qv_meter.specs.Played.{IsPlayed}
use Rattle.qv_meter.specs.Units.{AreInstances, IsQuery, IsFinal, IsLineUnit}
use Rattle.qv_meter.proofs.Valuing.{value-means}
use Rattle.qv_meter.proofs.Words.{yes, no}

-- true
abbrev won : Problem
won = record { prefix = []; matrix = binary Xor yes no }

-- false
abbrev lost : Problem
lost = record { prefix = []; matrix = binary Xor no no }

-- no term, no line, no instance
nothing-drawn : chain won [] ≡ []
unfolding chain
nothing-drawn = refl

no-lines : tree_of lost [] ≡ []
unfolding tree_of
no-lines = refl

-- the goal is the negation of the matrix, and the one leaf is the matrix, both after the passes
goal : IsFinalList won Existential [] (no ∷ [])
unfolding chain
goal = (map By rules_in_order, refl)

leaf : IsFinalList lost Universal [] (no ∷ [])
unfolding tree_of
leaf = (map By rules_in_order, refl)

existential-wins : HasWon won Existential []
existential-wins = inr (refl, refl, value-means no_levels won.matrix 1 refl)

universal-wins : HasWon lost Universal []
universal-wins = inr (refl, refl, value-means no_levels lost.matrix 0 refl)

final-goal : IsFinal won 0 [] (no ∷ [])
unfolding chain
final-goal = record { winner = Existential; played = tt; won = existential-wins; counted = refl; list = goal }

final-leaf : IsFinal lost 0 [] (no ∷ [])
unfolding tree_of
final-leaf = record { winner = Universal; played = tt; won = universal-wins; counted = refl; list = leaf }

-- no query list, and no line
no-query : (n level : ℕ) (entries : List Entry) (winner : Quantifier) (formulas : List Tree) → IsQuery won n entries winner level formulas → ⊥
no-query n level entries winner formulas q = let high : level ≤ 1 = q.asked.high in omega (arith, q.asked.low, high)

no-line : (n : ℕ) (path : List ℕ) → IsLineUnit lost n [] path → ⊥
no-line n path unit = false≢true unit.won

-- and no instance counts
no-instance : (n : ℕ) → 1 ≤ n → AreInstances won n → ⊥
unfolding paths_of
no-instance n some h = of-list h.entries h.played h.counted h.of_tree.1
  where
    of-list : (entries : List Entry) → IsPlayed won entries → length entries + h.lines ≡ n → h.lines ≤ length (paths_of won entries) → ⊥
    of-list [] played count few = omega (arith, some, count, few)
    of-list (e ∷ es) played count few = let high : e.level ≤ 0 = played.0.links.high in omega (arith, played.0.links.low, high)
