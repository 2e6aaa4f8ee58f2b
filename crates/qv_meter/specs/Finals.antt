-- What is refuted in the end: the goal of the terms, or the leaves of the lines, that are drawn
-- from a list with a winner, behind some passes.
use Rattle.std.specs.Prelude.{ℕ, ◌+◌, List, [], ◌∷◌, length}
use Rattle.qv_words.specs.Tree.{Tree}
use Rattle.qv_words.specs.Problem.{Problem, Quantifier, Existential, Universal}
use Rattle.qv_words.specs.Skolem.{goal_of}
use Rattle.qv_words.specs.Expansion.{leaves_of}
use Rattle.qv_words.specs.Linked.{Entry, chain, tree_of}
use Rattle.qv_rewrite_passes.specs.Passes.{IsBehind}

abbrev pub first_list : Problem → Quantifier → List Entry → List Tree
first_list p Existential entries = goal_of p (chain p entries) ∷ []
first_list p Universal entries = leaves_of p (tree_of p entries)

abbrev pub IsFinalList : Problem → Quantifier → List Entry → List Tree → Type 0
IsFinalList p winner entries formulas = IsBehind (first_list p winner entries) formulas

-- how many instances are charged up to there: the entries, and where the universal player wins the
-- lines too
abbrev pub instances_of : Problem → Quantifier → List Entry → ℕ
instances_of p Existential entries = length entries
instances_of p Universal entries = length entries + length (tree_of p entries)
