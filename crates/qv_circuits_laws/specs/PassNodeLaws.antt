-- Passes add no nodes.
use Rattle.std.specs.Prelude.{◌≤◌, List, [], ◌∷◌, length}
use Rattle.qv_words.specs.Tree.{Tree}
use Rattle.qv_words.specs.Clauses.{nodes}
use Rattle.qv_words.specs.declared.rule.Rule.{Rule}
use Rattle.qv_words.specs.Passes.{passed, passes_by, passes}

-- a pass adds no distinct nodes to a formula
abbrev pub PassAddsNoNodes : Type 0
PassAddsNoNodes = (r : Rule) (t : Tree) → length (nodes (passed r t ∷ [])) ≤ length (nodes (t ∷ []))

-- nor do passes in a row to a list of formulas
abbrev pub PassesAddNoNodes : Type 0
PassesAddNoNodes = (rules : List Rule) (formulas : List Tree) → length (nodes (passes_by rules formulas)) ≤ length (nodes formulas)

-- nor all ten in order
abbrev pub AllPassesAddNoNodes : Type 0
AllPassesAddNoNodes = (formulas : List Tree) → length (nodes (passes formulas)) ≤ length (nodes formulas)
