-- Expansion trees as they are kept, beside a store.
use Rattle.std.specs.Prelude.{ℕ, ◌<◌, Option, Some, None, IfSome, List, map, length}
use Rattle.qv_words.specs.Tree.{Tree}
use Rattle.qv_words.specs.Expansion.{ExpansionLine, Instance, Eigen}
use Rattle.qv_words.specs.GameLaws.{MakesAllTrue}
use Rattle.qv_store.specs.Nodes.{tree_at}
use Rattle.qv_expand.specs.declared.tree.TreeLine.{TreeLine}

-- the line with a term or, without one, with a variable
abbrev pub line_with : List Tree → ℕ → Option ℕ → ExpansionLine
line_with trees parent None = Eigen parent
line_with trees parent (Some id) = Instance parent (tree_at trees id)

-- the lines that they are in a store
abbrev pub line_in : List Tree → TreeLine → ExpansionLine
line_in trees l = line_with trees l.parent l.instance

abbrev pub lines_in : List Tree → List TreeLine → List ExpansionLine
lines_in trees = map (line_in trees)

-- a line's term is one of the store
abbrev pub IsLineIn : List Tree → TreeLine → Type 0
IsLineIn trees l = IfSome l.instance (λ id. id < length trees)

-- no values make all formulas of a list true
abbrev pub AreNeverAllTrue : List Tree → Type 0
AreNeverAllTrue formulas = (e : ℕ → Option ℕ) → MakesAllTrue e formulas → ⊥
