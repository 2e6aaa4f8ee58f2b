-- The lines of a refutation, as contracts see them.
use Rattle.std.specs.Prelude.{ℕ, ℤ, List, map}
use Rattle.qv_cnf.specs.Literal.{Literal}
use Rattle.qv_cnf.specs.declared.steps.Step.{Step}
use Rattle.qv_cnf.specs.declared.steps.Step.TheVariants.{Add, Delete}

-- a line of a refutation: it adds a clause with hints, or takes clauses away
pub data LratLine : Type 0 where
  Addition : ℕ → List Literal → List ℤ → LratLine
  Deletion : ℕ → List ℕ → LratLine

-- what a step says, wherever its lists lie in memory
abbrev pub line_of : Step → LratLine
line_of (Add id lits hints) = Addition id lits.items hints.items
line_of (Delete id ids) = Deletion id ids.items

-- the same of each step
abbrev pub lines_of : List Step → List LratLine
lines_of steps = map line_of steps
