-- A problem that the universal player wins, and one whose list takes two variables.
use Rattle.std.specs.Prelude.{ℕ, true, false, List, [], ◌∷◌}
use Rattle.qv_words.specs.declared.sort.Sort.TheVariants.{Bool as BoolSort}
use Rattle.qv_words.specs.Tree.{Variable, Literal}
use Rattle.qv_words.specs.Problem.{Place, Problem, Existential, Universal}
use Rattle.qv_words.specs.Linked.{Entry}
use Rattle.qv_cnf.specs.Listing.{Numbered}
use Rattle.qv_cnf.specs.LratLine.{LratLine, Deletion}
use Rattle.qv_cnf.specs.Derivation.{addition_of}

abbrev pub place : Place
place = record { quantifier = Existential; sort = BoolSort }

-- a truth value for which false is true
abbrev pub lost : Problem
lost = record { prefix = place ∷ []; matrix = Literal BoolSort 0 }

-- a truth value that is true
abbrev pub wide : Problem
wide = record { prefix = place ∷ []; matrix = Variable 0 BoolSort }

-- the universal player wins the lost one at once
abbrev pub first : Entry
first = record { level = 1; winner = Universal; region = Literal BoolSort 1; point = []; terms = []; links = [] }

-- the clauses of false
abbrev pub clauses_of_false : List Numbered
clauses_of_false = record { id = 1; lits = record { variable = 1; positive = true } ∷ [] }
    ∷ record { id = 2; lits = record { variable = 1; positive = false } ∷ [] } ∷ []

-- a clause without literals that follows from both, and is deleted
abbrev pub learnt : ℕ → LratLine
learnt id = addition_of id [] (1 ∷ 2 ∷ [])

abbrev pub undone : List LratLine
undone = learnt 3 ∷ Deletion 3 (3 ∷ []) ∷ []
