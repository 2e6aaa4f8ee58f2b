-- How much a search may still do.
use Rattle.std.specs.Prelude.{ℕ, ◌+◌, if◌then◌else◌, List, [], ◌∷◌, length, Option, Some, None}
use Rattle.qv_cnf.specs.Listing.{Numbered, clause_named}
use Rattle.qv_cnf.specs.Literal.{Literal}
use Rattle.qv_learn.specs.Marking.{marked}
use Rattle.qv_learn.specs.Searching.{Searched}
use Rattle.qv_watch.specs.Entries.{Entry}
use Rattle.qv_watch.specs.TrailState.{TrailState}

-- how many literals a clause has, if there is one
abbrev pub length_in : Option (List Literal) → ℕ
length_in None = 0
length_in (Some lits) = length lits

-- how many the clause of that id has, if there is one
abbrev pub length_of : List Numbered → Option ℕ → ℕ
length_of clauses None = 0
length_of clauses (Some id) = length_in (clause_named id clauses)

-- each entry whose variable wasn't met may be visited and left, and its reason's literals visited
abbrev pub effort_of : List Numbered → List ℕ → List Entry → ℕ
effort_of clauses marks [] = 0
effort_of clauses marks (e ∷ es) = (if marked marks e.lit.variable then 0 else length_of clauses e.reason + 2) + effort_of clauses marks es

-- and the tasks are done
abbrev pub effort : TrailState → Searched → ℕ
effort t s = effort_of t.clauses s.marks t.entries + length s.tasks
