-- The clauses that a section comes to refute.
use Rattle.std.specs.Prelude.{ℕ, List, [], ◌∷◌}
use Rattle.qv_cnf.specs.Literal.{Literal}
use Rattle.qv_cnf.specs.Listing.{clauses_of}
use Rattle.qv_cert.specs.Section.{Task, State, Outcome, Opening, Refuting, GoesOn, Accepts, Refuses, step}

-- by what a line does
abbrev pub onward : (State → List (List Literal)) → Outcome → List (List Literal)
onward goes_on (GoesOn s) = goes_on s
onward goes_on (Accepts answer) = []
onward goes_on (Refuses k) = []

-- of these lines, from a state on: the clauses that are there where the refutation begins
unfoldable pub refuted_from : Task → State → List (List ℕ) → List (List Literal)
refuted_from task (Refuting answer s) lines = clauses_of s.live
refuted_from task s [] = []
refuted_from task s (line ∷ lines) = onward (λ next. refuted_from task next lines) (step task s line)

-- of a section's lines
abbrev pub refuted_in : Task → List (List ℕ) → List (List Literal)
refuted_in task lines = refuted_from task Opening lines
