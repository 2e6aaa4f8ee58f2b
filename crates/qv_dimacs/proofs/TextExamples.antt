-- What texts say, computed.
use Rattle.std.proofs.Common.{◌≡◌, ℕ, true, false, [], ◌∷◌, refl}
use Rattle.std.specs.Prelude.{codes}
use Rattle.qv_cnf.specs.Literal.{Literal}
use Rattle.qv_lrat_text.specs.Decimal.{number_from, signed_number}
use Rattle.qv_lrat_text.specs.Grammar.{literal_in}
use Rattle.qv_dimacs.specs.declared.faults.DimacsKind.TheVariants.{ProblemLine, Number, Unfinished}
use Rattle.qv_dimacs.specs.Text.{is_white, lines_from}
use Rattle.qv_dimacs.specs.Clauses.{Clauses, Faulty, is_numeral, clauses_from, dimacs_of}

abbrev p : ℕ → Literal
p v = record { variable = v; positive = true }

abbrev m : ℕ → Literal
m v = record { variable = v; positive = false }

-- Clauses over lines, comments among them, a leading zero, an empty clause, and `%`.
plain :
    dimacs_of (codes "p cnf 2 2\n1 -2 0\n2 0\n")
    ∷ dimacs_of (codes "c a\n\n p  cnf 0 9\n1\n c 7\n-02 0 0\n")
    ∷ dimacs_of (codes "p cnf 1 1\n1 0 %\n2 x")
    ∷ dimacs_of (codes "p cnf 0 0") ∷ []
    ≡ Clauses ((p 1 ∷ m 2 ∷ []) ∷ (p 2 ∷ []) ∷ [])
    ∷ Clauses ((p 1 ∷ m 2 ∷ []) ∷ [] ∷ [])
    ∷ Clauses ((p 1 ∷ []) ∷ [])
    ∷ Clauses [] ∷ []
unfolding dimacs_of lines_from clauses_from is_white is_numeral literal_in signed_number number_from
plain = refl

-- No problem line, and one of another form.
problem_lines :
    dimacs_of (codes "")
    ∷ dimacs_of (codes "c p cnf 1 1\n")
    ∷ dimacs_of (codes "\np cnf 1\n")
    ∷ dimacs_of (codes "p cnf 01 2\n1 0\n")
    ∷ dimacs_of (codes " 1 0\n") ∷ []
    ≡ Faulty 0 Unfinished
    ∷ Faulty 12 Unfinished
    ∷ Faulty 1 ProblemLine
    ∷ Faulty 0 ProblemLine
    ∷ Faulty 1 ProblemLine ∷ []
unfolding dimacs_of lines_from clauses_from is_white is_numeral literal_in signed_number number_from
problem_lines = refl

-- A word that is no literal, and a clause without its `0`.
clauses :
    dimacs_of (codes "p cnf 1 1\n1 x\n")
    ∷ dimacs_of (codes "p cnf 1 1\n1 0\n-0 0\n")
    ∷ dimacs_of (codes "p cnf 1 1\n1 % 0\n")
    ∷ dimacs_of (codes "p cnf 1 1\n1 0\n2\n3")
    ∷ dimacs_of (codes "p cnf 1 1\n1073741825 0\n") ∷ []
    ≡ Faulty 12 Number
    ∷ Faulty 14 Number
    ∷ Faulty 12 Number
    ∷ Faulty 14 Unfinished
    ∷ Faulty 10 Number ∷ []
unfolding dimacs_of lines_from clauses_from is_white is_numeral literal_in signed_number number_from
clauses = refl
