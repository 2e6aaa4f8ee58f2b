-- What texts say, computed.
use Rattle.std.proofs.Common.{◌≡◌, ℕ, true, false, [], ◌∷◌, refl}
use Rattle.std.specs.Prelude.{codes}
use Rattle.qv_cnf.specs.Literal.{Literal}
use Rattle.qv_lrat_text.specs.Decimal.{number_from, signed_number}
use Rattle.qv_lrat_text.specs.Grammar.{literal_in}
use Rattle.qv_store.specs.declared.problem.Quant.TheVariants.{Exists, Forall}
use Rattle.qv_dimacs.specs.Text.{is_white, lines_from}
use Rattle.qv_dimacs.specs.Clauses.{is_numeral}
use Rattle.qv_qdimacs.specs.declared.files.Quantified.{Quantified}
use Rattle.qv_qdimacs.specs.declared.faults.QdimacsKind.TheVariants.{Number, Unfinished, Repeated, Quantifier}
use Rattle.qv_qdimacs.specs.Text.{File, Faulty, clauses_from, parts_from, qdimacs_of}

abbrev p : ℕ → Literal
p v = record { variable = v; positive = true }

abbrev m : ℕ → Literal
m v = record { variable = v; positive = false }

abbrev a : ℕ → Quantified
a v = record { quant = Forall; variable = v }

abbrev e : ℕ → Quantified
e v = record { quant = Exists; variable = v }

-- Parts over lines, neighbours of one quantifier, an empty part, a universal innermost part, none
-- at all, and `%` where a clause may begin.
plain :
    qdimacs_of (codes "p cnf 2 2\na 1 0\ne 2 0\n1 2 0\n-1 -2 0\n")
    ∷ qdimacs_of (codes "p cnf 1 1\ne 3\n02 0 e 0 e 1 0\nc a 7\na 4 0 0")
    ∷ qdimacs_of (codes "p cnf 1 1\n1 0\n")
    ∷ qdimacs_of (codes "p cnf 1 1\na 1 0 % x") ∷ []
    ≡ File (a 1 ∷ e 2 ∷ []) ((p 1 ∷ p 2 ∷ []) ∷ (m 1 ∷ m 2 ∷ []) ∷ [])
    ∷ File (e 3 ∷ e 2 ∷ e 1 ∷ a 4 ∷ []) ([] ∷ [])
    ∷ File [] ((p 1 ∷ []) ∷ [])
    ∷ File (a 1 ∷ []) [] ∷ []
unfolding qdimacs_of lines_from parts_from clauses_from is_white is_numeral literal_in signed_number number_from
plain = refl

-- A variable that is quantified twice, words that are no variables, parts that don't end.
parts :
    qdimacs_of (codes "p cnf 1 1\ne 1 0\na 1 0\n1 0\n")
    ∷ qdimacs_of (codes "p cnf 1 1\ne 1 1 0\n")
    ∷ qdimacs_of (codes "p cnf 1 1\ne -1 0\n")
    ∷ qdimacs_of (codes "p cnf 1 1\ne 00 0\n")
    ∷ qdimacs_of (codes "p cnf 1 1\ne 1073741825 0\n")
    ∷ qdimacs_of (codes "p cnf 1 1\ne a 0\n")
    ∷ qdimacs_of (codes "p cnf 1 1\n a 1\n") ∷ []
    ≡ Faulty 18 Repeated ∷ Faulty 14 Repeated ∷ Faulty 12 Number ∷ Faulty 12 Number ∷ Faulty 12 Number ∷ Faulty 12 Number ∷ Faulty 11 Unfinished ∷ []
unfolding qdimacs_of lines_from parts_from clauses_from is_white is_numeral literal_in signed_number number_from
parts = refl

-- A quantifier behind a clause, and within one.
quantifiers :
    qdimacs_of (codes "p cnf 1 1\n0 a 1 0\n")
    ∷ qdimacs_of (codes "p cnf 1 1\n1 0\ne 1 0\n")
    ∷ qdimacs_of (codes "p cnf 1 1\n1 a 0\n")
    ∷ qdimacs_of (codes "p cnf 1 1\n1 0 2 e 0\n")
    ∷ qdimacs_of (codes "p cnf 1 1\nb 1 0\n") ∷ []
    ≡ Faulty 12 Quantifier ∷ Faulty 14 Quantifier ∷ Faulty 12 Number ∷ Faulty 16 Number ∷ Faulty 10 Number ∷ []
unfolding qdimacs_of lines_from parts_from clauses_from is_white is_numeral literal_in signed_number number_from
quantifiers = refl
