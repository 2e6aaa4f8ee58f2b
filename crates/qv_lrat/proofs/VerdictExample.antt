-- What proofs come to beside texts, computed from the definition.
use Rattle.std.specs.Prelude.{◌≡◌, ℕ, List, [], ◌∷◌, map, codes}
use Rattle.std.specs.Fmt.{digits}
use Rattle.std.proofs.Common.{refl}
use Rattle.qv_cert.specs.declared.kind.RefusalKind.TheVariants as kind
use Rattle.qv_cert.specs.Text.{text_of}
use Rattle.qv_check_laws.specs.Verdict.{IsAccepted, ScriptFault, IsRefused}
use Rattle.qv_dimacs.specs.Clauses.{clauses_from, dimacs_of, is_numeral}
use Rattle.qv_dimacs.specs.Text.{is_white, lines_from}
use Rattle.qv_lrat_text.specs.Decimal.{number_from, signed_number}
use Rattle.qv_lrat_text.specs.Grammar.{literal_in, lrat_line, numbers_to_zero}
use Rattle.qv_lrat_text.specs.Words.{is_blank, words}
use Rattle.qv_lrat.specs.Verdict.{Judged, faulty, judged_beside, judged_lines}

-- the judgements of proofs beside a text
abbrev beside : List ℕ → List (List ℕ) → List Judged
beside cnf proofs = map (judged_beside (dimacs_of cnf)) proofs

-- one variable and its negation: with an LF and without; nothing; a later id that isn't above; what
-- comes behind is held to the grammar
opposite :
    beside (codes "p cnf 1 2\n1 0\n-1 0\n") (codes "3 0 1 2 0\n" ∷ codes "3 0 1 2 0" ∷ [] ∷ codes "2 0 1 2 0\n" ∷ codes "3 0 1 2 0\n1 0 -9 0\n" ∷ codes "3 0 1 2 0\n1 0\n" ∷ [])
    ≡ IsAccepted ∷ IsAccepted ∷ IsRefused 1 kind.Refutation ∷ IsRefused 1 kind.Id ∷ IsAccepted ∷ IsRefused 2 kind.Form ∷ []
unfolding text_of judged_lines dimacs_of clauses_from is_numeral is_white lines_from number_from signed_number literal_in lrat_line numbers_to_zero is_blank words
opposite = refl

-- all signs of two variables; and lines with groups, of two further ones
both-signs :
    beside (codes "p cnf 2 4\n1 2 0\n-1 2 0\n1 -2 0\n-1 -2 0\n")
    (codes "5 2 0 1 2 0\n6 0 5 3 4 0\n" ∷ codes "5 2 0 1 3 0\n6 0 5 3 4 0\n" ∷ codes "5 3 4 0 0\n6 -3 -4 0 -5 0\n7 2 0 1 2 0\n8 0 7 3 4 0\n" ∷ codes "5 3 4 0 0\n6 -3 -4 0 0\n" ∷ codes "5 3 4 0 0\n6 -3 -4 0 -1 0\n" ∷ [])
    ≡ IsAccepted ∷ IsRefused 1 (kind.Hint 2) ∷ IsAccepted ∷ IsRefused 2 kind.Open ∷ IsRefused 2 (kind.Rat 1) ∷ []
unfolding text_of judged_lines dimacs_of clauses_from is_numeral is_white lines_from number_from signed_number literal_in lrat_line numbers_to_zero is_blank words
both-signs = refl

-- a fault of the text
text_fault : beside (codes "p cnf 1 1\n1 x\n") ([] ∷ []) ≡ ScriptFault (codes "(error \"at 12: number\")\n") ∷ []
unfolding text_of faulty digits judged_lines dimacs_of clauses_from is_numeral is_white lines_from number_from signed_number literal_in lrat_line numbers_to_zero is_blank words
text_fault = refl
