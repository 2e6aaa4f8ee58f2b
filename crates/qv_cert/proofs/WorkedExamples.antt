-- Worked examples of lines, computed.
use Rattle.std.proofs.Common.{◌≡◌, ℕ, true, false, List, [], ◌∷◌, refl, codes}
use Rattle.std.specs.Prelude.{Ok, Err, map}
use Rattle.qv_words.specs.declared.sort.Sort.TheVariants.{Bits}
use Rattle.qv_words.specs.declared.sort.Sort.TheVariants.{Bool as BoolSort}
use Rattle.qv_words.specs.declared.op.Op.TheVariants.{Concat, Extract}
use Rattle.qv_words.specs.declared.op.Answer.TheVariants.{Unsat}
use Rattle.qv_words.specs.Tree.{Variable}
use Rattle.qv_words.specs.declared.rule.Rule.TheVariants.{NotNot}
use Rattle.qv_rewrite_passes.specs.declared.pass.Pass.TheVariants.{By, Sum, Xor, Simp}
use Rattle.qv_words.specs.Clauses.{cnf_variables, variables_from}
use Rattle.qv_cnf.specs.LratLine.{Deletion}
use Rattle.qv_lrat_text.specs.Words.{words, is_blank}
use Rattle.qv_lrat_text.specs.Decimal.{number_from}
use Rattle.qv_lrat_text.specs.Grammar.{numbers_to_zero}
use Rattle.qv_cert.specs.declared.kind.RefusalKind.TheVariants as kind
use Rattle.qv_words.specs.Rules.{rule_named}
use Rattle.qv_sorts.specs.Search.{operator_named}
use Rattle.qv_cert.specs.Line.{Header, Check, LiteralNode, OperatorNode, Instance, Rewrite, Step, End}
use Rattle.qv_cert.specs.Grammar.{Reading, cert_line}
use Rattle.qv_cert.specs.ClauseList.{variables_of}
use Rattle.qv_cert.specs.Text.{AtEnd, Faulty, text_of, next_of}

-- a line's text outside the refutation, and what it is read as
abbrev Row : Type 0
Row = List ℕ × Reading

abbrev AreRight : List Row → Type 0
AreRight table = map (λ row. cert_line false row.0) table ≡ map (λ row. row.1) table

lines : List Row
lines =
    (codes "qbv-cert 2", Ok (Header 2))
    ∷ (codes "i 3 0 2", Ok (Instance 3 0 2))
    ∷ (codes "  i\t3 000\r2 \n", Ok (Instance 3 0 2))
    ∷ (codes "check 1 unsat", Ok (Check 1 Unsat))
    ∷ (codes "n 1 c 0 1", Ok (LiteralNode 1 BoolSort 1))
    ∷ (codes "n 7 o extract 3 0 : 2", Ok (OperatorNode 7 (Extract 3 0) (2 ∷ [])))
    ∷ (codes "n 7 o concat : 2 3", Ok (OperatorNode 7 Concat (2 ∷ 3 ∷ [])))
    ∷ (codes "w not-not", Ok (Rewrite (By NotNot)))
    ∷ (codes "w sum", Ok (Rewrite Sum))
    ∷ (codes "w xor", Ok (Rewrite Xor))
    ∷ (codes "w simp", Ok (Rewrite Simp))
    ∷ (codes "end", Ok End)
    ∷ (codes "qbv-cert 3", Err kind.Header)
    ∷ (codes "qbv-cert 01", Err kind.Header)
    ∷ (codes "", Err kind.Form)
    ∷ (codes "1 d 0", Err kind.Form)
    ∷ (codes "n 1 c 0 4611686018427387904 0", Err kind.Form)
    ∷ (codes "n 4611686018427387904 c 0 1", Err kind.Form)
    ∷ (codes "n 1 o bvfoo : x", Err kind.Form)
    ∷ (codes "n 1 o bvfoo : 1", Err kind.Operator)
    ∷ (codes "n 1 o extract 3 : 1", Err kind.Operator)
    ∷ (codes "w melt", Err kind.Rule)
    ∷ (codes "w summ", Err kind.Rule)
    ∷ (codes "n 1 c 129 0", Err kind.Literal)
    ∷ (codes "n 1 c 2 4", Err kind.Literal)
    ∷ []

lines-are-right : AreRight lines
unfolding lines cert_line words is_blank number_from rule_named operator_named
lines-are-right = refl

-- in the refutation
deletion : cert_line true (codes "9 d 1 2 0") ≡ Ok (Step (Deletion 9 (1 ∷ 2 ∷ [])))
unfolding cert_line words is_blank number_from numbers_to_zero
deletion = refl

no-node : cert_line true (codes "n 1 c 0 1") ≡ Err kind.Form
unfolding cert_line words is_blank number_from numbers_to_zero
no-node = refl

-- two lines, and bytes behind the last LF
cut : text_of (codes "qbv-cert 1\n\nche") ≡ record { lines = codes "qbv-cert 1" ∷ [] ∷ []; rest = codes "che" }
unfolding text_of
cut = refl

-- what is left of it behind two lines
cut-line : next_of 2 false [] (codes "che") ≡ Faulty kind.Truncated
cut-line = refl

at-end : next_of 2 false [] [] ≡ AtEnd
at-end = refl

-- the first line has to be a header, and the others none
check-first : next_of 0 false (codes "check 1 unsat" ∷ []) [] ≡ Faulty kind.Header
unfolding cert_line words is_blank number_from
check-first = refl

-- variable 1, and one for each bit
variables-of-pair : variables_of (Variable 0 (Bits 2) ∷ []) ≡ 3
unfolding cnf_variables variables_from
variables-of-pair = refl
