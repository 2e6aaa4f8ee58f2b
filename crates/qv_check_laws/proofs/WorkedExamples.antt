-- Worked examples of the verdict, computed: certificates, each with the answers and the end that it comes to.
use Rattle.std.proofs.Common.{◌≡◌, ℕ, List, [], ◌∷◌, refl, codes, map}
use Rattle.qv_words.specs.declared.sort.Sort.TheVariants.{Bits}
use Rattle.qv_words.specs.declared.sort.Sort.TheVariants.{Bool as BoolSort}
use Rattle.qv_words.specs.declared.op.Answer.{Answer}
use Rattle.qv_words.specs.declared.op.Answer.TheVariants.{Sat, Unsat, Unknown}
use Rattle.qv_words.specs.declared.op.Op.TheVariants.{And, Equal, Extract, BvAdd, BvMul, BvUge}
use Rattle.qv_words.specs.Tree.{Tree, Variable, Literal, Apply, Nil, Cons}
use Rattle.qv_words.specs.Prenex.{binary}
use Rattle.qv_words.specs.Problem.{Problem, Existential, Universal}
use Rattle.qv_words.specs.Gate.{gates_clauses}
use Rattle.qv_words.specs.Gate as circuits
use Rattle.qv_words.specs.Routine.{add, sel, each, and_all, or_all, carry, stages, rows, divided, copies, bits_of_number}
use Rattle.qv_words.specs.OpCircuit.{op_circuit}
use Rattle.qv_words.specs.Clauses.{cnf, cnf_variables, variables_from}
use Rattle.qv_lrat_text.specs.Words.{words, is_blank}
use Rattle.qv_lrat_text.specs.Decimal.{number_from, signed_number}
use Rattle.qv_lrat_text.specs.Grammar.{literal_in, numbers_to_zero, lrat_line}
use Rattle.qv_cert.specs.declared.kind.RefusalKind.TheVariants as kind
use Rattle.qv_words.specs.Rules.{rule_named}
use Rattle.qv_sorts.specs.Search.{operator_named}
use Rattle.qv_cert.specs.Grammar.{cert_line}
use Rattle.qv_cert.specs.Text.{text_of}
use Rattle.qv_cert.specs.Section.{judged_from}
use Rattle.qv_check_laws.specs.Verdict.{Script, Asks, Stops, Ends, Ending, IsAccepted, ScriptFault, IsRefused, Verdict, answers_of, verdict, verdict_from}

-- a certificate, and the answers and the end that it comes to
abbrev Row : Type 0
Row = List ℕ × List Answer × Ending ℕ

abbrev outcome : Verdict ℕ → List Answer × Ending ℕ
outcome v = (answers_of v, v.ending)

abbrev wanted : Row → List Answer × Ending ℕ
wanted row = (row.1, row.2)

abbrev AreRight : Script ℕ → List Row → Type 0
AreRight script table = map (λ row. outcome (verdict script row.0)) table ≡ map wanted table

-- a script that asks about one problem
abbrev asking : Problem → Script ℕ
asking p = Asks p (λ _. Ends)

abbrev constant : Tree → Problem
constant t = record { prefix = []; matrix = t }

abbrev truth : Problem
truth = constant (Literal BoolSort 1)

-- about true, false and true
abbrev asks_three : Script ℕ → Script ℕ
asks_three behind =
    Asks truth (λ _. Asks (constant (Literal BoolSort 0)) (λ _. Asks truth (λ _. behind)))

abbrev low_bit : Tree → Tree
low_bit t = Apply (Extract 0 0) (Cons t Nil)

abbrev siblings : Problem
siblings = record {
  prefix = record { quantifier = Universal; sort = Bits 2 } ∷ record { quantifier = Existential; sort = Bits 2 } ∷ [];
  matrix = binary And (binary Equal (low_bit (Variable 0 (Bits 2))) (Literal (Bits 1) 1)) (binary Equal (low_bit (Variable 1 (Bits 2))) (Literal (Bits 1) 0));
}

abbrev greatest : Problem
greatest = record {
  prefix = record { quantifier = Existential; sort = Bits 2 } ∷ record { quantifier = Universal; sort = Bits 2 } ∷ [];
  matrix = binary BvUge (Variable 0 (Bits 2)) (Variable 1 (Bits 2));
}

abbrev zero : Problem
zero = record {
  prefix = record { quantifier = Existential; sort = Bits 2 } ∷ record { quantifier = Universal; sort = Bits 2 } ∷ [];
  matrix = binary Equal (binary BvAdd (Variable 1 (Bits 2)) (Variable 0 (Bits 2))) (Variable 1 (Bits 2));
}

abbrev commutes : Problem
commutes = record {
  prefix = record { quantifier = Universal; sort = Bits 1 } ∷ record { quantifier = Universal; sort = Bits 1 } ∷ [];
  matrix = binary Equal (binary BvMul (Variable 0 (Bits 1)) (Variable 1 (Bits 1))) (binary BvMul (Variable 1 (Bits 1)) (Variable 0 (Bits 1)));
}

-- for a script that asserts nothing
asserts_nothing_rows : List Row
asserts_nothing_rows =
    (codes "qbv-cert 1\ncheck 1 sat\nlrat\n3 0 1 2 0\nend\n", Sat ∷ [], IsAccepted)
    ∷ (codes "qbv-cert 1\ncheck 1 unknown\nend\n", Unknown ∷ [], IsAccepted)
    ∷ (codes "qbv-cert 1\ncheck 1 unsat\nlrat\nend\n", [], IsRefused 4 kind.Refutation)
    ∷ ([], [], IsRefused 1 kind.Truncated)
    ∷ (codes "qbv-cert 1\ncheck 1 sat\nlrat\n3 ", [], IsRefused 4 kind.Truncated)
    ∷ (codes "qbv-cert 1\ncheck 1 sat\nlrat\n3 0 1 2 0\nend", [], IsRefused 5 kind.Truncated)
    ∷ (codes "qbv-cert 9\ncheck 1 sat\nlrat\n3 0 1 2 0\nend\n", [], IsRefused 1 kind.Header)
    ∷ (codes "qbv-cert 1\ncheck 2 sat\nlrat\n3 0 1 2 0\nend\n", [], IsRefused 2 kind.Section)
    ∷ (codes "qbv-cert 1\ncheck 1 sat\nlrat\n3 0 1 2 0\nend\ncheck 2 sat\n", Sat ∷ [], IsRefused 6 kind.Section)
    ∷ (codes "qbv-cert 1\ncheck 1 sat\nlrat\n3 0 1 2 0\nend\nend\n", Sat ∷ [], IsRefused 6 kind.Form)
    ∷ (codes "qbv-cert 1\ncheck 1 sat\nlrat\n2 0 1 2 0\nend\n", [], IsRefused 4 kind.Id)
    ∷ (codes "qbv-cert 1\ncheck 1 sat\nlrat\n3 0 1 0\nend\n", [], IsRefused 4 kind.Open)
    ∷ (codes "qbv-cert 1\ncheck 1 sat\nlrat\n3 0 -1 0\nend\n", [], IsRefused 4 (kind.Rat 1))
    ∷ (codes "qbv-cert 1\ncheck 1 sat\nlrat\n3 0 7 0\nend\n", [], IsRefused 4 (kind.Hint 1))
    ∷ (codes "qbv-cert 1\ncheck 1 sat\nlrat\n3 00 1 2 0\nend\n", [], IsRefused 4 kind.Form)
    ∷ (codes "qbv-cert 1\ncheck 1 sat\nn 2 c 0 1\nlrat\n3 0 1 2 0\nend\n", [], IsRefused 3 kind.Order)
    ∷ (codes "qbv-cert 1\ncheck 1 sat\nn 1 c 2 4\nlrat\n3 0 1 2 0\nend\n", [], IsRefused 3 kind.Literal)
    ∷ (codes "qbv-cert 1\ncheck 1 sat\nn 1 v 0\nlrat\n3 0 1 2 0\nend\n", [], IsRefused 3 kind.Place)
    ∷ (codes "qbv-cert 1\ncheck 1 sat\nn 1 g 1\nlrat\n3 0 1 2 0\nend\n", [], IsRefused 3 kind.Form)
    ∷ (codes "qbv-cert 1\ncheck 1 sat\nn 1 o not : 1\nlrat\n3 0 1 2 0\nend\n", [], IsRefused 3 kind.Node)
    ∷ (codes "qbv-cert 1\ncheck 1 sat\nn 1 c 2 3\nn 2 o not : 1\nlrat\n3 0 1 2 0\nend\n", [], IsRefused 4 kind.Rank)
    ∷ (codes "qbv-cert 1\ncheck 1 sat\nn 1 c 2 3\nn 2 o bvfoo : 1\nlrat\n3 0 1 2 0\nend\n", [], IsRefused 4 kind.Operator)
    ∷ (codes "qbv-cert 1\nn 1 o bvfoo : 1\nlrat\n3 0 1 2 0\nend\n", [], IsRefused 2 kind.Form)
    ∷ (codes "qbv-cert 1\ncheck 1 unsat\ne 1 0\nlrat\nend\n", [], IsRefused 3 kind.Parent)
    ∷ (codes "qbv-cert 1\ncheck 1 sat\nlrat\n3 5 6 0 0\n4 -5 -6 0 -3 0\n5 0 1 2 0\nend\n", Sat ∷ [], IsAccepted)
    ∷ (codes "qbv-cert 1\ncheck 1 sat\nlrat\n3 5 6 0 0\n4 -5 -6 0 0\n5 0 1 2 0\nend\n", [], IsRefused 5 kind.Open)
    ∷ (codes "qbv-cert 1\ncheck 1 sat\nlrat\n3 5 6 0 0\n4 -5 -6 0 -1 0\n5 0 1 2 0\nend\n", [], IsRefused 5 (kind.Rat 1))
    ∷ (codes "qbv-cert 2\ncheck 1 sat\nw fold\nlrat\n3 0 1 2 0\nend\n", Sat ∷ [], IsAccepted)
    ∷ (codes "qbv-cert 2\ncheck 1 sat\nw melt\nlrat\n3 0 1 2 0\nend\n", [], IsRefused 3 kind.Rule)
    ∷ (codes "qbv-cert 1\ncheck 1 sat\nw fold\nlrat\n3 0 1 2 0\nend\n", [], IsRefused 3 kind.Form)
    ∷ (codes "qbv-cert 2\ncheck 1 sat\nw fold\nn 1 c 0 1\nlrat\n3 0 1 2 0\nend\n", [], IsRefused 4 kind.Form)
    ∷ []

asserts_nothing : AreRight (asking truth) asserts_nothing_rows
unfolding asserts_nothing_rows verdict verdict_from text_of judged_from cert_line words is_blank rule_named operator_named number_from signed_number literal_in numbers_to_zero lrat_line cnf cnf_variables variables_from bits_of_number op_circuit add sel each and_all or_all carry stages rows divided copies gates_clauses circuits.◌>>=◌
asserts_nothing = refl

-- for the problem whose matrix wants the low bit of x set and that of y not, x universal and y existential
has_siblings_rows : List Row
has_siblings_rows =
    (codes "qbv-cert 1\ncheck 1 unsat\nn 1 c 2 1\ni 1 0 1\ne 2 1\nn 2 g 2\ni 3 0 2\ne 4 3\nlrat\n26 0 1 13 11 25 22 17 8 0\nend\n", Unsat ∷ [], IsAccepted)
    ∷ (codes "qbv-cert 1\ncheck 1 unsat\nn 1 c 2 1\ni 1 0 1\nn 2 g 2\ne 2 1\ni 3 0 2\ne 4 3\nlrat\n26 0 1 13 11 25 22 17 8 0\nend\n", [], IsRefused 5 kind.Eigenvariable)
    ∷ (codes "qbv-cert 1\ncheck 1 unsat\nn 1 c 2 1\ni 1 0 1\ne 2 1\nn 2 g 2\ni 3 0 2\ne 4 3\nlrat\n26 0 1 13 13 11 25 22 17 8 0\nend\n", [], IsRefused 10 (kind.Hint 3))
    ∷ (codes "qbv-cert 1\ncheck 1 unsat\nn 1 c 2 1\ni 1 0 1\ne 2 1\nn 2 g 2\ni 3 0 2\ne 4 3\nlrat\n26 0 1 13 11", [], IsRefused 10 kind.Truncated)
    ∷ (codes "qbv-cert 1\ncheck 1 unsat\nn 1 c 2 1\ne 1 0\ne 2 1\nn 2 g 2\ni 3 0 2\ne 4 3\nlrat\n26 0 1 13 11 25 22 17 8 0\nend\n", [], IsRefused 4 kind.Quantifier)
    ∷ (codes "qbv-cert 1\ncheck 1 unsat\nn 1 c 2 1\ni 1 0 1\ne 2 2\nn 2 g 2\ni 3 0 2\ne 4 3\nlrat\n26 0 1 13 11 25 22 17 8 0\nend\n", [], IsRefused 5 kind.Parent)
    ∷ (codes "qbv-cert 1\ncheck 1 unsat\nn 1 c 2 1\ni 1 0 1\ne 2 1\ne 3 2\nn 2 g 2\ni 3 0 2\ne 4 3\nlrat\n26 0 1 13 11 25 22 17 8 0\nend\n", [], IsRefused 6 kind.Parent)
    ∷ (codes "qbv-cert 1\ncheck 1 unsat\nn 1 c 3 1\ni 1 0 1\ne 2 1\nn 2 g 2\ni 3 0 2\ne 4 3\nlrat\n26 0 1 13 11 25 22 17 8 0\nend\n", [], IsRefused 4 kind.Sort)
    ∷ (codes "qbv-cert 1\ncheck 1 unsat\nn 1 c 2 1\ni 1 0 1\ne 2 1\nn 2 g 2\ni 3 0 2\ne 4 3\nlrat\n26 0 1 13 11 25 22 17 8 0\n1 0 -1 0\nend\n", Unsat ∷ [], IsAccepted)
    ∷ []

has_siblings : AreRight (asking siblings) has_siblings_rows
unfolding has_siblings_rows verdict verdict_from text_of judged_from cert_line words is_blank rule_named operator_named number_from signed_number literal_in numbers_to_zero lrat_line cnf cnf_variables variables_from bits_of_number op_circuit add sel each and_all or_all carry stages rows divided copies gates_clauses circuits.◌>>=◌
has_siblings = refl

-- for the problem that some x is at least every y
has_greatest_rows : List Row
has_greatest_rows =
    (codes "qbv-cert 1\ncheck 1 sat\nn 1 v 1\ns 0 1\nlrat\nend\n", [], IsRefused 4 kind.Dependence)
    ∷ (codes "qbv-cert 2\ncheck 1 sat\nn 1 c 2 3\nlrat\nend\n", [], IsRefused 4 kind.Missing)
    ∷ (codes "qbv-cert 2\ncheck 1 sat\nn 1 c 2 3\nw melt\nlrat\nend\n", [], IsRefused 4 kind.Rule)
    ∷ (codes "qbv-cert 2\ncheck 1 sat\nn 1 c 2 3\ns 1 1\nlrat\nend\n", [], IsRefused 4 kind.Place)
    ∷ (codes "qbv-cert 2\ncheck 1 sat\nn 1 c 2 3\ns 0 1\ns 0 1\nlrat\nend\n", [], IsRefused 5 kind.Repeated)
    ∷ (codes "qbv-cert 2\ncheck 1 sat\nn 1 c 3 3\ns 0 1\nlrat\nend\n", [], IsRefused 4 kind.Sort)
    ∷ (codes "qbv-cert 2\ncheck 1 unknown\nend\n", Unknown ∷ [], IsAccepted)
    ∷ []

has_greatest : AreRight (asking greatest) has_greatest_rows
unfolding has_greatest_rows verdict verdict_from text_of judged_from cert_line words is_blank rule_named operator_named number_from signed_number literal_in numbers_to_zero lrat_line cnf cnf_variables variables_from bits_of_number op_circuit add sel each and_all or_all carry stages rows divided copies gates_clauses circuits.◌>>=◌
has_greatest = refl

-- for the problem that some x changes no y when it is added
has_zero_rows : List Row
has_zero_rows =
    (codes "qbv-cert 2\ncheck 1 sat\nn 1 c 2 0\ns 0 1\nw add-zero\nw same\nw fold\nlrat\n3 0 1 2 0\nend\n", Sat ∷ [], IsAccepted)
    ∷ (codes "qbv-cert 1\ncheck 1 sat\nn 1 c 2 0\ns 0 1\nw add-zero\nw same\nw fold\nlrat\n3 0 1 2 0\nend\n", [], IsRefused 5 kind.Form)
    ∷ (codes "qbv-cert 2\ncheck 1 sat\nn 1 c 2 0\ns 0 1\nw melt\nw same\nw fold\nlrat\n3 0 1 2 0\nend\n", [], IsRefused 5 kind.Rule)
    ∷ []

has_zero : AreRight (asking zero) has_zero_rows
unfolding has_zero_rows verdict verdict_from text_of judged_from cert_line words is_blank rule_named operator_named number_from signed_number literal_in numbers_to_zero lrat_line cnf cnf_variables variables_from bits_of_number op_circuit add sel each and_all or_all carry stages rows divided copies gates_clauses circuits.◌>>=◌
has_zero = refl

-- for the problem that products are the same in either order, which the pass of sums makes true
commutes_rows : List Row
commutes_rows =
    (codes "qbv-cert 2\ncheck 1 sat\nw sum\nlrat\n3 0 1 2 0\nend\n", Sat ∷ [], IsAccepted)
    ∷ (codes "qbv-cert 2\ncheck 1 sat\nlrat\n3 0 1 2 0\nend\n", [], IsRefused 4 kind.Id)
    ∷ (codes "qbv-cert 2\ncheck 1 sat\nw fold\nlrat\n3 0 1 2 0\nend\n", [], IsRefused 5 kind.Id)
    ∷ (codes "qbv-cert 2\ncheck 1 sat\nw summ\nlrat\n3 0 1 2 0\nend\n", [], IsRefused 3 kind.Rule)
    ∷ (codes "qbv-cert 1\ncheck 1 sat\nw sum\nlrat\n3 0 1 2 0\nend\n", [], IsRefused 3 kind.Form)
    ∷ []

has_order : AreRight (asking commutes) commutes_rows
unfolding commutes_rows verdict verdict_from text_of judged_from cert_line words is_blank rule_named operator_named number_from signed_number literal_in numbers_to_zero lrat_line cnf cnf_variables variables_from bits_of_number op_circuit add sel each and_all or_all carry stages rows divided copies gates_clauses circuits.◌>>=◌ lib.Count.ones
has_order = refl

-- for a script that asks about true, false and true
asks_thrice_rows : List Row
asks_thrice_rows =
    (codes "qbv-cert 1\ncheck 1 unknown\nend\ncheck 2 unknown\nend\ncheck 3 sat\nlrat\n3 0 1 2 0\nend\n", Unknown ∷ Unknown ∷ Sat ∷ [], IsAccepted)
    ∷ (codes "qbv-cert 1\ncheck 1 unknown\nend\ncheck 2 unknown\nend\ncheck 1 unknown\nend\ncheck 2 unknown\nend\n", Unknown ∷ Unknown ∷ [], IsRefused 6 kind.Section)
    ∷ (codes "qbv-cert 1\ncheck 1 unknown\nend\ncheck 2 unknown\nend\ncheck 3 sat\nlrat\n3 0 1 2 0", Unknown ∷ Unknown ∷ [], IsRefused 8 kind.Truncated)
    ∷ (codes "qbv-cert 1\ncheck 1 unknown\nend\ncheck 2 unknown\nend\ncheck 3 sat\nlrat\n3 0 1 2 0\nend\ncheck 4 sat\n", Unknown ∷ Unknown ∷ Sat ∷ [], IsRefused 10 kind.Section)
    ∷ []

asks_thrice : AreRight (asks_three Ends) asks_thrice_rows
unfolding asks_thrice_rows verdict verdict_from text_of judged_from cert_line words is_blank rule_named operator_named number_from signed_number literal_in numbers_to_zero lrat_line cnf cnf_variables variables_from bits_of_number op_circuit add sel each and_all or_all carry stages rows divided copies gates_clauses circuits.◌>>=◌
asks_thrice = refl

-- for the same script with a fault behind
stops_behind_rows : List Row
stops_behind_rows =
    (codes "qbv-cert 1\ncheck 1 unknown\nend\ncheck 2 unknown\nend\ncheck 3 sat\nlrat\n3 0 1 2 0\nend\n", Unknown ∷ Unknown ∷ Sat ∷ [], ScriptFault 0)
    ∷ (codes "qbv-cert 1\ncheck 1 unknown\nend\ncheck 2 unknown\nend\ncheck 3 sat\nlrat\n3 0 1 2 0\n", Unknown ∷ Unknown ∷ [], IsRefused 9 kind.Truncated)
    ∷ []

stops_behind : AreRight (asks_three (Stops 0)) stops_behind_rows
unfolding stops_behind_rows verdict verdict_from text_of judged_from cert_line words is_blank rule_named operator_named number_from signed_number literal_in numbers_to_zero lrat_line cnf cnf_variables variables_from bits_of_number op_circuit add sel each and_all or_all carry stages rows divided copies gates_clauses circuits.◌>>=◌
stops_behind = refl
