-- The last lines that verdicts need, computed.
use Rattle.std.proofs.Common.{◌≡◌, ℕ, List, [], ◌∷◌, refl, codes, map}
use Rattle.std.specs.Fmt.{digits}
use Rattle.qv_text.specs.Bytes.{is_white, is_line_end, is_digit, is_binary, is_letter, is_hex, is_symbol, begins_symbol}
use Rattle.qv_text.specs.Reading.{run, quoted_len, text_len, literal, behind_hash, behind_colon, behind_dot, behind_digits, number, behind_zero, token_at, is_reserved, kind_of, tokens_behind}
use Rattle.qv_sexpr.specs.Script.{matched, reads}
use Rattle.qv_words.specs.Prenex.{form_within}
use Rattle.qv_words.specs.Problem.{problem_of}
use Rattle.qv_words.specs.Gate.{gates_clauses}
use Rattle.qv_words.specs.Gate as circuits
use Rattle.qv_words.specs.Routine.{bits_of_number}
use Rattle.qv_words.specs.OpCircuit.{op_circuit}
use Rattle.qv_words.specs.Clauses.{cnf, cnf_variables, variables_from}
use Rattle.qv_elab_defs.specs.Shapes.{reserved_construct}
use Rattle.qv_sorts.specs.Search.{operator_named}
use Rattle.qv_script_defs.specs.Texts.{infos}
use Rattle.qv_script_defs.specs.Commands.{commands}
use Rattle.qv_script_defs.specs.State.{opening}
use Rattle.qv_lrat_text.specs.Words.{words, is_blank}
use Rattle.qv_lrat_text.specs.Decimal.{number_from, signed_number}
use Rattle.qv_lrat_text.specs.Grammar.{literal_in, numbers_to_zero, lrat_line}
use Rattle.qv_words.specs.Rules.{rule_named}
use Rattle.qv_cert.specs.Grammar.{cert_line}
use Rattle.qv_cert.specs.Text.{text_of}
use Rattle.qv_cert.specs.Section.{judged_from}
use Rattle.qv_check_laws.specs.Verdict.{verdict, verdict_from}
use Rattle.qv_check_defs.specs.Beside.{beside}
use Rattle.qv_check_script.specs.Wanting.{last_line}

-- which line of the certificate is the last that each verdict needs
rows : List (List ℕ × List ℕ)
rows =
    ([], codes "qbv-cert 1\n")
    ∷ (codes "(pop 1)", codes "qbv-cert 1\n")
    ∷ (codes "(pop 1)", [])
    ∷ (codes "(check-sat)", codes "qbv-cert 1\ncheck 1 unknown\nend\n")
    ∷ (codes "(check-sat)(check-sat)", codes "qbv-cert 1\ncheck 1 unknown\nend\n")
    ∷ (codes "(check-sat)(get-value (true))", codes "qbv-cert 1\ncheck 1 unknown\nend\nend\n")
    ∷ (codes "(check-sat)", codes "qbv-cert 1\ncheck 1 unknown\nend\nend\n")
    ∷ []

needed : map (λ row. last_line 1 (verdict (beside 4096 opening (reads row.0)) row.1)) rows ≡ 2 ∷ 1 ∷ 1 ∷ 4 ∷ 4 ∷ 3 ∷ 4 ∷ []
unfolding rows digits beside verdict verdict_from text_of judged_from cert_line rule_named words is_blank number_from signed_number literal_in numbers_to_zero lrat_line cnf cnf_variables variables_from bits_of_number op_circuit gates_clauses circuits.◌>>=◌ operator_named reserved_construct commands infos problem_of form_within matched tokens_behind run quoted_len text_len literal behind_hash behind_colon behind_dot behind_digits number behind_zero token_at is_reserved kind_of is_white is_line_end is_digit is_binary is_letter is_hex is_symbol begins_symbol
needed = refl
