-- Worked examples, computed: scripts and certificates, each with what its check writes and its status.
use Rattle.std.proofs.Common.{◌≡◌, ℕ, List, [], ◌∷◌, refl, codes, map}
use Rattle.std.specs.Fmt.{digits}
use Rattle.qv_text.specs.Bytes.{is_white, is_line_end, is_digit, is_binary, is_letter, is_hex, is_symbol, begins_symbol}
use Rattle.qv_text.specs.Reading.{run, quoted_len, text_len, literal, behind_hash, behind_colon, behind_dot, behind_digits, number, behind_zero, token_at, is_reserved, kind_of, tokens_behind}
use Rattle.qv_sexpr.specs.Script.{matched}
use Rattle.qv_words.specs.Prenex.{form_within}
use Rattle.qv_words.specs.Problem.{problem_of}
use Rattle.qv_words.specs.Gate.{gates_clauses}
use Rattle.qv_words.specs.Gate as circuits
use Rattle.qv_words.specs.Routine.{bits_of_number}
use Rattle.qv_words.specs.OpCircuit.{op_circuit}
use Rattle.qv_words.specs.Clauses.{cnf, cnf_variables, variables_from}
use Rattle.qv_elab_defs.specs.Shapes.{reserved_construct}
use Rattle.qv_sorts.specs.Search.{operator_named}
use Rattle.qv_script_defs.specs.Texts.{infos}
use Rattle.qv_script_defs.specs.Commands.{commands}
use Rattle.qv_lrat_text.specs.Words.{words, is_blank}
use Rattle.qv_lrat_text.specs.Decimal.{number_from, signed_number}
use Rattle.qv_lrat_text.specs.Grammar.{literal_in, numbers_to_zero, lrat_line}
use Rattle.qv_words.specs.Rules.{rule_named}
use Rattle.qv_cert.specs.Grammar.{cert_line}
use Rattle.qv_cert.specs.Text.{text_of}
use Rattle.qv_cert.specs.Section.{judged_from}
use Rattle.qv_check_laws.specs.Verdict.{verdict, verdict_from}
use Rattle.qv_check_defs.specs.Beside.{beside}
use Rattle.qv_check_defs.specs.Outcome.{Outcome, outcome}

-- a script, a certificate, and the text and the status that their check comes to
abbrev Row : Type 0
Row = List ℕ × List ℕ × List ℕ × ℕ

abbrev wanted : Row → Outcome
wanted row = record { text = row.2; status = row.3 }

abbrev sat_section : List ℕ
sat_section = codes "qbv-cert 1\ncheck 1 sat\nlrat\n3 0 1 2 0\nend\n"

rows : List Row
rows =
    ([], codes "qbv-cert 1\n", codes "accepted\n", 0)
    ∷ ([], codes "qbv-cert 1\ncheck 1 sat\n", codes "refused 2 section\n", 6)
    ∷ (codes "(pop 1)", codes "qbv-cert 1\n", codes "(error \"at 0: pop below the first level\")\n", 1)
    ∷ (codes "(pop 1)", [], codes "refused 1 truncated\n", 6)
    ∷ (codes ")", codes "qbv-cert 1\nend\n", codes "(error \"at 0: close\")\n", 1)
    ∷ (codes "(echo \"a\")(check-sat)", codes "qbv-cert 1\ncheck 1 unknown\nend\n", codes "unknown\naccepted\n", 0)
    ∷ (codes "(check-sat)(check-sat)", codes "qbv-cert 1\ncheck 1 unknown\nend\n", codes "unknown\nrefused 4 truncated\n", 6)
    ∷ (codes "(check-sat)(exit)(pop)", sat_section, codes "sat\naccepted\n", 0)
    ∷ (codes "(assert false)(reset)(check-sat)(get-value (true))(pop)", sat_section, codes "sat\n(error \"at 50: pop below the first level\")\n", 1)
    ∷ (codes "(check-sat)(get-value (true))", codes "qbv-cert 1\ncheck 1 unknown\nend\n", codes "unknown\n(error \"at 11: no model\")\n", 1)
    ∷ (codes "(assert false)(check-sat)(check-sat)", codes "qbv-cert 1\ncheck 1 unsat\nlrat\n3 0 1 2 0\nend\ncheck 2 unsat\nlrat\n3 0 -1 0\nend\n", codes "unsat\nrefused 8 rat 1\n", 6)
    ∷ []

shown : map (λ row. outcome 4096 row.0 row.1) rows ≡ map wanted rows
unfolding rows digits beside verdict verdict_from text_of judged_from cert_line rule_named words is_blank number_from signed_number literal_in numbers_to_zero lrat_line cnf cnf_variables variables_from bits_of_number op_circuit gates_clauses circuits.◌>>=◌ operator_named reserved_construct commands infos problem_of form_within matched tokens_behind run quoted_len text_len literal behind_hash behind_colon behind_dot behind_digits number behind_zero token_at is_reserved kind_of is_white is_line_end is_digit is_binary is_letter is_hex is_symbol begins_symbol
shown = refl
