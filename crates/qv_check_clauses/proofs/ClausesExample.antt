-- Worked examples, computed: scripts and certificates, each with the clause lists of its sections.
use Rattle.std.proofs.Common.{◌≡◌, ◌++◌, ℕ, List, [], ◌∷◌, refl, codes, map}
use Rattle.std.specs.Fmt.{digits}
use Rattle.qv_text.specs.Bytes.{is_white, is_line_end, is_digit, is_binary, is_letter, is_hex, is_symbol, begins_symbol}
use Rattle.qv_text.specs.Reading.{run, quoted_len, text_len, literal, behind_hash, behind_colon, behind_dot, behind_digits, number, behind_zero, token_at, is_reserved, kind_of, tokens_behind}
use Rattle.qv_sexpr.specs.Script.{matched}
use Rattle.qv_words.specs.Prenex.{form_within}
use Rattle.qv_words.specs.Problem.{problem_of}
use Rattle.qv_words.specs.Gate.{gates_clauses}
use Rattle.qv_words.specs.Gate as circuits
use Rattle.qv_words.specs.Routine.{bits_of_number}
use Rattle.qv_words.specs.OpCircuit.{op_circuit}
use Rattle.qv_words.specs.Clauses.{cnf, cnf_variables, variables_from}
use Rattle.qv_elab_defs.specs.Shapes.{reserved_construct}
use Rattle.qv_sorts.specs.Search.{operator_named}
use Rattle.qv_script_defs.specs.Texts.{infos}
use Rattle.qv_script_defs.specs.Commands.{commands}
use Rattle.qv_lrat_text.specs.Words.{words, is_blank}
use Rattle.qv_lrat_text.specs.Decimal.{number_from, signed_number}
use Rattle.qv_lrat_text.specs.Grammar.{literal_in, numbers_to_zero, lrat_line}
use Rattle.qv_words.specs.Rules.{rule_named}
use Rattle.qv_cert.specs.Grammar.{cert_line}
use Rattle.qv_cert.specs.Text.{text_of}
use Rattle.qv_cert.specs.Section.{judged_from}
use Rattle.qv_check_laws.specs.Verdict.{verdict, verdict_from}
use Rattle.qv_check_defs.specs.Beside.{beside}
use Rattle.qv_check_lines.specs.Refuted.{refuted_from}
use Rattle.qv_check_clauses.specs.Clauses.{clauses_text}

abbrev Row : Type 0
Row = List ℕ × List ℕ × List ℕ

abbrev sat_section : List ℕ
sat_section = codes "qbv-cert 1\ncheck 1 sat\nlrat\n3 0 1 2 0\nend\n"

-- the clauses `1` and `-1`
abbrev two : List ℕ
two = codes "p cnf 1 2\n1 0\n-1 0\n"

rows : List Row
rows =
    ([], codes "qbv-cert 1\n", codes "c accepted\n")
    ∷ ([], codes "qbv-cert 1\nend\n", codes "c refused 2 form\n")
    ∷ ([], [], codes "c refused 1 truncated\n")
    ∷ (codes "(pop 1)", codes "qbv-cert 1\n", codes "c (error \"at 0: pop below the first level\")\n")
    ∷ (codes "(check-sat)(exit)", sat_section, codes "c check 1 sat\n" ++ two ++ codes "c accepted\n")
    ∷ (codes "(echo \"a\")(check-sat)", codes "qbv-cert 1\ncheck 1 unknown\nend\n", codes "c check 1 unknown\nc accepted\n")
    ∷ (codes "(assert false)(check-sat)(check-sat)", codes "qbv-cert 1\ncheck 1 unsat\nlrat\n3 0 1 2 0\nend\ncheck 2 unsat\nlrat\n3 0 -1 0\nend\n", codes "c check 1 unsat\n" ++ two ++ codes "c refused 8 rat 1\n")
    ∷ (codes "(check-sat)(assert false)(check-sat)", sat_section ++ codes "check 2 unsat\nlrat\n3 0 1 2 0\nend\n", codes "c check 1 sat\n" ++ two ++ codes "c check 2 unsat\n" ++ two ++ codes "c accepted\n")
    ∷ []

shown : map (λ row. clauses_text 4096 row.0 row.1) rows ≡ map (λ row. row.2) rows
unfolding rows refuted_from digits beside verdict verdict_from text_of judged_from cert_line rule_named words is_blank number_from signed_number literal_in numbers_to_zero lrat_line cnf cnf_variables variables_from bits_of_number op_circuit gates_clauses circuits.◌>>=◌ operator_named reserved_construct commands infos problem_of form_within matched tokens_behind run quoted_len text_len literal behind_hash behind_colon behind_dot behind_digits number behind_zero token_at is_reserved kind_of is_white is_line_end is_digit is_binary is_letter is_hex is_symbol begins_symbol
shown = refl
