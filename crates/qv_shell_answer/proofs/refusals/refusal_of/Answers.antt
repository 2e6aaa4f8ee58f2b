use Rattle.std.proofs.Common.{◌++◌, ◌∙◌, [], ◌∷◌, ℕ, List, ap}
use Rattle.qv_cert.specs.TextLaws.{bytes_of_lines}
use Rattle.qv_script_transcript.specs.Certificates.{header_line}
use Rattle.qv_shell_answer.proofs.refusals.refusal_of.Goals as goal

pub judge-requires-clause-section : goal.judge-requires-clause-section
judge-requires-clause-section c =
    let own = c.requires.section in
    (own.0, own.1, c.in_ok-source.ensures ∙ ap (λ (bytes : List ℕ). bytes_of_lines (header_line ∷ []) ++ bytes) own.2)
