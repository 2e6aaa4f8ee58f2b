use Rattle.std.proofs.Common.{◌++◌, List, ℕ, not, ap, ◌∙◌}
use Rattle.qv_sexpr.specs.Script.{reads}
use Rattle.qv_script_defs.specs.State.{opening}
use Rattle.qv_cert.specs.Text.{text_of}
use Rattle.qv_check_defs.specs.Beside.{beside}
use Rattle.qv_script_transcript.specs.Certificates.{verdict_beside}
use Rattle.qv_check_clauses.specs.Clauses.{version_among}
use Rattle.qv_check_clauses.proofs.Followed.{last-text, no-answer}
use Rattle.qv_check_clauses.proofs.following.add_all.Goals as goal

pub returns-then-is_none-clause-written : goal.returns-then-is_none-clause-written
returns-then-is_none-clause-written c =
    let places = c.args.places in
    let script = c.args.script.now in
    let cert = c.args.cert.now in
    let printed = c.args.printed.now in
    let none = no-answer c.answer_size.result printed (c.is_none.ensures ∙ ap not c.if-is_none.true) c.answer_size.ensures in
    ap (λ (t : List ℕ). c.args.out.now.items ++ t) (last-text (version_among (text_of cert).lines) 1 (beside places opening (reads script)) (verdict_beside places script cert) printed c.requires.printed none)
