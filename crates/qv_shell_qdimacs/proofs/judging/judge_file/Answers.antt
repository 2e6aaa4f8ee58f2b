use Rattle.std.proofs.Common.{List, ℕ, inl, ap, ◌∙◌}
use Rattle.qv_cert.specs.CertReader.{to_give}
use Rattle.qv_check_defs.specs.Outcome.{Outcome}
use Rattle.qv_script_defs.specs.Faults.{refusal}
use Rattle.qv_check_script.specs.declared.ending.Ending.TheVariants.{Faulty}
use Rattle.qv_shell_qdimacs.proofs.Judged.{faulty-told, writes}
use Rattle.qv_shell_qdimacs.proofs.Written.{limit-as}
use Rattle.qv_shell_qdimacs.proofs.judging.judge_file.Goals as goal

pub returns-in_ok-text-in-Err-At-clause-judged : goal.returns-in_ok-text-in-Err-At-clause-judged
returns-in_ok-text-in-Err-At-clause-judged g c =
    let place = c.in-Err-At.place in
    let kind = c.in-Err-At.kind in
    let says = rw c.in-Err-At.field-0-is at c.in-Err-At.ensures.fault in
    let reader = c.args.reader.now in
    faulty-told c.args.places place kind reader.version reader.given (record { text = c.in_ok-text-in-Err-At.text; ending = Faulty }) (g.S.Source.left c.args.file.now) says.0 (to_give reader.rest (g.C.Source.left c.args.cert.now)) says.1.told says.2
    (ap (λ (t : List ℕ). writes t 1) (c.in_ok-text-in-Err-At.ensures ∙ ap (refusal place) c.fault_word.ensures))

pub returns-in-Err-ReadLimit-clause-limit : goal.returns-in-Err-ReadLimit-clause-limit
returns-in-Err-ReadLimit-clause-limit g c _ =
    let meets = rw c.in-Err-ReadLimit.field-0-is at c.in-Err-ReadLimit.ensures.fault in
    inl (limit-as g.S.Source.read_gives g.S.Source.left c.args.file.now c.read_qdimacs.new.source meets)
