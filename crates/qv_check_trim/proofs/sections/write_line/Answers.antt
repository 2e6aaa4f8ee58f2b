use Rattle.std.proofs.Common.{◌≡◌, ◌∙◌, ℕ, List, ◌++◌, ap, subst}
use Rattle.std.proofs.lemmas.Result.{err_from_is_err_and}
use Rattle.qv_cert.specs.LineView.{cert_line_of}
use Rattle.qv_cert.specs.Spelling.{cert_text}
use Rattle.qv_trim.specs.Sections.{AppendsFront}
use Rattle.qv_trim.proofs.Trims.{front-part_of}
use Rattle.qv_check_trim.proofs.sections.write_line.Goals as goal

pub returns-in_err-put_all-clause-err : goal.returns-in_err-put_all-clause-err
returns-in_err-put_all-clause-err g c =
    let held = g.P.Sink.held in
    let p = err_from_is_err_and c.from_residual-in_err-put_all.result c.from_residual-in_err-put_all.ensures.1 in
    let is : c.deref.result.now ≡ cert_text (cert_line_of c.args.line.now) = ◌∙◌ {A = List ℕ} c.deref.ensures.value (◌∙◌ {A = List ℕ} c.in_ok-print_cert_line.ensures.printed (ap (λ (bytes : List ℕ). bytes ++ cert_text (cert_line_of c.args.line.now)) c.new-printed.ensures.items)) in
    rw p.1 (subst (λ (bytes : List ℕ). AppendsFront (held c.args.out.now) (held c.put_all.new.sink) bytes) is (front-part_of (held c.args.out.now) (held c.put_all.new.sink) c.deref.result.now c.in_err-put_all.ensures.part))
