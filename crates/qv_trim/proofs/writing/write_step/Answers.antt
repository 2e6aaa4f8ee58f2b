use Rattle.std.proofs.Common.{◌≡◌, ℕ, List, [], ◌++◌, rules, subst, ap, ◌∙◌}
use Rattle.std.proofs.lemmas.Result.{err_from_is_err_and}
use Rattle.qv_cnf.specs.LratLine.{line_of}
use Rattle.qv_lrat_text.specs.Spelling.{spelling}
use Rattle.qv_trim.specs.Sections.{AppendsFront}
use Rattle.qv_trim.proofs.Trims.{front-part_of}
use Rattle.qv_trim.proofs.writing.write_step.Goals as goal

pub returns-in_err-put_all-clause-err : goal.returns-in_err-put_all-clause-err
returns-in_err-put_all-clause-err g c =
    let held = g.O.Sink.held in
    let p = err_from_is_err_and c.from_residual-in_err-put_all.result c.from_residual-in_err-put_all.ensures.1 in
    let cleared : c.clear.new.self.items ≡ [] = search rules in
    let is : c.deref.result.now ≡ spelling (line_of c.args.step.now) = ◌∙◌ {A = List ℕ} c.deref.ensures.value (◌∙◌ {A = List ℕ} c.in_ok-print_line.ensures.printed (ap (λ (bytes : List ℕ). bytes ++ spelling (line_of c.args.step.now)) cleared)) in
    rw p.1 (subst (λ (bytes : List ℕ). AppendsFront (held c.args.out.now) (held c.put_all.new.sink) bytes) is (front-part_of (held c.args.out.now) (held c.put_all.new.sink) c.deref.result.now c.in_err-put_all.ensures.part))
