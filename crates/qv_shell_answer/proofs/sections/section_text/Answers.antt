use Rattle.std.proofs.Common.{◌≡◌, Some, slice_get, sym, ap, ◌∙◌}
use Rattle.std.proofs.lemmas.Option.{slice_get-get_or}
use Rattle.qv_cert.specs.declared.line.Line.{Line}
use Rattle.qv_shell_answer.proofs.Printing.{line-fits}
use Rattle.qv_shell_answer.proofs.sections.section_text.Goals as goal

pub print_cert_line-requires : goal.print_cert_line-requires
print_cert_line-requires c =
    let lines = c.args.lines.now in
    let i = c.printed.line-index in
    let line = c.line-item.result in
    let at : slice_get lines i ≡ Some line = slice_get-get_or lines i line c.printed-test.true ∙ ap (λ (x : Line). Some x) (sym c.line-item.is) in
    line-fits lines i line c.requires at
