use Rattle.std.proofs.Common.{List, sym, subst}
use Rattle.std.specs.Prelude.{All}
use Rattle.std.proofs.lemmas.List.Elements.{All-get_or}
use Rattle.qv_cert.specs.declared.line.Line.{Line}
use Rattle.qv_solve_cases.proofs.Lines.{IsPrintable, each-line}
use Rattle.qv_solve_cases.proofs.judging.add_lines.Goals as goal

pub print_cert_line-requires : goal.print_cert_line-requires
print_cert_line-requires c =
    let given = c.deref-line-items.result.now in
    let all = subst (λ (lines : List Line). All IsPrintable lines) (sym c.deref-line-items.ensures.value) (each-line c.args.section.now.lines.items c.requires) in
    let here = All-get_or IsPrintable given c.lines.line-index c.line-item.result c.lines-test.true all in
    subst (λ (line : Line). IsPrintable line) (sym c.line-item.is) here
