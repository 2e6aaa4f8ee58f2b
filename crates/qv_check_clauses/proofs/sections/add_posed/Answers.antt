use Rattle.std.proofs.Common.{◌++◌, ◌∙◌, codes, ap, sym}
use Rattle.std.specs.Fmt.{decimal}
use Rattle.qv_check_defs.specs.Outcome.{answer_line}
use Rattle.qv_cert.specs.Text.{text_of}
use Rattle.qv_check_clauses.proofs.Written.{section-added}
use Rattle.qv_check_clauses.proofs.sections.add_posed.Goals as goal

pub returns-clause-adds : goal.returns-clause-adds
returns-clause-adds c task about same =
    let old = text_of (c.args.reader.now.rest ++ c.args.cert.now.left.now) in
    let mid = text_of (c.open.new.reader.rest ++ c.open.new.source.left.now) in
    let new = text_of (c.add_answered.new.reader.rest ++ c.add_answered.new.cert.left.now) in
    section-added task c.in-Ok.answer c.args.reader.now.given c.open.new.reader.given c.add_answered.new.reader.given old mid new (c.in-Ok.ensures.goes task same)
    c.args.out.now.items c.add_comment.new.out.items c.add_answered.new.out.items
    (c.in_ok-add_comment.ensures ∙ ap (λ n. c.args.out.now.items ++ (codes "c check " ++ (decimal n ++ (codes " " ++ answer_line c.in-Ok.answer)))) (sym same))
    (c.in_ok-add_answered.ensures.adds task (record { problem = about.problem; version = about.version ∙ sym c.open.ensures.version }))
