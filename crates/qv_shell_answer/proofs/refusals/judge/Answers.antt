use Rattle.std.proofs.Common.{◌++◌, None}
use Rattle.qv_store.specs.Walks.{named}
use Rattle.qv_cert.specs.Text.{text_of}
use Rattle.qv_shell_answer.proofs.Refusing.{not-refused}
use Rattle.qv_shell_answer.proofs.refusals.judge.Goals as goal

pub returns-in_ok-refused_line-in-Refused-clause-none : goal.returns-in_ok-refused_line-in-Refused-clause-none
returns-in_ok-refused_line-in-Refused-clause-none c =
    let own = c.requires.section in
    let header = c.in_ok-pass_header.ensures in
    absurd (not-refused (named c.args.store.now c.args.formulas.now) c.args.number c.pass_header.new.reader.version c.pass_header.new.reader.given c.check_one.new.reader.given c.in-Refused.line c.in-Refused.kind
    own.0 (text_of (c.pass_header.new.reader.rest ++ c.pass_header.new.source.left)) None own.1 (header.version own.0 own.1.apart own.2) (header.lines own.0 own.1.apart own.2) c.in-Refused.ensures.verdict)
