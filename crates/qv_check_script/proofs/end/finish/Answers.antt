use Rattle.qv_cert.specs.CertReader.{to_give}
use Rattle.qv_cert.specs.LineView.{cert_line_of}
use Rattle.qv_check_defs.specs.Outcome.{refused_line}
use Rattle.qv_check_script.specs.declared.ending.Ending.TheVariants.{Refused}
use Rattle.qv_check_script.specs.Turns.{IsOver}
use Rattle.qv_check_script.proofs.Leading.{ends-by}
use Rattle.qv_check_lines.proofs.TakenBy.{limit-took}
use Rattle.qv_check_script.proofs.Wanting.{end-wants}
use Rattle.qv_check_script.proofs.Closing.{writes, ends-so, is-accepted, line-left, fault-left}
use Rattle.qv_check_script.proofs.end.finish.Goals as goal

pub returns-in_ok-refused-in-Fault-clause-ends : goal.returns-in_ok-refused-in-Fault-clause-ends
returns-in_ok-refused-in-Fault-clause-ends g c =
    let old = to_give c.args.reader.now.rest (g.C.Source.left c.args.cert.now) in
    ends-so old c.args.reader.now.given (writes (refused_line c.in-Fault.number c.kind_at_end.result) 6) c.in_ok-refused-in-Fault.field-0
    (fault-left c.args.reader.now.given c.in-Fault.number old c.in-Fault.kind c.kind_at_end.result c.in-Fault.ensures.number c.requires.begun (c.in-Fault.ensures.next c.requires.reads)
    c.kind_at_end.ensures.truncated c.kind_at_end.ensures.other)
    c.in_ok-refused-in-Fault.ensures

pub returns-in_ok-refused-in-Line-clause-ends : goal.returns-in_ok-refused-in-Line-clause-ends
returns-in_ok-refused-in-Line-clause-ends g c =
    let old = to_give c.args.reader.now.rest (g.C.Source.left c.args.cert.now) in
    let new = to_give c.next_line.new.self.rest (g.C.Source.left c.next_line.new.source) in
    let next = c.in-Line.ensures.next c.requires.reads in
    ends-so old c.args.reader.now.given (writes (refused_line c.in-Line.number c.kind_behind.result) 6) c.in_ok-refused-in-Line.field-0
    (line-left c.args.reader.now.given c.in-Line.number old new next.0 (cert_line_of c.in-Line.line) c.kind_behind.result c.in-Line.ensures.number c.requires.begun next.1 next.2 c.kind_behind.ensures)
    c.in_ok-refused-in-Line.ensures

pub returns-in_ok-line-in-End-clause-ends : goal.returns-in_ok-line-in-End-clause-ends
returns-in_ok-line-in-End-clause-ends g c =
    let old = to_give c.args.reader.now.rest (g.C.Source.left c.args.cert.now) in
    is-accepted c.args.reader.now.given old c.in_ok-line-in-End.line.items (c.in-End.ensures.next c.requires.reads) c.in_ok-line-in-End.ensures.items

pub returns-in-ReadLimit-clause-limit : goal.returns-in-ReadLimit-clause-limit
returns-in-ReadLimit-clause-limit g c = λ _. record {
  took = limit-took g.C.Source.read_gives g.C.Source.left c.args.reader.now c.args.cert.now c.next_line.new.self c.next_line.new.source c.in-ReadLimit.ensures.given (c.in-ReadLimit.ensures.calls c.requires.reads) (c.in-ReadLimit.ensures.took c.requires.reads);
  wanted = end-wants c.args.reader.now.given c.next_line.new.self.given (to_give c.args.reader.now.rest (g.C.Source.left c.args.cert.now)) c.in-ReadLimit.ensures.given;
}

pub returns-in_ok-refused-in-Fault-clause-no_more : goal.returns-in_ok-refused-in-Fault-clause-no_more
returns-in_ok-refused-in-Fault-clause-no_more g c =
    ends-by IsOver Refused (refused_line c.in-Fault.number c.kind_at_end.result) c.in_ok-refused-in-Fault.field-0 c.in_ok-refused-in-Fault.ensures tt

pub returns-in_ok-refused-in-Line-clause-no_more : goal.returns-in_ok-refused-in-Line-clause-no_more
returns-in_ok-refused-in-Line-clause-no_more g c =
    ends-by IsOver Refused (refused_line c.in-Line.number c.kind_behind.result) c.in_ok-refused-in-Line.field-0 c.in_ok-refused-in-Line.ensures tt
