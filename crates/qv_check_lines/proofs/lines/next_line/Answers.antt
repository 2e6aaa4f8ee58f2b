use Rattle.std.proofs.Common.{◌∙◌, sym}
use Rattle.qv_cert.specs.CertReader.{to_give}
use Rattle.qv_check_lines.proofs.Judged.{is-ended, is-faulty, more-wanted}
use Rattle.qv_check_lines.proofs.Ended.{cut-ends, fault-ends}
use Rattle.qv_check_lines.proofs.TakenBy.{limit-took, cut-took, fault-took}
use Rattle.qv_check_lines.proofs.lines.next_line.Goals as goal

pub returns-in-End-clause-err : goal.returns-in-End-clause-err
returns-in-End-clause-err g c task s e kinds =
    is-ended task s c.args.reader.now.given c.next_line.new.self.given c.in-End.number c.args.place.in_lrat (to_give c.args.reader.now.rest (g.S.Source.left c.args.source.now))
    (to_give c.next_line.new.self.rest (g.S.Source.left c.next_line.new.source)) c.in-End.ensures.number (c.in-End.ensures.next c.requires.reads)

pub returns-in-Fault-clause-err : goal.returns-in-Fault-clause-err
returns-in-Fault-clause-err g c task s e kinds =
    is-faulty task s c.args.reader.now.given c.next_line.new.self.given c.in-Fault.number c.args.place.in_lrat (to_give c.args.reader.now.rest (g.S.Source.left c.args.source.now))
    (to_give c.next_line.new.self.rest (g.S.Source.left c.next_line.new.source)) c.in-Fault.kind c.kind_at.result c.in-Fault.ensures.number c.requires.begun e (c.in-Fault.ensures.next c.requires.reads)
    c.kind_at.ensures.truncated (λ other. c.kind_at.ensures.other other ∙ sym (kinds c.in-Fault.kind))

pub returns-in-ReadLimit-clause-err : goal.returns-in-ReadLimit-clause-err
returns-in-ReadLimit-clause-err g c task s e kinds =
    more-wanted task s c.args.reader.now.given c.next_line.new.self.given (to_give c.args.reader.now.rest (g.S.Source.left c.args.source.now))
    (to_give c.next_line.new.self.rest (g.S.Source.left c.next_line.new.source)) c.in-ReadLimit.ensures.given

pub returns-in-End-clause-ends : goal.returns-in-End-clause-ends
returns-in-End-clause-ends g c = cut-ends c.in-End.number (g.S.Source.faults c.args.source.now) (g.S.Source.faults c.next_line.new.source) c.next_line.new.self

pub returns-in-Fault-clause-ends : goal.returns-in-Fault-clause-ends
returns-in-Fault-clause-ends g c =
    fault-ends c.in-Fault.number (g.S.Source.faults c.args.source.now) (g.S.Source.faults c.next_line.new.source) c.next_line.new.self c.in-Fault.kind c.kind_at.result
    c.kind_at.ensures.truncated (c.in-Fault.ensures.ahead c.requires.reads)

pub returns-in-ReadFault-clause-ends : goal.returns-in-ReadFault-clause-ends
returns-in-ReadFault-clause-ends g c = c.in-ReadFault.ensures.failed c.requires.reads c.in-ReadFault.ensures.stopped

pub returns-in-ReadLimit-clause-ends : goal.returns-in-ReadLimit-clause-ends
returns-in-ReadLimit-clause-ends g c = (c.in-ReadLimit.ensures.calls c.requires.reads).limit

pub returns-in-Line-clause-took : goal.returns-in-Line-clause-took
returns-in-Line-clause-took g c = c.in-Line.ensures.took c.requires.reads

pub returns-in-End-clause-took : goal.returns-in-End-clause-took
returns-in-End-clause-took g c = cut-took g.S.Source.read_gives g.S.Source.left c.args.reader.now c.args.source.now c.in-End.number c.next_line.new.self c.next_line.new.source (c.in-End.ensures.took c.requires.reads)

pub returns-in-Fault-clause-took : goal.returns-in-Fault-clause-took
returns-in-Fault-clause-took g c =
    fault-took g.S.Source.read_gives g.S.Source.left c.args.reader.now c.args.source.now c.in-Fault.number c.in-Fault.kind c.kind_at.result c.next_line.new.self c.next_line.new.source c.kind_at.ensures.truncated (c.in-Fault.ensures.took c.requires.reads)

pub returns-in-ReadFault-clause-took : goal.returns-in-ReadFault-clause-took
returns-in-ReadFault-clause-took g c = c.in-ReadFault.ensures.took c.requires.reads

pub returns-in-ReadLimit-clause-took : goal.returns-in-ReadLimit-clause-took
returns-in-ReadLimit-clause-took g c =
    limit-took g.S.Source.read_gives g.S.Source.left c.args.reader.now c.args.source.now c.next_line.new.self c.next_line.new.source c.in-ReadLimit.ensures.given (c.in-ReadLimit.ensures.calls c.requires.reads) (c.in-ReadLimit.ensures.took c.requires.reads)
