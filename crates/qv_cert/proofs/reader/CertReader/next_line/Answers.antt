use Rattle.std.proofs.Common.{◌+◌, Some, subst, refl, arith}
use Rattle.qv_cert.specs.Taking.{answer_of}
use Rattle.qv_cert.specs.declared.answers.CertNext.TheVariants as next
use Rattle.qv_cert.specs.CertReader.{Position, to_give, GivesNext, ReadsOnDemand}
use Rattle.qv_cert.specs.Took.{TookLines, TookNext}
use Rattle.qv_cert.proofs.NextLemmas.{line_gives, stop_gives, stop_calls}
use Rattle.qv_cert.proofs.Took.{took-line, took-stop}
use Rattle.qv_cert.proofs.reader.CertReader.next_line.Goals as goal

pub returns-in-Ok-clause-next : goal.returns-in-Ok-clause-next
returns-in-Ok-clause-next g c = λ _.
    let new = c.read_next.new in
    subst (λ (p : Position). GivesNext p.given c.args.in_lrat (to_give p.rest (g.S.Source.left c.args.source.now)) (next.Line (c.self.inside.lines + 1) c.in-Ok.line) (to_give new.input.buffer (g.S.Source.left new.source)))
    c.self.view_is
    (line_gives _ g.S.Source.read_gives g.S.Source.left c.self.inside.lines c.args.in_lrat c.self.inside.input.buffer c.self.inside.input.taken c.args.source.now c.in-Ok.line (c.self.inside.lines + 1) new.input.buffer new.input.taken new.source c.in-Ok.ensures.line)

pub returns-in-Err-clause-next : goal.returns-in-Err-clause-next
returns-in-Err-clause-next g c = λ _.
    let new = c.read_next.new in
    rw c.answer_of-in-Err.ensures
    (subst (λ (p : Position). GivesNext p.given c.args.in_lrat (to_give p.rest (g.S.Source.left c.args.source.now)) (answer_of (c.self.inside.lines + 1) c.in-Err.stop) (to_give new.input.buffer (g.S.Source.left new.source)))
    c.self.view_is
    (stop_gives _ g.S.Source.read_gives g.S.Source.left _ c.self.inside.lines c.args.in_lrat c.self.inside.input.buffer c.self.inside.input.taken c.args.source.now c.in-Err.stop (c.self.inside.lines + 1) new.input.buffer new.input.taken new.source c.in-Err.ensures.err))

pub returns-in-Err-clause-calls : goal.returns-in-Err-clause-calls
returns-in-Err-clause-calls g c = λ _.
    let new = c.read_next.new in
    let after : Position = record { rest = new.input.buffer; taken = new.input.taken; given = c.self.inside.lines; version = c.self.inside.version; stopped = Some c.in-Err.stop } in
    rw c.answer_of-in-Err.ensures
    (subst (λ (p : Position). ReadsOnDemand g.S.Source.read_gives c.args.in_lrat p c.args.source.now (answer_of (c.self.inside.lines + 1) c.in-Err.stop) after new.source)
    c.self.view_is
    (stop_calls _ g.S.Source.read_gives g.S.Source.left _ c.args.in_lrat
    (record { rest = c.self.inside.input.buffer; taken = c.self.inside.input.taken; given = c.self.inside.lines; version = c.self.inside.version; stopped = c.self.inside.stopped })
    c.args.source.now c.in-Err.stop (c.self.inside.lines + 1) after new.source c.in-Err.ensures.err))

pub returns-in-Ok-clause-took : goal.returns-in-Ok-clause-took
returns-in-Ok-clause-took g c = λ _.
    let new = c.read_next.new in
    let inside : Position = record { rest = c.self.inside.input.buffer; taken = c.self.inside.input.taken; given = c.self.inside.lines; version = c.self.inside.version; stopped = c.self.inside.stopped } in
    let after : Position = record { rest = new.input.buffer; taken = new.input.taken; given = c.self.inside.lines + 1; version = c.self.inside.version; stopped = c.self.inside.stopped } in
    subst (λ (p : Position). TookLines g.S.Source.read_gives g.S.Source.left p c.args.source.now (c.self.inside.lines + 1) new.input.buffer new.input.taken new.source)
    c.self.view_is
    (took-line g.S.Source.read_gives g.S.Source.left inside c.args.source.now c.args.in_lrat _ after new.source (omega arith) c.in-Ok.ensures.line)

pub returns-in-Err-clause-took : goal.returns-in-Err-clause-took
returns-in-Err-clause-took g c = λ _.
    let new = c.read_next.new in
    let inside : Position = record { rest = c.self.inside.input.buffer; taken = c.self.inside.input.taken; given = c.self.inside.lines; version = c.self.inside.version; stopped = c.self.inside.stopped } in
    let after : Position = record { rest = new.input.buffer; taken = new.input.taken; given = c.self.inside.lines; version = c.self.inside.version; stopped = Some c.in-Err.stop } in
    rw c.answer_of-in-Err.ensures
    (subst (λ (p : Position). TookNext g.S.Source.read_gives g.S.Source.left p c.args.source.now (answer_of (c.self.inside.lines + 1) c.in-Err.stop) after new.source)
    c.self.view_is
    (took-stop g.S.Source.read_gives g.S.Source.left _ inside c.args.source.now c.args.in_lrat c.in-Err.stop (c.self.inside.lines + 1) after new.source (omega arith) refl c.in-Err.ensures.err))
