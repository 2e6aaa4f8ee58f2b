use Rattle.std.proofs.Common.{◌∙◌, sym}
use Rattle.qv_cert.specs.Taking.{lines_state}
use Rattle.qv_cert.proofs.NextLines.{gives_line, reads_line, took_line, line_fails}
use Rattle.qv_cert.proofs.input.Input.next_line.Goals as goal

pub returns-clause-gives : goal.returns-clause-gives
returns-clause-gives g c =
    let old = c.args.self.now in
    let new = c.take_line.new.self in
    let e = c.take_line.ensures in
    rw c.has_line.ensures
    (gives_line g.S.Source.read_gives g.S.Source.left _ (lines_state old.line.items old.buffer old.taken) (lines_state new.line.items new.buffer new.taken) c.args.source.now c.take_line.new.source
    c.take_line.result e.telling e.line e.told e.err e.last)

pub returns-clause-calls : goal.returns-clause-calls
returns-clause-calls g c =
    let old = c.args.self.now in
    let new = c.take_line.new.self in
    let e = c.take_line.ensures in
    rw c.has_line.ensures
    (reads_line g.S.Source.read_gives g.S.Source.left _ (lines_state old.line.items old.buffer old.taken) (lines_state new.line.items new.buffer new.taken) c.args.source.now c.take_line.new.source
    c.take_line.result e.line e.err)

pub returns-clause-took : goal.returns-clause-took
returns-clause-took g c =
    let old = c.args.self.now in
    let new = c.take_line.new.self in
    let e = c.take_line.ensures in
    rw c.has_line.ensures
    (took_line g.S.Source.read_gives g.S.Source.left _ (lines_state old.line.items old.buffer old.taken) (lines_state new.line.items new.buffer new.taken) c.args.source.now c.take_line.new.source
    c.take_line.result e.took e.err e.last)

pub returns-clause-failed : goal.returns-clause-failed
returns-clause-failed g c failed =
    let old = c.args.self.now in
    let new = c.take_line.new.self in
    line_fails g.S.Source.read_gives g.S.Source.left _ (lines_state old.line.items old.buffer old.taken) (lines_state new.line.items new.buffer new.taken) c.args.source.now c.take_line.new.source
    c.take_line.result c.take_line.ensures.err (sym c.has_line.ensures ∙ failed)
