use Rattle.std.proofs.Common.{◌≤◌, ◌-◌}
use Rattle.qv_io.specs.Source.{TellsAsBefore}
use Rattle.qv_cert.specs.CertReader.{read_limit}
use Rattle.qv_cert.proofs.TakingLemmas.{Held}
use Rattle.qv_cert.proofs.input.Input.take_line.Given as goal

-- a line has begun
abbrev pub invariant-pieces : goal.invariant-pieces
invariant-pieces g l =
    let source = g.S.Source in
    record {
      held : Held source.read_gives source.left l.fn.self.buffer l.fn.self.taken l.fn.source l.self.line.items l.self.buffer l.self.taken l.source;
      telling : TellsAsBefore (source.left l.fn.source) (source.left l.source);
      count : source.faults l.fn.source ≤ source.faults l.source;
    }

-- bytes are taken only below the limit
abbrev pub decreases-pieces : goal.decreases-pieces
decreases-pieces g l = read_limit - l.self.taken
