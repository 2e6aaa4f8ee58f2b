use Rattle.std.specs.Io.KnownBytes.{Keeps}
use Rattle.qv_io.specs.Again.{WasInterrupted}
use Rattle.qv_io.proofs.again.write_again.Given as goal

-- all calls so far were interrupted, and took nothing
abbrev pub invariant-tries : goal.invariant-tries
invariant-tries g l = record {
  kept : Keeps (g.W.Write.contents l.initial.writer) (g.W.Write.contents l.writer);
  calls : WasInterrupted (g.W.WriteOnce.write_gives l.piece) l.initial.writer l.writer;
}
