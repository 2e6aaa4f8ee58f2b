use Rattle.std.proofs.Common.{◌≡◌, length}
use Rattle.std.specs.Io.KnownBytes.{Keeps}
use Rattle.qv_io.specs.Again.{WasInterrupted}
use Rattle.qv_io.proofs.again.read_again.Given as goal

-- all calls so far were interrupted, and gave nothing
abbrev pub invariant-tries : goal.invariant-tries
invariant-tries g l = record {
  same : length l.buf ≡ length l.initial.buf;
  kept : Keeps (g.R.Read.remaining l.initial.reader) (g.R.Read.remaining l.reader);
  calls : WasInterrupted g.R.ReadOnce.read_gives (l.initial.reader, l.initial.buf) (l.reader, l.buf);
}
