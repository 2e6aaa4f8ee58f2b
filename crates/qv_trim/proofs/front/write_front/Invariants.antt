use Rattle.std.proofs.Common.{ℕ, ◌≤◌, ◌-◌, Bool, List, length}
use Rattle.qv_cert.specs.Line.{CertLine}
use Rattle.qv_trim.specs.Texts.{Begins, ReadsOutside}
use Rattle.qv_trim.specs.Writing.{FrontWritten, IsFront}
use Rattle.qv_trim.proofs.front.write_front.Given as goal

-- what was written of a front that is told
abbrev pub invariant-lines : goal.invariant-lines
invariant-lines g l =
    let sink = g.O.Sink in
    record {
      told : (lines : List CertLine) (rest : List ℕ) (proves : Bool) → Begins ReadsOutside l.text lines rest → IsFront lines proves → FrontWritten l.text l.at (sink.held l.fn.out) (sink.held l.out) lines rest proves;
      within : l.at ≤ length l.text;
      count : sink.faults l.fn.out ≤ sink.faults l.out;
    }

abbrev pub decreases-lines : goal.decreases-lines
decreases-lines g l = length l.text - l.at
