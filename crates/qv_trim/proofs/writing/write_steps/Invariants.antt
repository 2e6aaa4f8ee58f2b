use Rattle.std.proofs.Common.{ℕ, ◌≤◌, ◌-◌, List, drop, length}
use Rattle.qv_cnf.specs.LratLine.{LratLine}
use Rattle.qv_trim.specs.Texts.{Begins, BeginsWithNone, ReadsStep}
use Rattle.qv_trim.specs.Writing.{StepsWritten}
use Rattle.qv_trim.proofs.writing.write_steps.Given as goal

-- what was written of lines that are told
abbrev pub invariant-lines : goal.invariant-lines
invariant-lines g l =
    let sink = g.O.Sink in
    record {
      told : (lines : List LratLine) (rest : List ℕ) → Begins ReadsStep (drop l.from l.text) lines rest → BeginsWithNone ReadsStep rest → StepsWritten l.text l.marks l.at l.nth (sink.held l.fn.out) (sink.held l.out) lines rest;
      count : sink.faults l.fn.out ≤ sink.faults l.out;
    }

abbrev pub decreases-lines : goal.decreases-lines
decreases-lines g l = length l.text - l.at
