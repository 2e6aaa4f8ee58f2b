use Rattle.std.proofs.Common.{ℕ, List, ◌≤◌, ◌-◌, length}
use Rattle.std.specs.Prelude.{drop}
use Rattle.qv_check_laws.specs.Verdict.{AcceptedSection}
use Rattle.qv_check_trim.specs.Sections.{IsFrontOfAnswers, StandIn}
use Rattle.qv_check_trim.proofs.Between.{IsBetween}
use Rattle.qv_check_trim.proofs.sections.write_sections.Given as goal

-- the first sections were written, and the others stand in what is left of the text
abbrev pub invariant-answers : goal.invariant-answers
invariant-answers g l =
    let sink = g.P.Sink in
    record {
      between : (sections : List AcceptedSection) (behind : List ℕ) → StandIn sections l.text behind → IsFrontOfAnswers sections l.printed →
          IsBetween sections behind l.printed (drop l.from l.text) (drop l.at l.printed) (sink.held l.fn.out) (sink.held l.out);
      within : l.from ≤ length l.text;
      at_within : l.at ≤ length l.printed;
      count : sink.faults l.fn.out ≤ sink.faults l.out;
    }

abbrev pub decreases-answers : goal.decreases-answers
decreases-answers g l = length l.printed - l.at
