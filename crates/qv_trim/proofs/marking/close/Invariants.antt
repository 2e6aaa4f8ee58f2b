use Rattle.qv_trim.specs.Marking.{MarksNamed}
use Rattle.qv_trim.proofs.marking.close.Given as goal

abbrev pub invariant-passes : goal.invariant-passes
invariant-passes l = MarksNamed l.text l.entries l.fn.marks l.marks
