use Rattle.std.proofs.Common.{◌≡◌, ◌≤◌, false, length}
use Rattle.qv_trim.specs.Marking.{ClosedFrom, MarksNamed}
use Rattle.qv_trim.proofs.marking.pass.Given as goal

-- what was passed is closed, unless an entry was marked there since
abbrev pub invariant-entries : goal.invariant-entries
invariant-entries l = record {
  within : l.at ≤ length l.entries;
  named : MarksNamed l.text l.entries l.fn.marks l.marks;
  closed : l.again ≡ false → ClosedFrom l.text l.entries l.at l.marks;
}

abbrev pub decreases-entries : goal.decreases-entries
decreases-entries l = l.at
