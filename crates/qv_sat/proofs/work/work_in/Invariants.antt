-- the counts so far, and those of the steps that are left
use Rattle.std.proofs.Common.{◌≡◌, ◌+◌, drop}
use Rattle.qv_cnf.specs.Derivation.{additions}
use Rattle.qv_cnf.specs.LratLine.{lines_of}
use Rattle.qv_sat.specs.CoreState.{deletions}
use Rattle.qv_sat.proofs.work.work_in.Given as goal

abbrev pub invariant-steps : goal.invariant-steps
invariant-steps l = record {
  conflicts : l.conflicts + additions (lines_of (drop l.step-index l.steps)) ≡ additions (lines_of l.steps);
  reductions : l.reductions + deletions (lines_of (drop l.step-index l.steps)) ≡ deletions (lines_of l.steps);
  few : l.conflicts + l.reductions ≡ l.step-index;
}
