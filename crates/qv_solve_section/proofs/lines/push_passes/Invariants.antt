-- the passes so far
use Rattle.qv_cert.specs.Line.{Rewrite}
use Rattle.qv_solve_section.proofs.Lined.{IsLining}
use Rattle.qv_solve_section.proofs.lines.push_passes.Given as goal

abbrev pub invariant-passed : goal.invariant-passed
invariant-passed l = IsLining Rewrite l.initial.lines.items l.passes l.pass-index l.lines.items
