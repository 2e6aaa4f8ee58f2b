-- the steps so far
use Rattle.qv_cnf.specs.LratLine.{line_of}
use Rattle.qv_cert.specs.Line.{Step}
use Rattle.qv_solve_section.proofs.Lined.{IsLining}
use Rattle.qv_solve_section.proofs.lines.push_steps.Given as goal

abbrev pub invariant-stepped : goal.invariant-stepped
invariant-stepped l = IsLining (λ s. Step (line_of s)) l.initial.lines.items l.steps l.step-index l.lines.items
