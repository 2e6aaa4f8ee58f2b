use Rattle.std.proofs.Common.{map, take}
use Rattle.qv_circuits.specs.Adding.{lits_of}
use Rattle.qv_blast_cases.specs.Arguments.{HaveWidths}
use Rattle.qv_blast_cases.proofs.asking.have_widths.Given as goal

abbrev pub invariant-places : goal.invariant-places
invariant-places l = HaveWidths (map (λ v. lits_of v.now) (take l.place l.args)) (take l.place l.sorts)
