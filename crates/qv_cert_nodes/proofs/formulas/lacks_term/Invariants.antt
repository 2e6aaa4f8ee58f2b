-- none of the places so far lacks a term
use Rattle.std.proofs.Common.{◌≡◌, drop}
use Rattle.qv_cert_nodes.specs.Putting.{lacks_in}
use Rattle.qv_cert_nodes.proofs.formulas.lacks_term.Given as goal

abbrev pub invariant-places : goal.invariant-places
invariant-places l = lacks_in l.terms l.place (drop l.place l.problem.prefix.items) ≡ lacks_in l.terms 0 l.problem.prefix.items
