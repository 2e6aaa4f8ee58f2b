use Rattle.std.proofs.Common.{reverse, take}
use Rattle.qv_learn.specs.Searching.{PutsVisits}
use Rattle.qv_learn.proofs.search.push_visits.Given as goal

abbrev pub invariant-loop-lit : goal.invariant-loop-lit
invariant-loop-lit l = PutsVisits l.own (take l.lit-index l.lits) (reverse l.initial.tasks.items) (reverse l.tasks.items)
