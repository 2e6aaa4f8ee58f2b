use Rattle.std.proofs.Common.{◌≡◌, length}
use Rattle.qv_cases_terms.specs.Free.{AreFreeOf}
use Rattle.qv_cases_terms.proofs.closed.free_of.Given as goal

abbrev pub invariant-terms : goal.invariant-terms
invariant-terms l = record { marks : AreFreeOf l.level l.store l.free.items; all : length l.free.items ≡ l.number }
