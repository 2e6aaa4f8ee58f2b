-- so many terms are copied
use Rattle.std.proofs.Common.{◌≡◌, take}
use Rattle.qv_store.proofs.store.Store.copy.Given as goal

abbrev pub invariant-terms : goal.invariant-terms
invariant-terms l = l.copied ≡ take l.number l.self
