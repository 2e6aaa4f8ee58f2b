use Rattle.std.proofs.Common.{◌<◌, length, take}
use Rattle.std.specs.Prelude.{All}
use Rattle.qv_store_cases.proofs.ready.has_all.Given as goal

abbrev pub invariant-terms : goal.invariant-terms
invariant-terms l = All (λ id. id < length l.store) (take l.id-index l.ids)
