use Rattle.std.proofs.Common.{◌≡◌, false, get_or, take}
use Rattle.std.specs.Prelude.{All}
use Rattle.qv_cases_terms.proofs.closed.none_of.Given as goal

abbrev pub invariant-each : goal.invariant-each
invariant-each l = All (λ id. get_or l.free id false ≡ false) (take l.id-index l.ids)
