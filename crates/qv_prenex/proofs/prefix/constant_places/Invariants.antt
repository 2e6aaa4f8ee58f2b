use Rattle.std.proofs.Common.{◌≡◌, map, take}
use Rattle.qv_store.specs.Problems.{place_of}
use Rattle.qv_prenex.specs.Prefixes.{constant_place}
use Rattle.qv_prenex.proofs.prefix.constant_places.Given as goal

abbrev pub invariant-constants : goal.invariant-constants
invariant-constants l = map place_of l.prefix.items ≡ map constant_place (take l.constant-index l.constants)
