use Rattle.std.proofs.Common.{◌≡◌, ◌++◌, map, take}
use Rattle.qv_prenex.specs.Prefixes.{place_with}
use Rattle.qv_prenex.proofs.prefix.push_places.Given as goal

abbrev pub invariant-sorts : goal.invariant-sorts
invariant-sorts l = l.prefix.items ≡ l.fn.prefix.items ++ map (place_with l.quant) (take l.sort-index l.block)
