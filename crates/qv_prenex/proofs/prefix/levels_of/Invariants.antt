-- the starts of the blocks that are left come behind, and the last one fits
use Rattle.std.proofs.Common.{◌≡◌, ◌+◌, ◌++◌, map, drop, length}
use Rattle.std.specs.Prelude.{sum}
use Rattle.qv_prenex.specs.Blocks.{sorts_in}
use Rattle.qv_prenex.specs.Prefixes.{starts_from}
use Rattle.qv_prenex.proofs.prefix.levels_of.Given as goal

abbrev pub invariant-each : goal.invariant-each
invariant-each l = record {
  starts : l.next.items ++ starts_from l.total (map (λ b. length b) (sorts_in (drop l.block-index l.blocks))) ≡ starts_from l.fn.constants (map (λ b. length b) (sorts_in l.blocks));
  total : l.total + sum (map (λ b. length b) (sorts_in (drop l.block-index l.blocks))) ≡ l.fn.constants + sum (map (λ b. length b) (sorts_in l.blocks));
}
