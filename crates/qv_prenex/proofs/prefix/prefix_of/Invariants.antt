-- the places of the blocks that are left come behind
use Rattle.std.proofs.Common.{◌≡◌, ◌++◌, map, drop}
use Rattle.qv_words.specs.Problem.{places_of}
use Rattle.qv_store.specs.declared.problem.Quant.TheVariants.{Exists}
use Rattle.qv_store.specs.Problems.{place_of, quantifier_of}
use Rattle.qv_prenex.specs.Blocks.{sorts_in}
use Rattle.qv_prenex.specs.Prefixes.{constant_place}
use Rattle.qv_prenex.proofs.prefix.prefix_of.Given as goal

abbrev pub invariant-each : goal.invariant-each
invariant-each l =
    map place_of l.prefix.items ++ places_of (quantifier_of l.quant) (sorts_in (drop l.block-index l.blocks))
    ≡ map constant_place l.fn.constants ++ places_of (quantifier_of Exists) (sorts_in l.blocks)
