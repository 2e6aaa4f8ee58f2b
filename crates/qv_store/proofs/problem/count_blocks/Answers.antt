use Rattle.std.proofs.Common.{arith}
use Rattle.qv_store.proofs.Blocks.{begun-all}
use Rattle.qv_store.proofs.problem.count_blocks.Goals as goal

pub places-init : goal.places-init
places-init c = record { counted = omega (arith, begun-all c.args.prefix.now); few = omega arith }
