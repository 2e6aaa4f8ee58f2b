use Rattle.std.proofs.Common.{arith}
use Rattle.qv_store.proofs.Blocks.{in-block-of}
use Rattle.qv_store.proofs.problem.Problem.block_of.Goals as goal

pub returns : goal.returns
returns c =
    in-block-of c.args.self.now.prefix.items c.deref.result.now c.args.place c.count_blocks.result c.deref.ensures.value (omega (arith, c.requires, c.args.self.now.prefix.ok.0)) c.count_blocks.ensures.count
