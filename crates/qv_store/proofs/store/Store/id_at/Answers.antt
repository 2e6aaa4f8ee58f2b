use Rattle.std.proofs.Common.{arith}
use Rattle.qv_store.proofs.Keeping.{seen-length}
use Rattle.qv_store.proofs.store.Store.id_at.Goals as goal

pub overflow_cast-number : goal.overflow_cast-number
overflow_cast-number c =
    omega (arith, c.requires, c.self.invariant.few, seen-length c.self.inside.nodes.keys c.args.self.now c.self.view_is)
