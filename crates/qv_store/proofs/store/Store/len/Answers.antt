use Rattle.std.proofs.Common.{◌∙◌}
use Rattle.qv_store.proofs.Keeping.{seen-length}
use Rattle.qv_store.proofs.store.Store.len.Goals as goal

pub returns-clause-len : goal.returns-clause-len
returns-clause-len c = c.len.ensures.len ∙ seen-length c.self.inside.nodes.keys c.args.self.now c.self.view_is
