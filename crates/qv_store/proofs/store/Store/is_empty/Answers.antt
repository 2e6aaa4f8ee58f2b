use Rattle.std.proofs.Common.{length, ap, ◌∙◌, sym}
use Rattle.qv_store.proofs.Keeping.{seen-length, none-of_none}
use Rattle.qv_store.proofs.store.Store.is_empty.Goals as goal

pub returns : goal.returns
returns c =
    let long = seen-length c.self.inside.nodes.keys c.args.self.now c.self.view_is in
    (λ h. none-of_none c.args.self.now (sym long ∙ c.is_empty.ensures.0 h), λ e. c.is_empty.ensures.1 (long ∙ ap length e))
