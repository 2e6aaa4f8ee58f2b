use Rattle.std.proofs.Common.{length, ap, sym, ◌∙◌}
use Rattle.qv_elab_items.proofs.NameTables.{names-length}
use Rattle.qv_elab_items.proofs.names.Names.len.Goals as goal

pub returns : goal.returns
returns c = c.len.ensures ∙ c.self.inside.bound.ok.0 ∙ sym (names-length c.self.inside.bound.items) ∙ ap length c.self.view_is
