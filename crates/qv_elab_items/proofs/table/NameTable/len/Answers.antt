use Rattle.std.proofs.Common.{length, ap, sym, ◌∙◌}
use Rattle.qv_elab_items.proofs.TableNames.{table-length}
use Rattle.qv_elab_items.proofs.table.NameTable.len.Goals as goal

pub returns : goal.returns
returns c = c.len.ensures.len ∙ sym (table-length c.self.inside.names.keys) ∙ ap length c.self.view_is
