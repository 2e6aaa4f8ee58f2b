use Rattle.std.proofs.Common.{length, ap, sym, ◌∙◌}
use Rattle.qv_elab_items.proofs.NamesFound.{named-length}
use Rattle.qv_elab_items.proofs.named.NamedIds.len.Goals as goal

pub returns : goal.returns
returns c = c.len.ensures ∙ sym (named-length c.self.inside.names c.self.inside.ids.items) ∙ ap length c.self.view_is
