use Rattle.std.proofs.Common.{length, ap, sym, ◌∙◌}
use Rattle.qv_rup.proofs.Marked.{literals-length}
use Rattle.qv_rup.proofs.marks.Marks.len.Goals as goal

pub returns : goal.returns
returns c = c.len.ensures ∙ c.self.inside.set.ok.0 ∙ sym (literals-length c.self.inside.set.items) ∙ ap length c.self.view_is
