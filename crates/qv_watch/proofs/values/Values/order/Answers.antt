use Rattle.std.proofs.Common.{sym, ◌∙◌, ap}
use Rattle.qv_watch.specs.Entries.{trues}
use Rattle.qv_watch.proofs.Tabling.{trues-entries_of}
use Rattle.qv_watch.proofs.values.Values.order.Goals as goal

pub returns : goal.returns
returns c = c.deref.ensures.value ∙ sym (trues-entries_of c.self.inside.vars.items c.self.inside.order.items) ∙ ap (λ v. trues v.entries) c.self.view_is
