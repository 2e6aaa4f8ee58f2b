use Rattle.std.proofs.Common.{ap, ◌∙◌}
use Rattle.qv_elab_items.specs.Bindings.{named_of}
use Rattle.qv_elab_items.proofs.NamesFound.{named-none}
use Rattle.qv_elab_items.proofs.named.NamedIds.new.Goals as goal

pub returns : goal.returns
returns c = ap (λ ns. named_of ns c.new-2.result.items) c.new.ensures ∙ named-none c.new-2.result.items
