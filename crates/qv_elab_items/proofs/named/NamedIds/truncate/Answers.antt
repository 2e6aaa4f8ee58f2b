use Rattle.std.proofs.Common.{◌≡◌, ◌-◌, length, drop, sym, ap, ◌∙◌}
use Rattle.qv_elab_items.specs.Bindings.{named_of}
use Rattle.qv_elab_items.proofs.NamesFound.{named-length, named-fewer}
use Rattle.qv_elab_items.proofs.named.NamedIds.truncate.Goals as goal

pub returns : goal.returns
returns c =
    let names = c.self.inside.names in
    let ids = c.self.inside.ids.items in
    let same : length names ≡ length c.args.self.now = sym (named-length names ids) ∙ ap length c.self.view_is in
    ap (λ ns. named_of ns c.truncate-2.new.self.items) c.truncate.ensures
    ∙ ap (λ is. named_of (drop (length names - c.args.left) names) is) c.truncate-2.ensures.items
    ∙ named-fewer c.args.left names ids
    ∙ ap (drop (length names - c.args.left)) c.self.view_is
    ∙ ap (λ n. drop (n - c.args.left) c.args.self.now) same
