use Rattle.std.proofs.Common.{◌∷◌, ◌++◌, [], ap, ◌∙◌}
use Rattle.qv_elab_items.specs.Bindings.{named_of}
use Rattle.qv_elab_items.proofs.NamesFound.{named-push}
use Rattle.qv_elab_items.proofs.named.NamedIds.push.Goals as goal

pub returns-clause-ok : goal.returns-clause-ok
returns-clause-ok c =
    let names = c.self.inside.names in
    let ids = c.self.inside.ids.items in
    ap (λ ns. named_of ns c.push_reserved.new.self.items) c.in_ok-push.ensures.ok
    ∙ ap (λ is. named_of (c.args.name.now ∷ names) is) (c.push_reserved.ensures.items ∙ ap (λ is. is ++ c.args.id ∷ []) c.reserve.ensures.items)
    ∙ named-push c.args.name.now names ids c.args.id c.self.invariant
    ∙ ap (λ xs. (c.args.name.now, c.args.id) ∷ xs) c.self.view_is
