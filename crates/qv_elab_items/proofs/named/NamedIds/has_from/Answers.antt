use Rattle.std.proofs.Common.{◌≡◌, ◌-◌, length, take, sym, ap, ◌∙◌}
use Rattle.std.specs.Prelude.{is_some}
use Rattle.qv_elab_defs.specs.Scopes.{found}
use Rattle.qv_elab_items.proofs.NamesFound.{named-length, named-has, none-has}
use Rattle.qv_elab_items.proofs.named.NamedIds.has_from.Goals as goal

pub returns-in-Some : goal.returns-in-Some
returns-in-Some c =
    let names = c.self.inside.names in
    let ids = c.self.inside.ids.items in
    let same : length names ≡ length c.args.self.now = sym (named-length names ids) ∙ ap length c.self.view_is in
    named-has c.args.name.now c.args.from names ids c.in-Some.place (sym c.in-Some.ensures)
    ∙ ap (λ xs. is_some (found c.args.name.now (take (length names - c.args.from) xs))) c.self.view_is
    ∙ ap (λ n. is_some (found c.args.name.now (take (n - c.args.from) c.args.self.now))) same

pub returns-in-None : goal.returns-in-None
returns-in-None c =
    let names = c.self.inside.names in
    let ids = c.self.inside.ids.items in
    sym (ap (λ xs. is_some (found c.args.name.now (take (length c.args.self.now - c.args.from) xs))) (sym c.self.view_is)
    ∙ none-has c.args.name.now names ids (length c.args.self.now - c.args.from) (sym c.in-None.ensures))
