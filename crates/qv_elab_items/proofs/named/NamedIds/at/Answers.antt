use Rattle.std.proofs.Common.{◌≡◌, ◌<◌, ◌-◌, length, Some, get_or, slice_get, sym, ap, ◌∙◌, arith}
use Rattle.qv_elab_items.specs.Bindings.{named_of}
use Rattle.std.proofs.lemmas.List.{get_or_default}
use Rattle.qv_elab_items.proofs.NamesFound.{named-length, named-at}
use Rattle.qv_elab_items.proofs.named.NamedIds.at.Goals as goal

pub name_at-requires : goal.name_at-requires
name_at-requires c =
    let same : length c.self.inside.names ≡ length c.args.self.now = sym (named-length c.self.inside.names c.self.inside.ids.items) ∙ ap length c.self.view_is in
    let below = c.requires in
    omega (arith, below, same)

pub index-requires : goal.index-requires
index-requires c =
    let same : length c.self.inside.names ≡ length c.args.self.now = sym (named-length c.self.inside.names c.self.inside.ids.items) ∙ ap length c.self.view_is in
    let below = c.requires in
    omega (arith, below, same, c.self.invariant, c.self.inside.ids.ok.0)

pub returns : goal.returns
returns c =
    let names = c.self.inside.names in
    let ids = c.self.inside.ids.items in
    let same : length names ≡ length c.args.self.now = sym (named-length names ids) ∙ ap length c.self.view_is in
    let below = c.requires in
    let count = c.self.invariant in
    let at : length names - 1 - (length names - 1 - c.args.place) ≡ c.args.place = omega (arith, below, same) in
    let within : c.args.place < length ids = omega (arith, below, same, count) in
    ap (λ xs. slice_get xs (length c.args.self.now - 1 - c.args.place)) (sym c.self.view_is)
    ∙ ap (λ n. slice_get (named_of names ids) (n - 1 - c.args.place)) (sym same)
    ∙ named-at names ids (length names - 1 - c.args.place) c.name_at.result.now c.name_at.ensures
    ∙ ap (λ p. Some (c.name_at.result.now, get_or ids p 0)) at
    ∙ ap (λ i. Some (c.name_at.result.now, i)) (get_or_default ids c.args.place 0 c.index.result.now within ∙ sym c.index.ensures)
