use Rattle.std.proofs.Common.{◌<◌, length, Some, option_map, get_or, sym, ap, ◌∙◌, arith}
use Rattle.qv_elab_defs.specs.Scopes.{found}
use Rattle.std.proofs.lemmas.List.{get_or_default}
use Rattle.qv_elab_items.proofs.NamesFound.{named-found, place-below}
use Rattle.qv_elab_items.proofs.named.NamedIds.find.Goals as goal

pub index-requires : goal.index-requires
index-requires c =
    let below = place-below c.args.name.now c.self.inside.names c.in-Some.place (sym c.in-Some.ensures) in
    let same = c.self.invariant in
    let count = c.self.inside.ids.ok.0 in
    omega (arith, below, same, count)

pub returns-in-Some : goal.returns-in-Some
returns-in-Some c =
    let ids = c.self.inside.ids.items in
    let below = place-below c.args.name.now c.self.inside.names c.in-Some.place (sym c.in-Some.ensures) in
    let same = c.self.invariant in
    let within : c.in-Some.place < length ids = omega (arith, below, same) in
    sym (ap (found c.args.name.now) (sym c.self.view_is)
    ∙ named-found c.args.name.now c.self.inside.names ids
    ∙ ap (λ o. option_map (λ p. get_or ids p 0) o) (sym c.in-Some.ensures)
    ∙ ap Some (get_or_default ids c.in-Some.place 0 c.index.result.now within ∙ sym c.index.ensures))

pub returns-in-None : goal.returns-in-None
returns-in-None c =
    sym (ap (found c.args.name.now) (sym c.self.view_is) ∙ named-found c.args.name.now c.self.inside.names c.self.inside.ids.items ∙ ap (λ o. option_map (λ p. get_or c.self.inside.ids.items p 0) o) (sym c.in-None.ensures))
