use Rattle.std.proofs.Common.{◌≡◌, ◌<◌, ◌-◌, length, Some, slice_get, sym, ap, ◌∙◌, arith}
use Rattle.qv_elab_items.specs.Bindings.{names_of}
use Rattle.qv_elab_items.proofs.NameTables.{names-length, names-at}
use Rattle.std.proofs.lemmas.Option.{slice_get-get_or}
use Rattle.qv_elab_items.proofs.names.Names.name_at.Goals as goal

pub index-requires : goal.index-requires
index-requires c =
    let same : length c.self.inside.bound.items ≡ length c.args.self.now = sym (names-length c.self.inside.bound.items) ∙ ap length c.self.view_is in
    let below = c.requires in
    omega (arith, below, same, c.self.inside.bound.ok.0)

pub returns : goal.returns
returns c =
    let bs = c.self.inside.bound.items in
    let same : length bs ≡ length c.args.self.now = sym (names-length bs) ∙ ap length c.self.view_is in
    let below : c.args.place < length bs = omega (arith, c.requires, same) in
    ap (λ xs. slice_get xs (length c.args.self.now - 1 - c.args.place)) (sym c.self.view_is)
    ∙ ap (λ n. slice_get (names_of bs) (n - 1 - c.args.place)) (sym same)
    ∙ names-at bs c.args.place c.index.result.now below (slice_get-get_or bs c.args.place c.index.result.now below ∙ ap Some (sym c.index.ensures))
    ∙ ap Some (sym c.as_slice.ensures.value)
