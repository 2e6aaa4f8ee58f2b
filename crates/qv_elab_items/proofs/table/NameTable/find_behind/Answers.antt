use Rattle.std.proofs.Common.{List, ℕ, ◌∷◌, ap, ◌∙◌}
use Rattle.std.proofs.lemmas.Iterator.Adapters.{position_from-zero}
use Rattle.std.specs.Str.{bytes_eq}
use Rattle.qv_elab_items.specs.Places.{place_in}
use Rattle.qv_elab_items.proofs.TableNames.{table-found}
use Rattle.qv_elab_items.proofs.table.NameTable.find_behind.Goals as goal

pub returns : goal.returns
returns c =
    let name : List ℕ = c.args.first ∷ c.args.name.now in
    let keys = c.self.inside.names.keys in
    c.get_index_of.ensures.index ∙ position_from-zero (λ k. bytes_eq name k.items) keys ∙ table-found name keys c.self.invariant ∙ ap (place_in name) c.self.view_is
