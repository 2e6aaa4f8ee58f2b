use Rattle.std.proofs.Common.{◌-◌, length, drop, ap, subst, sym, ◌∙◌}
use Rattle.qv_elab_items.specs.Tables.{names_in, HaveNoTwins}
use Rattle.qv_elab_items.proofs.TableNames.{table-take, twins-take}
use Rattle.qv_elab_items.proofs.table.NameTable.truncate.Goals as goal

pub invariant_of-self : goal.invariant_of-self
invariant_of-self c = subst (λ ks. HaveNoTwins (names_in ks)) (sym c.truncate.ensures.keys) (twins-take c.args.left c.self.inside.names.keys c.self.invariant)

pub returns : goal.returns
returns c =
    ap names_in c.truncate.ensures.keys
    ∙ table-take c.args.left c.self.inside.names.keys
    ∙ ap (λ ns. drop (length ns - c.args.left) ns) c.self.view_is
