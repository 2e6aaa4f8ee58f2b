use Rattle.std.proofs.Common.{sym, ap, ◌∙◌, subst}
use Rattle.qv_elab_items.specs.Bindings.{names_of, AreKept}
use Rattle.qv_elab_items.proofs.NameTables.{names-none, kept-none}
use Rattle.qv_elab_items.proofs.names.Names.new.Goals as goal

pub invariant_of-result : goal.invariant_of-result
invariant_of-result c = subst (λ bs. AreKept c.with_hasher.result bs) (sym c.new-2.ensures.items) (kept-none c.with_hasher.result c.with_hasher.ensures.empty)

pub returns : goal.returns
returns c = ap names_of c.new-2.ensures.items ∙ names-none
