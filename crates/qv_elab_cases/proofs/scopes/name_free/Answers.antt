use Rattle.qv_elab_cases.proofs.Keeping.{kept-sorted}
use Rattle.qv_elab_cases.proofs.scopes.name_free.Goals as goal

pub returns : goal.returns
returns c = record {
  kept = kept-sorted c.args.store.now c.args.scope.now c.define_sort.new.self c.requires.kept c.args.name.now c.args.sort c.define_sort.result c.requires.lawful c.define_sort.ensures.ok c.define_sort.ensures.err;
}
