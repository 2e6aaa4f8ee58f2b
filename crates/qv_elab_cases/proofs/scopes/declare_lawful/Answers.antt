use Rattle.qv_elab_cases.proofs.Keeping.{kept-declared}
use Rattle.qv_elab_cases.proofs.scopes.declare_lawful.Goals as goal

pub returns : goal.returns
returns c = record {
  kept = kept-declared c.args.store.now c.args.scope.now c.declare.new.self c.requires.kept c.args.name.now c.args.sort c.declare.result c.requires.lawful c.declare.ensures.index c.declare.ensures.ok c.declare.ensures.err;
}
