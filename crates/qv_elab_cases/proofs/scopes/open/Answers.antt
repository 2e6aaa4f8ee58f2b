use Rattle.qv_elab_cases.proofs.Keeping.{kept-opened}
use Rattle.qv_elab_cases.proofs.scopes.open.Goals as goal

pub returns : goal.returns
returns c = record { kept = kept-opened c.args.store.now c.args.scope.now c.push.new.self c.requires.kept c.push.result c.push.ensures.ok c.push.ensures.err }
