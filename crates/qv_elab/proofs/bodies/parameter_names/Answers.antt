use Rattle.std.proofs.Common.{length, ap, arith}
use Rattle.qv_store.proofs.Replacement.{grows-more}
use Rattle.qv_elab.proofs.OwnReadings.{lawful-at, parameters-more}
use Rattle.qv_elab.proofs.bodies.parameter_names.Goals as goal

pub put-requires-clause-sorted : goal.put-requires-clause-sorted
put-requires-clause-sorted c = (lawful-at c.args.parameters.now c.parameters.level c.index-parameters-level.result c.requires c.parameters-test.true c.index-parameters-level.is, tt)

pub parameters-preserved : goal.parameters-preserved
parameters-preserved c = record {
  names = parameters-more c.parameters.store c.put.new.self c.args.parameters.now c.parameters.level c.index-parameters-level.result c.parameters.names c.push.new.self c.in_ok-id.id c.deref.result.now c.parameters-test.true c.index-parameters-level.is c.put.ensures.grows c.parameters.invariant.names c.in_ok-id.ensures.id c.deref.ensures.value c.in_ok-push.ensures.ok;
  grows = grows-more c.args.store.now c.parameters.store c.put.new.self c.parameters.invariant.grows c.put.ensures.grows;
}

pub returns-in_err-id-clause-none : goal.returns-in_err-id-clause-none
returns-in_err-id-clause-none c = λ none. let no = ap length none in absurd (omega (arith, no, c.parameters-test.true))

pub returns-in_err-push-clause-none : goal.returns-in_err-push-clause-none
returns-in_err-push-clause-none c = λ none. let no = ap length none in absurd (omega (arith, no, c.parameters-test.true))
