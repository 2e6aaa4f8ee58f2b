use Rattle.std.proofs.Common.{rules, inl}
use Rattle.qv_io.specs.Again.{no_call, one_more}
use Rattle.qv_io.proofs.again.read_again.Goals as goal

pub tries-init : goal.tries-init
tries-init g c = record {
  same = search rules;
  kept = search rules;
  calls = no_call;
}

pub tries-preserved : goal.tries-preserved
tries-preserved g c = record {
  same = search rules;
  kept = search rules;
  calls = one_more _ c.in-Err.why _ c.tries.invariant.calls c.in-Err.ensures.call (search rules);
}

pub returns-in-Ok-clause-calls : goal.returns-in-Ok-clause-calls
returns-in-Ok-clause-calls g c = inl (_, c.tries.invariant.calls, c.in-Ok.ensures.call, tt)

pub returns-then-ne-clause-calls : goal.returns-then-ne-clause-calls
returns-then-ne-clause-calls g c = inl (_, c.tries.invariant.calls, c.in-Err.ensures.call, search rules)
