use Rattle.std.proofs.Common.{rules}
use Rattle.qv_io.specs.Again.{no_call, one_more}
use Rattle.qv_io.proofs.again.write_again.Goals as goal

pub tries-init : goal.tries-init
tries-init g c = record {
  kept = search rules;
  calls = no_call;
}

pub tries-preserved : goal.tries-preserved
tries-preserved g c = record {
  kept = search rules;
  calls = one_more _ c.in-Err.why _ c.tries.invariant.calls c.in-Err.ensures.call (search rules);
}
