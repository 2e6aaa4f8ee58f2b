-- the terms stay
use Rattle.std.specs.Prelude.{◌≡◌}
use Rattle.qv_prenex_splits.proofs.splitting.keep_firsts.Given as goal

abbrev pub invariant-each : goal.invariant-each
invariant-each l = l.store ≡ l.fn.store
