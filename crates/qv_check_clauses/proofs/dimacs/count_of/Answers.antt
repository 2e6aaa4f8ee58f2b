use Rattle.std.proofs.Common.{ap, arith, sym, ◌∙◌}
use Rattle.std.specs.Option.{option_copied}
use Rattle.qv_check_clauses.proofs.Counted.{count-none, count-one}
use Rattle.qv_check_clauses.proofs.dimacs.count_of.Goals as goal
use Rattle.qv_check_clauses.proofs.dimacs.count_of.Goals.{in-Some, in_default}

pub clauses-preserved : goal.clauses-preserved
clauses-preserved c =
    let ids = c.ids-ids.result.now in
    let i = c.clauses.id-index in
    let live = c.args.checker.now.live in
    let few = c.clauses.invariant.few in
    elim c.match-clause.branch [
      | in-Some w ↦
          rw w.count-is record {
            count = count-one ids i live c.clauses-test.true w.in-Some._lits.now c.clauses.count (sym c.clause.ensures ∙ ap option_copied w.in-Some.is) c.clauses.invariant.count;
            few = omega (arith, few);
          }
      | in_default w ↦
          rw w.count-is record {
            count = count-none ids i live c.clauses-test.true c.clauses.count (sym c.clause.ensures ∙ ap option_copied w.in_default.is) c.clauses.invariant.count;
            few = omega (arith, few);
          }
    ]
