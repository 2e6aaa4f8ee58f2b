use Rattle.std.proofs.Common.{ap, sym, ◌∙◌}
use Rattle.std.specs.Option.{option_copied}
use Rattle.qv_check_clauses.proofs.Counted.{greatest-none, greatest-one}
use Rattle.qv_check_clauses.proofs.dimacs.greatest_of.Goals as goal
use Rattle.qv_check_clauses.proofs.dimacs.greatest_of.Goals.{in-Some, in_default}

pub clauses-preserved : goal.clauses-preserved
clauses-preserved c =
    let ids = c.ids-ids.result.now in
    let i = c.clauses.id-index in
    let live = c.args.checker.now.live in
    elim c.match-clause.branch [
      | in-Some w ↦
          rw w.greatest-is (greatest-one ids i live c.clauses-test.true w.in-Some.lits.now c.clauses.greatest w.greatest_in.result w.greater-greatest.result (sym c.clause.ensures ∙ ap option_copied w.in-Some.is)
          c.clauses.invariant w.greatest_in.ensures w.greater-greatest.ensures)
      | in_default w ↦ rw w.greatest-is (greatest-none ids i live c.clauses-test.true c.clauses.greatest (sym c.clause.ensures ∙ ap option_copied w.in_default.is) c.clauses.invariant)
    ]
