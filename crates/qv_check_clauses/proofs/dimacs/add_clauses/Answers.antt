use Rattle.std.proofs.Common.{ap, sym, ◌∙◌}
use Rattle.std.specs.Option.{option_copied}
use Rattle.qv_check_clauses.proofs.Counted.{text-none, text-one}
use Rattle.qv_check_clauses.proofs.dimacs.add_clauses.Goals as goal
use Rattle.qv_check_clauses.proofs.dimacs.add_clauses.Goals.{in-Some+in_ok-add_clause, in_default}

pub clauses-preserved : goal.clauses-preserved
clauses-preserved c =
    let ids = c.ids-ids.result.now in
    let i = c.clauses.id-index in
    let live = c.args.checker.now.live in
    elim c.match-clause.branch [
      | in-Some+in_ok-add_clause w ↦
          rw w.out-is (text-one ids i live c.clauses-test.true w.in-Some.lits.now c.args.out.now.items c.clauses.out.items w.add_clause.new.out.items (sym c.clause.ensures ∙ ap option_copied w.in-Some.is)
          c.clauses.invariant w.in_ok-add_clause.ensures)
      | in_default w ↦ rw w.out-is (text-none ids i live c.clauses-test.true c.args.out.now.items c.clauses.out.items (sym c.clause.ensures ∙ ap option_copied w.in_default.is) c.clauses.invariant)
    ]
