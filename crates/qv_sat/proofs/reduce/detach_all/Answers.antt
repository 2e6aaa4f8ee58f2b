use Rattle.std.proofs.Common.{get_or, sym, subst}
use Rattle.std.specs.Prelude.{IsSome}
use Rattle.qv_cnf.specs.Listing.{clause_named}
use Rattle.qv_watch.specs.TrailState.{TrailState, without_conflict}
use Rattle.qv_sat.proofs.Deleting.{detached_next, detached_none, still_attached}
use Rattle.qv_sat.proofs.reduce.detach_all.Goals as goal

pub ids-init : goal.ids-init
ids-init c = detached_none c.args.trail.now

pub detach-requires-clause-attached : goal.detach-requires-clause-attached
detach-requires-clause-attached c =
    let ids = c.args.ids.now in
    let i = c.ids.id-index in
    subst (λ (t : TrailState). IsSome (clause_named (get_or ids i 0) t.clauses)) (sym c.ids.invariant) (still_attached ids i c.args.trail.now.clauses c.requires.rises c.ids-test.true (c.requires.attached i 0 c.ids-test.true))

pub ids-preserved : goal.ids-preserved
ids-preserved c = detached_next c.args.trail.now c.ids.trail c.detach.new.self c.args.ids.now c.ids.id-index (without_conflict c.ids.trail.answer) c.ids-test.true c.ids.invariant c.detach.ensures
