use Rattle.std.proofs.Common.{sym, subst}
use Rattle.qv_watch.specs.TrailState.{TrailState}
use Rattle.qv_sat.specs.Choosing.{Covers}
use Rattle.qv_sat.proofs.Covering.{Covers-back}
use Rattle.qv_sat.proofs.choosing.Chooser.take_back.Goals as goal

pub returns-clause-covers : goal.returns-clause-covers
returns-clause-covers c =
    let held = c.release_above.new.self.order.held in
    subst (λ (t : TrailState). Covers held t.entries) (sym c.back_to.ensures) (Covers-back c.args.level c.args.trail.now.entries c.args.self.now.order.held held c.release_above.ensures c.requires.covers)
