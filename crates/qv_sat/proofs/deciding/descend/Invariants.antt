use Rattle.std.proofs.Common.{◌≡◌, length}
use Rattle.qv_sat.specs.Choosing.{Covers}
use Rattle.qv_sat.specs.Counting.{unvalued}
use Rattle.qv_sat.specs.Deciding.{AreOpened, MayDecide}
use Rattle.qv_sat.proofs.deciding.descend.Given as goal

abbrev pub invariant-decisions : goal.invariant-decisions
invariant-decisions l = record {
  ready : MayDecide l.trail l.assumptions l.variables;
  opened : AreOpened l.trail l.assumptions l.opened;
  wide : length l.chooser.order.held ≡ l.variables;
  covers : Covers l.chooser.order.held l.trail.entries;
  clauses : l.trail.clauses ≡ l.fn.trail.clauses;
}

abbrev pub decreases-decisions : goal.decreases-decisions
decreases-decisions l = unvalued l.variables l.trail.entries
