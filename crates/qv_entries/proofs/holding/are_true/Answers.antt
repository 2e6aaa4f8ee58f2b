use Rattle.qv_entries.proofs.Conjunctions.{both-askable, front-alike}
use Rattle.qv_entries.proofs.holding.are_true.Goals as goal

pub means_true-requires-clause-askable : goal.means_true-requires-clause-askable
means_true-requires-clause-askable c = (both-askable c.args.store.now c.args.point.now c.parts.left _ _ c.in-Some.ensures c.parts.invariant.askable).1

pub parts-preserved : goal.parts-preserved
parts-preserved c = record {
  table = c.in_ok-means_true.ensures.table;
  askable = (both-askable c.args.store.now c.args.point.now c.parts.left _ _ c.in-Some.ensures c.parts.invariant.askable).0;
  alike = front-alike c.args.store.now c.args.point.now c.args.region c.parts.left _ _ c.in-Some.ensures c.parts.invariant.askable c.parts.invariant.alike (c.in_ok-means_true.ensures.there.0 c.if-not-branch.false);
}
