use Rattle.qv_prenex_matrix.proofs.Implied.{implied-sorted}
use Rattle.qv_prenex_matrix.proofs.rules.rule_of.Goals as goal

pub implied-requires-clause-sorted : goal.implied-requires-clause-sorted
implied-requires-clause-sorted c = implied-sorted c.args.store.now c.args.part.plus c.args.part.term c.in-Implied.a c.in-Implied.b c.find.ensures.shared c.requires c.in-Implied.ensures.found
