use Rattle.std.proofs.Common.{sym, ◌∙◌}
use Rattle.qv_prenex_splits.proofs.rebuilding.rebuild.Goals as goal

pub returns-in-Some-clause-id : goal.returns-in-Some-clause-id
returns-in-Some-clause-id c = c.requires.made.stands c.args.id c.in-Some.new (sym c.get.ensures ∙ c.in-Some.is)
