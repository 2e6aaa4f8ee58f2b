use Rattle.std.proofs.Common.{◌∙◌}
use Rattle.qv_rup.proofs.Marked.{none-left}
use Rattle.qv_rup.proofs.marks.Marks.clear.Goals as goal

pub returns : goal.returns
returns c = c.truncate.ensures ∙ none-left c.args.self.now
