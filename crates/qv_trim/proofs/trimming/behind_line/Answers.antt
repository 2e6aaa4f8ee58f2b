use Rattle.std.proofs.Common.{drop}
use Rattle.qv_trim.proofs.Lines.{one-line}
use Rattle.qv_trim.proofs.trimming.behind_line.Goals as goal

pub returns-in-Some-clause-behind : goal.returns-in-Some-clause-behind
returns-in-Some-clause-behind c line rest b = (one-line (drop c.args.at c.args.text.now) c.in-Some.line.now line _ rest c.in-Some.ensures.0 b).1
