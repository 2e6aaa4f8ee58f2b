use Rattle.std.proofs.Common.{sym}
use Rattle.qv_words.proofs.InSort.{lawful_rank}
use Rattle.qv_sorts.proofs.Agreement.{no_fault}
use Rattle.qv_sorts.proofs.ranking.rank.Goals as goal

pub returns-in-Some-clause-fault : goal.returns-in-Some-clause-fault
returns-in-Some-clause-fault c = no_fault c.args.op c.args.sorts.now c.in-Some.sort (sym c.in-Some.ensures)

pub returns-in-Some-clause-lawful : goal.returns-in-Some-clause-lawful
returns-in-Some-clause-lawful c = λ all. lawful_rank c.args.op c.args.sorts.now c.in-Some.sort all (sym c.in-Some.ensures)
