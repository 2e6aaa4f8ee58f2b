use Rattle.std.proofs.Common.{arith}
use Rattle.qv_rup.proofs.Parted.{rat-none, rat-over}
use Rattle.qv_rup.proofs.checker.refuse.Goals as goal

pub returns-then-place-hints : goal.returns-then-place-hints
returns-then-place-hints c = λ live set. rat-none live set c.args.hints.now c.args.place (omega arith)

pub returns : goal.returns
returns c = λ live set. rat-over live set c.args.hints.now c.args.place (omega arith)
