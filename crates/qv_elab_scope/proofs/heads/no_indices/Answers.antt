use Rattle.std.proofs.Common.{sym}
use Rattle.qv_elab_scope.proofs.NamedHeads.{head-large, head-small}
use Rattle.qv_elab_scope.proofs.heads.no_indices.Goals as goal

pub returns-in-Some : goal.returns-in-Some
returns-in-Some c = λ ns defs at e. head-large c.args.text.now c.args.numerals.now ns c.args.place c.in-Some.place e (sym c.in-Some.ensures)

pub returns-in-None : goal.returns-in-None
returns-in-None c = λ ns defs at e. head-small c.args.text.now c.args.numerals.now ns c.args.place e (sym c.in-None.ensures)
