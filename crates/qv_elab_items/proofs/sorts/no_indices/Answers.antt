use Rattle.std.proofs.Common.{sym, ap}
use Rattle.qv_elab_defs.specs.Answers.{answered}
use Rattle.qv_elab_items.proofs.Wanting.{large-none, small-none}
use Rattle.qv_elab_items.proofs.sorts.no_indices.Goals as goal

pub returns-in-Some : goal.returns-in-Some
returns-in-Some c = λ ns e. sym (ap answered (large-none c.args.text.now c.args.numerals.now ns c.args.place c.in-Some.place e (sym c.in-Some.ensures)))

pub returns-in-None : goal.returns-in-None
returns-in-None c = λ ns e. sym (ap answered (small-none c.args.text.now c.args.numerals.now ns c.args.place e (sym c.in-None.ensures)))
