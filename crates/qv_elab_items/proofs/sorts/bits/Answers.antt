use Rattle.std.proofs.Common.{sym, ap, arith}
use Rattle.qv_elab_defs.specs.Answers.{answered}
use Rattle.qv_elab_items.proofs.Wanting.{large-bits, other-count}
use Rattle.qv_elab_items.proofs.sorts.bits.Goals as goal

pub returns-in-Some : goal.returns-in-Some
returns-in-Some c = λ ns e. sym (ap answered (large-bits c.args.text.now c.args.numerals.now ns c.args.place c.in-Some.place e (sym c.in-Some.ensures)))

pub returns-in_default-numerals-2 : goal.returns-in_default-numerals-2
returns-in_default-numerals-2 c = λ ns e.
    sym (ap answered (other-count c.args.text.now c.args.numerals.now ns c.args.place e (sym c.in_default.ensures) (λ one. let two = c.in_default-numerals.len_at_least in omega (arith, one))))
