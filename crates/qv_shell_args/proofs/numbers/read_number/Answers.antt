use Rattle.std.proofs.Common.{◌≢◌, ◌∙◌, get_or, sym, arith}
use Rattle.std.proofs.lemmas.Bool.{eqb-true, eqb-false}
use Rattle.qv_shell_args.proofs.Decimals.{plus-in, inside-in, below-in, above-in, failed-in}
use Rattle.qv_shell_args.proofs.numbers.read_number.Goals as goal

pub returns-then-has_plus-clause-value : goal.returns-then-has_plus-clause-value
returns-then-has_plus-clause-value c =
    sym (plus-in c.args.least c.args.most c.args.word.now (eqb-true _ _ (sym c.has_plus.ensures ∙ c.if-has_plus.true)))

pub returns-in-Ok-clause-value : goal.returns-in-Ok-clause-value
returns-in-Ok-clause-value c =
    let plain : get_or c.args.word.now 0 0 ≢ 43 = eqb-false _ _ (sym c.has_plus.ensures ∙ c.if-has_plus.false) in
    sym (inside-in c.args.least c.args.most c.in-Ok.number c.args.word.now c.in-Ok.ensures.value.0 plain (omega arith) (omega arith))

pub returns-in_default-clause-value : goal.returns-in_default-clause-value
returns-in_default-clause-value c =
    let plain : get_or c.args.word.now 0 0 ≢ 43 = eqb-false _ _ (sym c.has_plus.ensures ∙ c.if-has_plus.false) in
    sym (above-in c.args.least c.args.most c.in-Ok.number c.args.word.now c.in-Ok.ensures.value.0 plain (omega arith))

pub returns-in_default-2-clause-value : goal.returns-in_default-2-clause-value
returns-in_default-2-clause-value c =
    let plain : get_or c.args.word.now 0 0 ≢ 43 = eqb-false _ _ (sym c.has_plus.ensures ∙ c.if-has_plus.false) in
    sym (below-in c.args.least c.args.most c.in-Ok.number c.args.word.now c.in-Ok.ensures.value.0 plain (omega arith))

pub returns-in_default-3-clause-value : goal.returns-in_default-3-clause-value
returns-in_default-3-clause-value c =
    let plain : get_or c.args.word.now 0 0 ≢ 43 = eqb-false _ _ (sym c.has_plus.ensures ∙ c.if-has_plus.false) in
    sym (failed-in c.args.least c.args.most c.args.word.now c.in_default.ensures.value.0 plain (omega (arith, c.ranges.most.fits)))
