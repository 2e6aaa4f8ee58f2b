use Rattle.std.proofs.Common.{◌≡◌, false, refl, sym, ◌∙◌}
use Rattle.qv_cert.specs.declared.kind.RefusalKind.TheVariants as kind
use Rattle.qv_cnf.specs.LratLine.{line_of}
use Rattle.qv_cnf.specs.Refutation.{OutOfOrder, RatAt, FailsAt, LeftOpen}
use Rattle.qv_lrat.proofs.Turns.{taken-on, taken-refused, taken-refuted}
use Rattle.qv_lrat.proofs.taking.take_step.Goals as goal

pub returns-then-is_refuted : goal.returns-then-is_refuted
returns-then-is_refuted c =
    taken-refuted c.args.checker.now c.args.checker.now (line_of c.args.step.now) (sym c.is_refuted.ensures.refuted ∙ c.if-is_refuted.true) refl

pub returns-in-Ok : goal.returns-in-Ok
returns-in-Ok c =
    let flag : c.args.checker.now.refuted ≡ false = sym c.is_refuted.ensures.refuted ∙ c.if-is_refuted.false in
    taken-on c.args.checker.now c.step.new.self (line_of c.args.step.now) flag c.in-Ok.ensures.judged c.in-Ok.ensures.ok

pub returns-in-Err-Order : goal.returns-in-Err-Order
returns-in-Err-Order c =
    let flag : c.args.checker.now.refuted ≡ false = sym c.is_refuted.ensures.refuted ∙ c.if-is_refuted.false in
    let is = rw c.in-Err-Order.field-0-is at c.in-Err-Order.ensures.judged in
    taken-refused c.args.checker.now c.step.new.self (line_of c.args.step.now) OutOfOrder kind.Id flag is (λ n next. refl)

pub returns-in-Err-Rat : goal.returns-in-Err-Rat
returns-in-Err-Rat c =
    let flag : c.args.checker.now.refuted ≡ false = sym c.is_refuted.ensures.refuted ∙ c.if-is_refuted.false in
    let is = rw c.in-Err-Rat.field-0-is at c.in-Err-Rat.ensures.judged in
    taken-refused c.args.checker.now c.step.new.self (line_of c.args.step.now) (RatAt c.in-Err-Rat.hint) (kind.Rat c.in-Err-Rat.hint) flag is (λ n next. refl)

pub returns-in-Err-Hint : goal.returns-in-Err-Hint
returns-in-Err-Hint c =
    let flag : c.args.checker.now.refuted ≡ false = sym c.is_refuted.ensures.refuted ∙ c.if-is_refuted.false in
    let is = rw c.in-Err-Hint.field-0-is at c.in-Err-Hint.ensures.judged in
    taken-refused c.args.checker.now c.step.new.self (line_of c.args.step.now) (FailsAt c.in-Err-Hint.hint) (kind.Hint c.in-Err-Hint.hint) flag is (λ n next. refl)

pub returns-in-Err-Open : goal.returns-in-Err-Open
returns-in-Err-Open c =
    let flag : c.args.checker.now.refuted ≡ false = sym c.is_refuted.ensures.refuted ∙ c.if-is_refuted.false in
    let is = rw c.in-Err-Open.field-0-is at c.in-Err-Open.ensures.judged in
    taken-refused c.args.checker.now c.step.new.self (line_of c.args.step.now) LeftOpen kind.Open flag is (λ n next. refl)
