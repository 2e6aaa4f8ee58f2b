use Rattle.std.specs.Prelude.{IfOk}
use Rattle.std.proofs.lemmas.Result.{IfOk-weaker}
use Rattle.qv_meter.specs.Views.{limits_of}
use Rattle.qv_store.proofs.Replacement.{grows-more}
use Rattle.qv_solve_offer.proofs.Staying.{shared-stays}
use Rattle.qv_shell_answer.specs.Checks.{formulas_in}
use Rattle.qv_shell_answer.proofs.Rechecked.{can-later, section-later, still-checked}
use Rattle.qv_shell_answer.proofs.checking.answer.Goals as goal

pub recheck-requires-clause-check : goal.recheck-requires-clause-check
recheck-requires-clause-check c = can-later c.args.store.now c.answer_once.new.store c.answer_once.ensures.grows c.args.script.now c.requires.check

pub recheck-requires-clause-section : goal.recheck-requires-clause-section
recheck-requires-clause-section c =
    section-later c.args.store.now c.answer_once.new.store c.answer_once.ensures.grows c.args.script.now c.requires.check
    c.args.number (limits_of c.args.limits) c.answer_once.new.meter c.in_ok-checked.checked c.in_ok-checked.ensures.checked

pub returns-then-rechecks-clause-checked : goal.returns-then-rechecks-clause-checked
returns-then-rechecks-clause-checked c =
    let held = c.args.script.now in
    IfOk-weaker c.recheck.result _ _
    (λ later same. still-checked c.args.number (limits_of c.args.limits) held.constants (formulas_in c.args.store.now held) c.answer_once.new.meter c.in_ok-checked.checked later same c.in_ok-checked.ensures.checked)
    c.recheck.ensures.same

pub returns-then-rechecks-clause-grows : goal.returns-then-rechecks-clause-grows
returns-then-rechecks-clause-grows c = grows-more c.args.store.now c.answer_once.new.store c.recheck.new.store c.answer_once.ensures.grows c.recheck.ensures.grows

pub returns-then-rechecks-clause-shared : goal.returns-then-rechecks-clause-shared
returns-then-rechecks-clause-shared c = shared-stays c.answer_once.new.store c.recheck.new.store c.answer_once.new.shared c.recheck.ensures.grows c.answer_once.ensures.shared
