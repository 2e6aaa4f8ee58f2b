use Rattle.std.proofs.Common.{◌≡◌, ◌++◌, ℕ, List, sym, subst}
use Rattle.qv_script_defs.specs.Moves.{Check}
use Rattle.qv_script_stack.specs.Held.{AreAt}
use Rattle.qv_check_script.proofs.Leading.{check-of, is-silent, stepped-as}
use Rattle.qv_check_clauses.proofs.commands.check_of.Goals as goal

pub returns-in_ok-extend_from_slice-in-Check : goal.returns-in_ok-extend_from_slice-in-Check
returns-in_ok-extend_from_slice-in-Check c s e now done h is =
    let course = c.args.course.now in
    let ids : c.extend_from_slice.new.self.items ≡ course.script.assertions ++ course.script.assumed = cc (c.in_ok-extend_from_slice-in-Check.ensures.items, c.in_ok-formulas-in-Check.ensures.items, c.assertions.ensures, c.assumptions.ensures) in
    let k = check-of course.store course.script c.args.effect.now done c.in-Check.is is in
    (now, k.0, stepped-as course s e now done (Check k.0) k.1 h, subst (λ (ns : List ℕ). AreAt course.store ns k.0) (sym ids) k.2)

pub returns-in_default : goal.returns-in_default
returns-in_default c s e now done h is =
    (now, done, h, is-silent c.args.course.now.store c.args.course.now.script c.args.effect.now done c.in_default.not-Check c.in_default.not-CheckAssuming c.in_default.not-Exit is)
