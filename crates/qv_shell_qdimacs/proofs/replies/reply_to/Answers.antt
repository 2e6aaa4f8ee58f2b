use Rattle.std.proofs.Common.{◌≡◌, List, ℕ, refl, subst}
use Rattle.std.proofs.lemmas.Result.{err_from_is_err_and}
use Rattle.qv_meter.specs.Views.{limits_of}
use Rattle.qv_meter.specs.Records.{records_of}
use Rattle.qv_qdimacs.specs.Text.{File, Faulty}
use Rattle.qv_shell_qdimacs.specs.Texts.{fault_word}
use Rattle.qv_shell_qdimacs.specs.Replies.{IsFaultReply}
use Rattle.qv_shell_qdimacs.proofs.Answered.{none-tried, reply-faulty}
use Rattle.qv_shell_qdimacs.proofs.Written.{limit-as}
use Rattle.qv_shell_qdimacs.proofs.replies.reply_to.Goals as goal

pub returns-in_ok-answer-in-Ok-clause-reply : goal.returns-in_ok-answer-in-Ok-clause-reply
returns-in_ok-answer-in-Ok-clause-reply g c = (File c.in-Ok.file.prefix.items c.in-Ok.file.clauses, c.in-Ok.ensures.read, c.in_ok-answer-in-Ok.ensures.reply)

pub returns-in_err-answer-in-Ok-clause-halted : goal.returns-in_err-answer-in-Ok-clause-halted
returns-in_err-answer-in-Ok-clause-halted g c =
    let p = err_from_is_err_and c.from_residual.result c.from_residual.ensures.1 in
    rw (p.1, p.2) c.in_err-answer-in-Ok.ensures.tried

pub returns-in_ok-faulty-in-Err-At-clause-reply : goal.returns-in_ok-faulty-in-Err-At-clause-reply
returns-in_ok-faulty-in-Err-At-clause-reply g c =
    let place = c.in-Err-At.place in
    let kind = c.in-Err-At.kind in
    let reply = c.in_ok-faulty-in-Err-At.field-0 in
    let says = rw c.in-Err-At.field-0-is at c.in-Err-At.ensures.fault in
    let own : IsFaultReply place c.fault_word.result.now reply = rw c.in-Err-At.field-0-is at c.in_ok-faulty-in-Err-At.ensures in
    let named : c.fault_word.result.now ≡ fault_word kind = rw c.in-Err-At.field-0-is at c.fault_word.ensures in
    let is = subst (λ (w : List ℕ). IsFaultReply place w reply) named own in
    (Faulty place kind, says, reply-faulty c.args.places (limits_of c.args.limits) (records_of c.args.meter.now) reply place kind is)

pub returns-in_err-faulty-in-Err-At-clause-halted : goal.returns-in_err-faulty-in-Err-At-clause-halted
returns-in_err-faulty-in-Err-At-clause-halted g c =
    let p = err_from_is_err_and c.from_residual-in_err-faulty-in-Err-At.result c.from_residual-in_err-faulty-in-Err-At.ensures.1 in
    rw (p.1, p.2) (none-tried (limits_of c.args.limits) (records_of c.args.meter.now))

pub returns-in-Err-ReadFault-clause-halted : goal.returns-in-Err-ReadFault-clause-halted
returns-in-Err-ReadFault-clause-halted g c =
    let fails = rw c.in-Err-ReadFault.field-0-is at c.in-Err-ReadFault.ensures.fault in
    (fails.0, fails.1, refl)

pub returns-in-Err-ReadLimit-clause-halted : goal.returns-in-Err-ReadLimit-clause-halted
returns-in-Err-ReadLimit-clause-halted g c =
    let meets = rw c.in-Err-ReadLimit.field-0-is at c.in-Err-ReadLimit.ensures.fault in
    (limit-as g.S.Source.read_gives g.S.Source.left c.args.source.now c.read_qdimacs.new.source meets, refl)

pub returns-in-Err-NoMemory-clause-halted : goal.returns-in-Err-NoMemory-clause-halted
returns-in-Err-NoMemory-clause-halted g c = none-tried (limits_of c.args.limits) (records_of c.args.meter.now)
