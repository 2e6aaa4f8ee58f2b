use Rattle.std.proofs.Common.{ℕ, List, length, sym, ap, subst, ◌∙◌}
use Rattle.std.specs.Prelude.{IfOk}
use Rattle.qv_meter.specs.Views.{limits_of}
use Rattle.qv_meter.specs.Records.{records_of}
use Rattle.qv_shell_qdimacs.specs.Replies.{CanReply, IsReplyBy}
use Rattle.qv_shell_qdimacs.proofs.Answered.{err-tried, formula-assertion, formula-below, formula-sorts, solved-fits, solved-of, solved-replies, solved-tried}
use Rattle.qv_shell_qdimacs.proofs.answering.answer.Goals as goal

pub solve_one-solved-requires-clause-ids : goal.solve_one-solved-requires-clause-ids
solve_one-solved-requires-clause-ids c =
    formula-below c.args.places c.args.file.now.prefix.items c.args.file.now.clauses c.translate.new.store c.in_ok-translated.translated.formula c.in_ok-translated.ensures.formula

pub solve_one-solved-requires-clause-assertions : goal.solve_one-solved-requires-clause-assertions
solve_one-solved-requires-clause-assertions c =
    formula-assertion c.args.places c.args.file.now.prefix.items c.args.file.now.clauses c.translate.new.store c.in_ok-translated.translated.formula c.in_ok-translated.ensures.formula

pub solve_one-solved-requires-clause-sorts : goal.solve_one-solved-requires-clause-sorts
solve_one-solved-requires-clause-sorts c =
    formula-sorts c.args.places c.args.file.now.prefix.items c.args.file.now.clauses c.translate.new.store c.in_ok-translated.translated.formula c.in_ok-translated.ensures.formula

pub reply_by-requires : goal.reply_by-requires
reply_by-requires c =
    let e = c.solve_one-solved.ensures in
    let m = c.args.meter.now in
    let m' = c.solve_one-solved.new.meter in
    let r = c.solve_one-solved.result in
    let p = c.args.file.now.prefix.items in
    let q = c.args.file.now.clauses in
    let so = solved-of c.args.places p q c.translate.new.store c.in_ok-translated.translated.formula c.in_ok-translated.ensures.formula (limits_of c.args.limits) m m' r
    (record { section = e.section; form = e.form; truth = e.truth; constants = e.constants; recorded = e.record; settled = e.settled; within = e.within; over = e.over; memory = e.memory }) in
    subst (λ (n : ℕ). IfOk r (CanReply n)) (sym (ap length (c.deref.ensures.value ∙ c.in_ok-translated.ensures.outer)))
    (solved-fits c.args.places (limits_of c.args.limits) p q c.requires.once m m' r so)

pub returns-clause-reply : goal.returns-clause-reply
returns-clause-reply c =
    let e = c.solve_one-solved.ensures in
    let m = c.args.meter.now in
    let m' = c.solve_one-solved.new.meter in
    let r = c.solve_one-solved.result in
    let p = c.args.file.now.prefix.items in
    let q = c.args.file.now.clauses in
    let so = solved-of c.args.places p q c.translate.new.store c.in_ok-translated.translated.formula c.in_ok-translated.ensures.formula (limits_of c.args.limits) m m' r
    (record { section = e.section; form = e.form; truth = e.truth; constants = e.constants; recorded = e.record; settled = e.settled; within = e.within; over = e.over; memory = e.memory }) in
    solved-replies c.args.places (limits_of c.args.limits) p q c.requires.once m m' r so c.reply_by.result
    (subst (λ (outer : List ℕ). IfOk c.reply_by.result (IsReplyBy outer r)) (c.deref.ensures.value ∙ c.in_ok-translated.ensures.outer) c.reply_by.ensures)

pub returns-clause-tried : goal.returns-clause-tried
returns-clause-tried c =
    let e = c.solve_one-solved.ensures in
    let m = c.args.meter.now in
    let m' = c.solve_one-solved.new.meter in
    let r = c.solve_one-solved.result in
    let p = c.args.file.now.prefix.items in
    let q = c.args.file.now.clauses in
    let so = solved-of c.args.places p q c.translate.new.store c.in_ok-translated.translated.formula c.in_ok-translated.ensures.formula (limits_of c.args.limits) m m' r
    (record { section = e.section; form = e.form; truth = e.truth; constants = e.constants; recorded = e.record; settled = e.settled; within = e.within; over = e.over; memory = e.memory }) in
    solved-tried c.args.places (limits_of c.args.limits) p q c.requires.once m m' r so c.reply_by.result

pub returns-in_err-translated-clause-tried : goal.returns-in_err-translated-clause-tried
returns-in_err-translated-clause-tried c = err-tried (limits_of c.args.limits) (records_of c.args.meter.now) c.from_residual.result
