use Rattle.std.proofs.Common.{Bool, subst}
use Rattle.std.proofs.lemmas.Result.{err_from_is_err_and}
use Rattle.qv_trim.proofs.Trims.{FrontGoes, fails-front, fails-steps, fails-end, trims-short, trims-whole, not-set, set-so}
use Rattle.qv_trim.proofs.trimming.trim_section.Goals as goal

pub returns-in_err-front-clause-err : goal.returns-in_err-front-clause-err
returns-in_err-front-clause-err g c =
    let held = g.O.Sink.held in
    let p = err_from_is_err_and c.from_residual.result c.from_residual.ensures.1 in
    rw p.1 (λ task answer texts rest trimmed b t. fails-front c.args.text.now (held c.args.out.now) (held c.write_front.new.out) task answer texts rest trimmed b t c.in_err-front.ensures.err)

pub returns-then-not-front-clause-ok : goal.returns-then-not-front-clause-ok
returns-then-not-front-clause-ok g c task answer texts rest b =
    trims-short c.args.text.now (g.O.Sink.held c.args.out.now) (g.O.Sink.held c.write_front.new.out) task answer texts rest c.in_ok-front.front.behind c.in_ok-front.front.proves b c.in_ok-front.ensures.ok (not-set c.in_ok-front.front.proves c.if-not-front.true)

pub returns-in_err-end-clause-err : goal.returns-in_err-end-clause-err
returns-in_err-end-clause-err g c =
    let held = g.O.Sink.held in
    let text = c.args.text.now in
    let front = c.in_ok-front.front in
    let goes = subst (λ (proves : Bool). FrontGoes text (held c.args.out.now) (held c.write_front.new.out) front.behind proves) (set-so c.in_ok-front.front.proves c.if-not-front.false) c.in_ok-front.ensures.ok in
    let p = err_from_is_err_and c.from_residual-in_err-end.result c.from_residual-in_err-end.ensures.1 in
    rw p.1 (λ task answer texts rest trimmed b t. fails-steps text (held c.args.out.now) (held c.write_front.new.out) front.behind goes task answer texts rest trimmed (held c.write_refutation.new.out) b t c.in_err-end.ensures.err)

pub returns-in_err-put_all-clause-err : goal.returns-in_err-put_all-clause-err
returns-in_err-put_all-clause-err g c =
    let held = g.O.Sink.held in
    let text = c.args.text.now in
    let front = c.in_ok-front.front in
    let goes = subst (λ (proves : Bool). FrontGoes text (held c.args.out.now) (held c.write_front.new.out) front.behind proves) (set-so c.in_ok-front.front.proves c.if-not-front.false) c.in_ok-front.ensures.ok in
    let p = err_from_is_err_and c.from_residual-in_err-put_all.result c.from_residual-in_err-put_all.ensures.1 in
    rw p.1
    (λ task answer texts rest trimmed b t. fails-end text (held c.args.out.now) (held c.write_front.new.out) front.behind goes task answer texts rest trimmed c.in_ok-end.end (held c.write_refutation.new.out) (held c.put_all.new.sink) b t
    c.in_ok-end.ensures.ok c.in_err-put_all.ensures.part)

pub returns-clause-ok : goal.returns-clause-ok
returns-clause-ok g c task answer texts rest b =
    let held = g.O.Sink.held in
    let text = c.args.text.now in
    let front = c.in_ok-front.front in
    let goes = subst (λ (proves : Bool). FrontGoes text (held c.args.out.now) (held c.write_front.new.out) front.behind proves) (set-so c.in_ok-front.front.proves c.if-not-front.false) c.in_ok-front.ensures.ok in
    trims-whole text (held c.args.out.now) (held c.write_front.new.out) front.behind goes task answer texts rest c.in_ok-end.end c.behind_line.result (held c.write_refutation.new.out) (held c.put_all.new.sink) b
    c.in_ok-end.ensures.ok c.in_ok-put_all.ensures.ok c.behind_line.ensures.behind
