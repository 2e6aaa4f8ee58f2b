use Rattle.std.proofs.Common.{ℕ, List, sym, subst, ◌∙◌}
use Rattle.std.specs.Prelude.{OnOk, OnErr}
use Rattle.qv_io.specs.Sink.{Appends}
use Rattle.qv_io.proofs.SinkLemmas.{Appends-nothing}
use Rattle.qv_cnf.specs.LratLine.{line_of}
use Rattle.qv_trim.specs.Sections.{AppendsFront}
use Rattle.qv_trim.proofs.Written.{kept-text, spared-text}
use Rattle.qv_trim.proofs.writing.write_kept.Goals as goal

pub returns-then-is_kept-clause-ok : goal.returns-then-is_kept-clause-ok
returns-then-is_kept-clause-ok g c =
    let held = g.O.Sink.held in
    let is = kept-text c.args.mark (line_of c.args.step.now) (sym c.is_kept.ensures ∙ c.if-is_kept.true) in
    subst (λ (bytes : List ℕ). OnOk c.write_step.result (Appends (held c.args.out.now) (held c.write_step.new.out) bytes)) (sym is) c.write_step.ensures.ok

pub returns-then-is_kept-clause-err : goal.returns-then-is_kept-clause-err
returns-then-is_kept-clause-err g c =
    let held = g.O.Sink.held in
    let is = kept-text c.args.mark (line_of c.args.step.now) (sym c.is_kept.ensures ∙ c.if-is_kept.true) in
    subst (λ (bytes : List ℕ). OnErr c.write_step.result (AppendsFront (held c.args.out.now) (held c.write_step.new.out) bytes)) (sym is) c.write_step.ensures.err

pub returns-else-is_kept-clause-ok : goal.returns-else-is_kept-clause-ok
returns-else-is_kept-clause-ok g c =
    let held = g.O.Sink.held in
    let none = spared-text c.args.mark (line_of c.args.step.now) (sym c.is_kept.ensures ∙ c.if-is_kept.false) in
    subst (λ (bytes : List ℕ). Appends (held c.args.out.now) (held c.args.out.now) bytes) (sym none) (Appends-nothing (held c.args.out.now))
