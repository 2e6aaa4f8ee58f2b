use Rattle.std.proofs.Common.{◌≡◌, ℕ, true, false, length, sym, ap, subst, ◌∙◌}
use Rattle.qv_script_defs.specs.Moves.{Move}
use Rattle.qv_script_defs.specs.Commands.{step}
use Rattle.qv_script_parts.specs.Meant.{meant}
use Rattle.qv_script_stack.specs.Steps.{Gives}
use Rattle.qv_script_stack.proofs.Holding.{levels-held}
use Rattle.qv_script_stack.proofs.Stepping.{parts-count, settled-gives, settled-runs, runs-out}
use Rattle.qv_script.specs.Beginnings.{has_terms, mentions_named, outset}
use Rattle.qv_script.proofs.Unlabelled.{none-named, some-named, parts-mention, unlabelled}
use Rattle.qv_script.proofs.Outsets.{plain-is, plain-runs, named-begin, unnamed-runs, unlabelled-is}
use Rattle.qv_script.proofs.step.run_command.Goals as goal

pub run_plain-requires-clause-starts : goal.run_plain-requires-clause-starts
run_plain-requires-clause-starts c =
    let s = c.requires.held in
    let l = levels-held c.args.store.now c.args.stack.now s.0 s.1 in
    l.0 ∙ sym l.1

pub returns-then-not-has_terms-clause-step : goal.returns-then-not-has_terms-clause-step
returns-then-not-has_terms-clause-step c = λ s es h parts.
    let a = c.args in
    let plain : has_terms (meant a.command) (length es) ≡ false = ap (λ (n : ℕ). has_terms (meant a.command) n) (sym (parts-count a.expr.now a.args.now es parts)) ∙ sym c.has_terms.ensures ∙ c.if-not-has_terms.true in
    subst (λ (m : Move). Gives a.store.now c.run_plain.new.stack m c.run_plain.result) (sym (plain-is a.place s a.command es plain))
    (settled-gives a.store.now c.run_plain.new.stack (step (meant a.command) a.place es s) c.run_plain.result (c.run_plain.ensures.step a.store.now s es h parts))

pub returns-then-not-has_terms-clause-short : goal.returns-then-not-has_terms-clause-short
returns-then-not-has_terms-clause-short c = λ s e es h k parts.
    let a = c.args in
    let plain : has_terms (meant a.command) (length es) ≡ false = ap (λ (n : ℕ). has_terms (meant a.command) n) (sym (parts-count a.expr.now a.args.now es parts)) ∙ sym c.has_terms.ensures ∙ c.if-not-has_terms.true in
    plain-runs a.place s (mentions_named e) a.command es c.run_plain.result plain
    (settled-runs a.store.now c.run_plain.new.stack (step (meant a.command) a.place es s) c.run_plain.result (c.run_plain.ensures.step a.store.now s es h parts))

pub returns-then-has_named-clause-short : goal.returns-then-has_named-clause-short
returns-then-has_named-clause-short c = λ s e es h k parts.
    let a = c.args in
    let terms : has_terms (meant a.command) (length es) ≡ true = ap (λ (n : ℕ). has_terms (meant a.command) n) (sym (parts-count a.expr.now a.args.now es parts)) ∙ sym c.has_terms.ensures ∙ c.if-not-has_terms.false in
    let named = some-named a.expr.now (sym c.has_named.ensures ∙ c.if-has_named.true) e k in
    runs-out (outset (mentions_named e) (meant a.command) a.place es s) tt c.run_labelled.result (named-begin a.place s (mentions_named e) a.command es terms named)

pub returns-clause-step : goal.returns-clause-step
returns-clause-step c = λ s es h parts.
    let a = c.args in
    let none = unlabelled (meant a.command) es (parts-mention a.expr.now (sym c.has_named.ensures ∙ c.if-has_named.false) a.args.now es parts) in
    subst (λ (m : Move). Gives c.run_terms.new.store c.run_terms.new.stack m c.run_terms.result) (sym (unlabelled-is a.place s a.command es none)) (c.run_terms.ensures.step s es h parts)

pub returns-clause-short : goal.returns-clause-short
returns-clause-short c = λ s e es h k parts.
    let a = c.args in
    let terms : has_terms (meant a.command) (length es) ≡ true = ap (λ (n : ℕ). has_terms (meant a.command) n) (sym (parts-count a.expr.now a.args.now es parts)) ∙ sym c.has_terms.ensures ∙ c.if-not-has_terms.false in
    let none = none-named a.expr.now (sym c.has_named.ensures ∙ c.if-has_named.false) 0 e (length a.expr.now.items.items, k) in
    unnamed-runs a.place s (mentions_named e) a.command es c.run_terms.result terms none (c.run_terms.ensures.short s es h parts)
