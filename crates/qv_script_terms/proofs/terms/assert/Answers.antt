use Rattle.std.proofs.Common.{ℕ, Option, List, sym, ap, subst, ◌∙◌}
use Rattle.std.specs.Prelude.{option_map}
use Rattle.qv_sexpr.specs.Script.{Tree as Written}
use Rattle.qv_sexpr.proofs.Copies.{begun}
use Rattle.qv_script_defs.specs.Parts.{Asserted, asserted_of}
use Rattle.qv_script_parts.specs.Parted.{IsAsserted}
use Rattle.qv_script_defs.specs.Moves.{Move, assert}
use Rattle.qv_script_defs.specs.Commands.{Assert, step}
use Rattle.qv_script_stack.specs.Steps.{Gives, RunsOut}
use Rattle.qv_script_terms.specs.Beginnings.{assert_beginning, command_beginning}
use Rattle.qv_script_stack.proofs.Stepping.{one-part}
use Rattle.qv_script_parts.proofs.Attributes.{stands-begins}
use Rattle.qv_script_terms.proofs.terms.assert.Goals as goal

pub assert_named-requires-clause-term : goal.assert_named-requires-clause-term
assert_named-requires-clause-term c =
    let a = c.args in
    let b = begun a.expr.now a.t c.requires.expr c.requires.t in
    let d = subst (λ o. IsAsserted a.expr.now.items.items a.expr.now.text.items b.0 (asserted_of b.0) (option_map (λ x. (x.0, x.1.now)) o)) c.in-Some.is (c.asserted_at.ensures b.0 (b.1, b.2)) in
    stands-begins a.expr.now c.in-Some.term (asserted_of b.0).term d.1.0 d.1.1

pub returns-in-Some-clause-step : goal.returns-in-Some-clause-step
returns-in-Some-clause-step c = λ s es h parts.
    let a = c.args in
    let one = one-part a.expr.now a.t es parts in
    let d = subst (λ o. IsAsserted a.expr.now.items.items a.expr.now.text.items one.0 (asserted_of one.0) (option_map (λ x. (x.0, x.1.now)) o)) c.in-Some.is (c.asserted_at.ensures one.0 one.2) in
    let given = ap (λ xs. step Assert a.place xs s) one.1 ∙ ap (λ n. assert a.place s one.0 n (asserted_of one.0).term) d.0 in
    subst (λ (m : Move). Gives c.assert_named.new.store c.assert_named.new.stack m c.assert_named.result) (sym given)
    (c.assert_named.ensures.step s one.0 (asserted_of one.0).term h one.2 d.1)

pub returns-in-None-clause-step : goal.returns-in-None-clause-step
returns-in-None-clause-step c = λ s es h parts.
    let a = c.args in
    let one = one-part a.expr.now a.t es parts in
    let d = subst (λ o. IsAsserted a.expr.now.items.items a.expr.now.text.items one.0 (asserted_of one.0) (option_map (λ x. (x.0, x.1.now)) o)) c.in-None.is (c.asserted_at.ensures one.0 one.2) in
    let given = ap (λ xs. step Assert a.place xs s) one.1 ∙ ap (λ (z : Asserted). assert a.place s one.0 z.name z.term) d in
    subst (λ (m : Move). Gives c.assert_plain.new.store c.assert_plain.new.stack m c.assert_plain.result) (sym given)
    (c.assert_plain.ensures.step a.place s one.0 h one.2)

pub returns-in-Some-clause-short : goal.returns-in-Some-clause-short
returns-in-Some-clause-short c = λ s es h parts.
    let a = c.args in
    let one = one-part a.expr.now a.t es parts in
    let d = subst (λ o. IsAsserted a.expr.now.items.items a.expr.now.text.items one.0 (asserted_of one.0) (option_map (λ x. (x.0, x.1.now)) o)) c.in-Some.is (c.asserted_at.ensures one.0 one.2) in
    subst (λ (xs : List Written). RunsOut (command_beginning Assert a.place xs s) c.assert_named.result) (sym one.1)
    (subst (λ (n : Option (List ℕ)). RunsOut (assert_beginning a.place s n (asserted_of one.0).term) c.assert_named.result) (sym d.0)
    (c.assert_named.ensures.short s one.0 (asserted_of one.0).term h one.2 d.1))

pub returns-in-None-clause-short : goal.returns-in-None-clause-short
returns-in-None-clause-short c = λ s es h parts.
    let a = c.args in
    let one = one-part a.expr.now a.t es parts in
    let d = subst (λ o. IsAsserted a.expr.now.items.items a.expr.now.text.items one.0 (asserted_of one.0) (option_map (λ x. (x.0, x.1.now)) o)) c.in-None.is (c.asserted_at.ensures one.0 one.2) in
    subst (λ (xs : List Written). RunsOut (command_beginning Assert a.place xs s) c.assert_plain.result) (sym one.1)
    (subst (λ (z : Asserted). RunsOut (assert_beginning a.place s z.name z.term) c.assert_plain.result) (sym d) (c.assert_plain.ensures.short s one.0 h one.2))
