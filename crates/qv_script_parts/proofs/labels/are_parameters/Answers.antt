use Rattle.std.proofs.Common.{◌<◌, ℕ, List, sym, subst, arith}
use Rattle.qv_sexpr.specs.Script.{Trees as Writtens}
use Rattle.qv_sexpr.specs.declared.items.Item.{Item}
use Rattle.qv_sexpr.specs.Items.{StandAll}
use Rattle.qv_script_parts.proofs.Walks.{no-parameters, some-parameters}
use Rattle.qv_script_parts.proofs.labels.are_parameters.Goals as goal

pub returns-then-to-from : goal.returns-then-to-from
returns-then-to-from c = λ x s.
    let a = c.args in
    no-parameters a.expr.now.items.items a.expr.now.text.items a.from a.to x s (omega (arith, c.if-to-from.true))

pub are_pairs-requires : goal.are_pairs-requires
are_pairs-requires c =
    let a = c.args in
    subst (λ (its : List Item). (x : Writtens) × StandAll its c.deref.result.now a.from x a.to) (sym c.deref-2.ensures.value)
    (subst (λ (t : List ℕ). (x : Writtens) × StandAll a.expr.now.items.items t a.from x a.to) (sym c.deref.ensures.value) c.requires)

pub returns : goal.returns
returns c = λ x s.
    let a = c.args in
    let lt : a.from < a.to = omega (arith, c.if-to-from.false) in
    let there = subst (λ (its : List Item). StandAll its c.deref.result.now a.from x a.to) (sym c.deref-2.ensures.value)
    (subst (λ (t : List ℕ). StandAll a.expr.now.items.items t a.from x a.to) (sym c.deref.ensures.value) s) in
    some-parameters a.expr.now.items.items a.expr.now.text.items a.from a.to x s lt c.are_pairs.result (c.are_pairs.ensures x there)
