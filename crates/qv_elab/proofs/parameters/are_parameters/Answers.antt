use Rattle.std.proofs.Common.{◌+◌, ℕ, List, sym, subst, ◌∙◌, eq-eqb}
use Rattle.qv_sexpr.specs.declared.items.Item.{Item}
use Rattle.qv_sexpr.specs.Items.{StandAll}
use Rattle.qv_sexpr.proofs.Copies.{begun}
use Rattle.qv_elab.proofs.ReadParameters.{list-there, empty-listed, some-listed}
use Rattle.qv_elab.proofs.parameters.are_parameters.Goals as goal

pub are_pairs-requires : goal.are_pairs-requires
are_pairs-requires c =
    let a = c.args in
    let there = begun a.expr.now a.at c.requires.expr c.requires.at in
    let l = list-there a.expr.now a.at c.in-Open.close there.1 there.0 c.index.result.now there.2 c.requires.at c.index.ensures c.in-Open.is in (
      l.inside,
      subst (λ (its : List Item). StandAll its c.deref.result.now (a.at + 1) l.inside c.in-Open.close) (sym c.deref-else-from-close.ensures.value)
          (subst (λ (t : List ℕ). StandAll a.expr.now.items.items t (a.at + 1) l.inside c.in-Open.close) (sym c.deref.ensures.value) l.stand),
    )

pub returns-then-from-close : goal.returns-then-from-close
returns-then-from-close c = λ e to stands.
    let a = c.args in
    eq-eqb (a.at + 1) c.in-Open.close c.if-from-close.true ∙ sym (empty-listed a.expr.now a.at c.in-Open.close to e c.index.result.now stands c.requires.at c.index.ensures c.in-Open.is c.if-from-close.true)

pub returns-else-from-close : goal.returns-else-from-close
returns-else-from-close c = λ e to stands.
    let a = c.args in
    let l = list-there a.expr.now a.at c.in-Open.close to e c.index.result.now stands c.requires.at c.index.ensures c.in-Open.is in
    let stand =
    subst (λ (its : List Item). StandAll its c.deref.result.now (a.at + 1) l.inside c.in-Open.close) (sym c.deref-else-from-close.ensures.value)
    (subst (λ (t : List ℕ). StandAll a.expr.now.items.items t (a.at + 1) l.inside c.in-Open.close) (sym c.deref.ensures.value) l.stand) in
    c.are_pairs.ensures l.inside stand ∙ some-listed a.expr.now a.at c.in-Open.close to e c.index.result.now stands c.requires.at c.index.ensures c.in-Open.is c.if-from-close.false
