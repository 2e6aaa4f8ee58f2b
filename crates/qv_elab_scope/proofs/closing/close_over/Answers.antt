use Rattle.std.proofs.Common.{◌≡◌, ◌+◌, ◌-◌, [], length, sym, subst, arith}
use Rattle.std.proofs.lemmas.List.{append-nil}
use Rattle.qv_words.specs.Sorted.{IsSorted}
use Rattle.qv_store.specs.Nodes.{tree_at}
use Rattle.qv_store.specs.Stores.{StandsAt}
use Rattle.qv_store.proofs.Replacement.{grows-more}
use Rattle.qv_elab_defs.specs.Elaborating.{quantified}
use Rattle.qv_elab_scope.specs.Variables.{quantifier_of}
use Rattle.qv_elab_scope.proofs.ClosedOver.{variable-below, quantified-sorted, closed-next, closed-none, closed-all, closed-deep}
use Rattle.qv_elab_scope.proofs.closing.close_over.Goals as goal

pub returns-then-saturating_add-gt-DEPTH_LIMIT-clause-answers : goal.returns-then-saturating_add-gt-DEPTH_LIMIT-clause-answers
returns-then-saturating_add-gt-DEPTH_LIMIT-clause-answers c = λ xs h.
    let a = c.args in
    closed-deep a.store.now (a.binders - (length a.bound.now - a.from)) a.body a.bound.now a.from xs h a.is_universal a.place (omega (arith, c.saturating_add.ensures, c.depth.ensures.depth, c.len.ensures))

pub variables-init : goal.variables-init
variables-init c =
    let a = c.args in
    record {
      grows = record { more = []; behind = sym (append-nil a.store.now) };
      within = omega (arith, c.len-at.ensures);
      from = omega (arith, c.len-at.ensures, c.requires.from);
      stands = λ xs h. closed-none a.store.now (a.binders - (length a.bound.now - a.from)) a.body a.bound.now a.from xs h a.is_universal c.len-at.result c.len-at.ensures c.requires.body;
    }

pub sort-sort-requires : goal.sort-sort-requires
sort-sort-requires c =
    let a = c.args in
    let i = c.variables.invariant in
    let xs = c.requires.closing in
    variable-below a.store.now (a.binders - (length a.bound.now - a.from)) a.body a.bound.now a.from xs.0 xs.1 c.variables.store i.grows a.is_universal c.variables.id c.variables.at (c.at-variable.result.0.now, c.at-variable.result.1) c.variables-test.true i.within c.at-variable.ensures (i.stands xs.0 xs.1)

pub put_quantifier-requires-clause-body : goal.put_quantifier-requires-clause-body
put_quantifier-requires-clause-body c =
    let xs = c.requires.closing in
    (c.variables.invariant.stands xs.0 xs.1).below

pub overflow_sub-level : goal.overflow_sub-level
overflow_sub-level c = omega (arith, c.requires.binders, c.requires.from, c.variables.invariant.from, c.variables.invariant.within, c.variables-test.true, c.len-in-variables.ensures)

pub put_quantifier-requires-clause-sorted : goal.put_quantifier-requires-clause-sorted
put_quantifier-requires-clause-sorted c =
    let a = c.args in
    let i = c.variables.invariant in
    let xs = c.requires.closing in
    let level : a.binders - (length a.bound.now - a.from) + (c.variables.at - 1 - a.from) ≡ a.binders - (c.len-in-variables.result - (c.variables.at - 1)) = omega (arith, c.requires.binders, i.within, c.variables-test.true, c.len-in-variables.ensures) in
    subst (λ l. IsSorted (quantified (quantifier_of a.is_universal) l c.sort-sort.result (tree_at c.variables.store c.variables.id))) level
    (quantified-sorted a.store.now (a.binders - (length a.bound.now - a.from)) a.body a.bound.now a.from xs.0 xs.1 c.variables.store i.grows a.is_universal c.variables.id c.variables.at (c.at-variable.result.0.now, c.at-variable.result.1) c.variables-test.true i.within c.at-variable.ensures (i.stands xs.0 xs.1) c.sort-sort.result c.sort-sort.ensures.sort)

pub variables-preserved : goal.variables-preserved
variables-preserved c =
    let a = c.args in
    let i = c.variables.invariant in
    let level : a.binders - (c.len-in-variables.result - (c.variables.at - 1)) ≡ a.binders - (length a.bound.now - a.from) + (c.variables.at - 1 - a.from) = omega (arith, c.requires.binders, i.within, c.variables-test.true, c.len-in-variables.ensures) in
    let put = subst (λ l. StandsAt c.put_quantifier.new.store c.in_ok-id.id (quantified (quantifier_of a.is_universal) l c.sort-sort.result (tree_at c.variables.store c.variables.id))) level c.in_ok-id.ensures.id in
    record {
      grows = grows-more a.store.now c.variables.store c.put_quantifier.new.store i.grows c.put_quantifier.ensures.grows;
      within = omega (arith, i.within);
      from = omega (arith, c.variables-test.true);
      stands = λ xs h. closed-next a.store.now (a.binders - (length a.bound.now - a.from)) a.body a.bound.now a.from xs h c.variables.store i.grows a.is_universal c.variables.id c.variables.at (c.at-variable.result.0.now, c.at-variable.result.1) c.variables-test.true i.within c.at-variable.ensures (i.stands xs h) c.sort-sort.result c.sort-sort.ensures.sort c.put_quantifier.new.store c.in_ok-id.id put;
    }

pub returns-clause-answers : goal.returns-clause-answers
returns-clause-answers c = λ xs h.
    let a = c.args in
    closed-all a.store.now (a.binders - (length a.bound.now - a.from)) a.body a.bound.now a.from xs h c.variables.store a.is_universal a.place c.variables.id c.variables.at c.variables-test.false (omega (arith, c.if-saturating_add-gt-DEPTH_LIMIT.false, c.saturating_add.ensures, c.depth.ensures.depth, c.len.ensures)) (c.variables.invariant.stands xs h)
