use Rattle.std.proofs.Common.{◌≡◌, ℕ, List, get_or, Contains, sym, subst, ap, ◌∙◌, arith}
use Rattle.qv_cnf.specs.Literal.{negated}
use Rattle.qv_rup.specs.Indexing.{ids_in, list_for}
use Rattle.qv_rup.proofs.Indexed.{all-grouped, looked-all, one-ungrouped}
use Rattle.qv_rup.proofs.groups.are_all_grouped.Goals as goal

pub returns-then-not-has_group : goal.returns-then-not-has_group
returns-then-not-has_group c = λ groups are.
    let id = get_or c.ids-listed.result.now c.looking.id-index 0 in
    sym (one-ungrouped c.args.pivot groups c.args.clauses.now.live id (sym (c.has_group.ensures groups are) ∙ c.if-not-has_group.true))

pub returns : goal.returns
returns c = λ groups are.
    let lists = c.args.index.now.lists.items in
    let xs : c.ids-listed.result.now ≡ list_for (ids_in lists) (negated c.args.pivot) = c.ids-listed.ensures ∙ ap (list_for (ids_in lists)) c.negated.ensures in
    sym (all-grouped c.args.pivot groups lists c.args.clauses.now.live c.requires.index c.requires.rises
    (λ id there. looked-all c.args.clauses.now.live c.args.pivot groups c.ids-listed.result.now c.looking.id-index (omega arith) (c.looking.invariant groups are) id (subst (λ (ls : List ℕ). Contains ls id) (sym xs) there)))
