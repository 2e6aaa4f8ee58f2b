use Rattle.std.proofs.Common.{arith, ◌≡◌, ◌≢◌, true, false, get_or, sym, ◌∙◌}
use Rattle.std.specs.List.{AllByRecursion}
use Rattle.std.proofs.lemmas.List.{get_or_default}
use Rattle.std.proofs.lemmas.List.Elements.{recursion_from_All}
use Rattle.qv_cnf.proofs.Living.{clause_named-at, clause_named-none}
use Rattle.qv_cnf.proofs.clauses.ClauseList.get.Goals as goal

pub returns-in_err-at : goal.returns-in_err-at
returns-in_err-at c =
    let before = c.self.inside in
    let none : AllByRecursion (λ other. other ≢ c.args.id) before.ids = recursion_from_All (λ other. other ≢ c.args.id) before.ids c.in_err-at.ensures.none in
    rw (c.from_residual.ensures, ← c.self.view_is, clause_named-none before.ids before.flags.items before.clauses c.args.id none)

pub returns-then-index : goal.returns-then-index
returns-then-index c =
    let before = c.self.inside in
    let at = c.in_ok-at.at in
    let flag : get_or before.flags.items at false ≡ true =
    get_or_default before.flags.items at false c.index.result.now (omega (arith, c.in_ok-at.ensures.within)) ∙ sym c.index.ensures ∙ c.if-index.true in
    rw (← c.self.view_is, clause_named-at 0 before.ids before.flags.items before.clauses at c.args.id c.in_ok-at.ensures.rises c.self.invariant.0 c.self.invariant.1 c.in_ok-at.ensures.some, flag)
    (sym c.get.ensures)

pub returns-else-index : goal.returns-else-index
returns-else-index c =
    let before = c.self.inside in
    let at = c.in_ok-at.at in
    let flag : get_or before.flags.items at false ≡ false =
    get_or_default before.flags.items at false c.index.result.now (omega (arith, c.in_ok-at.ensures.within)) ∙ sym c.index.ensures ∙ c.if-index.false in
    rw (← c.self.view_is, clause_named-at 0 before.ids before.flags.items before.clauses at c.args.id c.in_ok-at.ensures.rises c.self.invariant.0 c.self.invariant.1 c.in_ok-at.ensures.some, flag)
