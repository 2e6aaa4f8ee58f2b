use Rattle.std.proofs.Common.{◌≡◌, ◌≤◌, true, rules, refl, ap, ◌∙◌, arith}
use Rattle.qv_cnf.specs.Listing.{next_id}
use Rattle.qv_cnf.specs.Refutation.{Standing, with_original}
use Rattle.qv_rup.proofs.Given.{ids_of, with_original-standing_at}
use Rattle.qv_rup.proofs.checker.Checker.original.Goals as goal

pub returns-clause-ok : goal.returns-clause-ok
returns-clause-ok c = rw (← c.self.view_is, c.in_ok-keep.ensures.ok) refl

pub returns-clause-standing : goal.returns-clause-standing
returns-clause-standing c clauses e =
    let yes : c.may_add.result ≡ true = search rules in
    let above : c.self.inside.clauses.next ≤ c.args.id = c.may_add.ensures.may.0 yes in
    let next : c.self.inside.clauses.next ≡ next_id (ids_of clauses) = ap (λ (s : Standing). s.next) (c.self.view_is ∙ e) in
    returns-clause-ok c ∙ ap (λ (s : Standing). with_original s c.args.id c.args.lits.now) e
    ∙ with_original-standing_at clauses c.args.id c.args.lits.now (omega arith)
