use Rattle.std.proofs.Common.{◌<◌, ◌≤◌, ◌∙◌, take, drop}
use Rattle.std.proofs.lemmas.List.Elements.{recursion_from_All}
use Rattle.std.specs.List.{AllByRecursion}
use Rattle.qv_cnf.proofs.Living.{live_of-take, ids-take, cut_at-extended}
use Rattle.qv_cnf.proofs.clauses.ClauseList.cut.Goals as goal

pub returns-clause-cut : goal.returns-clause-cut
returns-clause-cut c =
    let before = c.self.inside in
    let id = c.args.id in
    let n = c.count_below-count.result in
    let front : AllByRecursion (λ other. other < id) (take n before.ids) = recursion_from_All (λ other. other < id) (take n before.ids) c.count_below-count.ensures.front in
    let rest : AllByRecursion (λ other. id ≤ other) (drop n before.ids) = recursion_from_All (λ other. id ≤ other) (drop n before.ids) c.count_below-count.ensures.rest in
    rw (
      ← c.self.view_is,
      c.truncate.ensures,
      c.truncate-2.ensures.items,
      c.truncate-3.ensures,
      live_of-take before.ids before.flags.items before.clauses n id front rest,
      ids-take before.ids n id front rest,
    )

pub returns-clause-back : goal.returns-clause-back
returns-clause-back c older o e = returns-clause-cut c ∙ cut_at-extended older c.args.self.now c.args.id o e
