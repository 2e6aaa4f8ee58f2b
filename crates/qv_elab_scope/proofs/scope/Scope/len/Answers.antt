use Rattle.std.proofs.Common.{◌≤◌, subst, arith}
use Rattle.std.specs.List.{AllByRecursion}
use Rattle.qv_elab_scope.specs.Force.{Force}
use Rattle.qv_elab_scope.proofs.Forcing.{starts-within}
use Rattle.qv_elab_scope.proofs.scope.Scope.len.Goals as goal

pub returns-clause-levels : goal.returns-clause-levels
returns-clause-levels c =
    let i = c.self.inside in
    subst (λ (f : Force). AllByRecursion (λ n. n ≤ c.len.result) f.starts) c.self.view_is
    (starts-within i.levels.items c.len.result (λ k l at. let few = c.self.invariant.level_names k l at in omega (arith, few, c.self.invariant.count, c.len.ensures)))
