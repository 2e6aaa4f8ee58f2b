use Rattle.std.proofs.Common.{◌≡◌, ◌-◌, List, take, length, ap, ◌∙◌, rules}
use Rattle.qv_elab_scope.specs.Force.{force_of, merged}
use Rattle.qv_elab_scope.specs.declared.scope.Level.{Level}
use Rattle.qv_elab_scope.proofs.Forcing.{force-merged}
use Rattle.qv_elab_scope.proofs.scope.Scope.merge.Goals as goal

pub returns : goal.returns
returns c =
    let i = c.self.inside in
    let count : c.len.result ≡ length i.levels.items = search rules in
    ap (λ (ls : List Level). force_of i.names i.kept.items ls) (c.truncate.ensures.items ∙ ap (λ n. take (n - c.args.count) i.levels.items) count)
    ∙ force-merged i.names i.kept.items i.levels.items c.args.count
    ∙ ap (merged c.args.count) c.self.view_is
