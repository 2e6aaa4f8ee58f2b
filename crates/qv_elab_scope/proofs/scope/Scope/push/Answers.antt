use Rattle.std.proofs.Common.{ap, ◌∙◌}
use Rattle.qv_elab_scope.specs.Force.{force_of, opened}
use Rattle.qv_elab_scope.proofs.Forcing.{force-opened}
use Rattle.qv_elab_scope.proofs.scope.Scope.push.Goals as goal

pub returns-clause-ok : goal.returns-clause-ok
returns-clause-ok c =
    ap (force_of c.self.inside.names c.self.inside.kept.items) c.in_ok-add_levels.ensures.ok
    ∙ force-opened c.self.inside.names c.self.inside.kept.items c.self.inside.levels.items c.args.count _ c.len.ensures
    ∙ ap (opened c.args.count) c.self.view_is
