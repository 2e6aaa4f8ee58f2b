use Rattle.std.proofs.Common.{◌≡◌, Bool, false, cond, Some, sym, ap, ◌∙◌}
use Rattle.qv_elab_defs.specs.Scopes.{found}
use Rattle.qv_script_defs.specs.declared.settings.Setting.TheVariants.{Foreign}
use Rattle.qv_script_defs.specs.Settings.{has_dot, settings}
use Rattle.qv_script_parts.proofs.settings.setting_named.Goals as goal

pub returns : goal.returns
returns c =
    let key = c.args.key.now in
    let dot : false ≡ has_dot key = sym c.if-has_dot.false ∙ c.has_dot.ensures in
    c.known.ensures ∙ ap (λ (b : Bool). cond b (Some Foreign) (found key settings)) dot
