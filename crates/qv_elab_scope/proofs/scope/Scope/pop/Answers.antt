use Rattle.std.proofs.Common.{◌≡◌, ◌-◌, length, refl, sym, ap, ◌∙◌, rules, take}
use Rattle.std.specs.Prelude.{slice_get, Some}
use Rattle.std.proofs.lemmas.Option.{slice_get_read}
use Rattle.qv_elab_scope.specs.Force.{closed}
use Rattle.qv_elab_scope.proofs.Forcing.{force-closed, force-three}
use Rattle.qv_elab_scope.proofs.scope.Scope.pop.Goals as goal

pub returns : goal.returns
returns c =
    let levels = c.self.inside.levels.items in
    let count : c.len.result ≡ length levels = search rules in
    let found = c.in-Some.ensures.lookup in
    let at : slice_get levels (length levels - c.args.count) ≡ Some c.in-Some.level.now =
    ap (λ n. slice_get levels (n - c.args.count)) (sym count)
    ∙ ap (λ ls. slice_get ls (c.len.result - c.args.count)) (sym c.deref.ensures.value)
    ∙ slice_get_read c.deref.result.now (length c.deref.result.now) (c.len.result - c.args.count) c.in-Some.level.now refl found.3.0 found.1 in
    force-three c.truncate.new.self _ c.truncate-2.new.self.items _ c.truncate-3.new.self.items (take (length levels - c.args.count) levels) c.truncate.ensures c.truncate-2.ensures.items (c.truncate-3.ensures.items ∙ ap (λ n. take (n - c.args.count) levels) count)
    ∙ sym (force-closed c.self.inside.names c.self.inside.kept.items levels c.args.count c.in-Some.level.now at)
    ∙ ap (closed c.args.count) c.self.view_is
