use Rattle.std.proofs.Common.{◌++◌, ◌∷◌, [], ℕ, List, ap, subst, ◌∙◌}
use Rattle.std.specs.Prelude.{Result}
use Rattle.std.proofs.lemmas.Result.{err_from_is_err_and}
use Rattle.qv_elab_defs.specs.declared.faults.ElabFault.{ElabFault}
use Rattle.qv_elab_macros.specs.declared.standing.Watched.{Watched}
use Rattle.qv_elab_defs.specs.Answers.{Answers}
use Rattle.qv_elab_scope.specs.Ids.{applied_at}
use Rattle.qv_elab_scope.proofs.Seeing.{applied-seen, applied-out}
use Rattle.qv_elab_scope.proofs.headed.apply_watched.Goals as goal

pub returns-in_err-id-clause-sees : goal.returns-in_err-id-clause-sees
returns-in_err-id-clause-sees c = λ defs meant ts looks k before.
    let a = c.args in
    let q = err_from_is_err_and c.from_residual-in_err-id.result c.from_residual-in_err-id.ensures.1 in
    applied-out a.store.now a.scope.now a.expr.now a.binders a.head a.head_at a.args.now defs meant ts k a.place a.watched.now.items looks before c.apply_head.new.store c.apply_head.result c.in_err-id.field-0.0 q.0 c.from_residual-in_err-id.result (c.apply_head.ensures.answers defs meant ts k) c.in_err-id.was q.1 q.2 c.watch_use.new.watched.items

pub returns-clause-sees : goal.returns-clause-sees
returns-clause-sees c = λ defs meant ts looks k before.
    let a = c.args in
    let own : Watched = record { id = c.in_ok-id.id; depth = 0 } in
    let answer = subst (λ (r : Result ℕ ElabFault). Answers c.apply_head.new.store (applied_at a.place a.binders meant ts) r) c.in_ok-id.was (c.apply_head.ensures.answers defs meant ts k) in
    let all = c.push_reserved.ensures.items ∙ ap (λ (ws : List Watched). ws ++ own ∷ []) (c.reserve.ensures.items ∙ c.in_ok-watch_use.ensures) in
    applied-seen a.store.now a.scope.now a.expr.now a.binders a.head a.head_at a.args.now defs meant ts k a.place a.watched.now.items looks before c.apply_head.new.store c.apply_head.ensures.grows c.in_ok-id.id answer c.push_reserved.new.self.items all
