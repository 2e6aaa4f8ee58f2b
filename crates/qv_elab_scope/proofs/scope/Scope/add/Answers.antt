use Rattle.std.proofs.Common.{◌≡◌, ◌+◌, sym, ap, ◌∙◌, subst, arith, ◌++◌, ◌∷◌, []}
use Rattle.std.proofs.Math.Nat.{add-zero}
use Rattle.qv_elab_scope.specs.Force.{IsInForce, count_constant}
use Rattle.qv_elab_scope.proofs.Forcing.{few-constants, force-more}
use Rattle.qv_elab_scope.proofs.scope.Scope.add.Goals as goal
use Rattle.qv_elab_scope.proofs.scope.Scope.add.Goals.{in-Constant, in-Definition, in-Synonym}

pub overflow_add-constants : goal.overflow_add-constants
overflow_add-constants c =
    let few = few-constants c.self.inside.kept.items in
    omega (arith, few, c.self.invariant.counted, c.self.inside.kept.ok.0, c.self.inside.kept.small)

pub invariant_of-self-2 : goal.invariant_of-self-2
invariant_of-self-2 c =
    let more : c.match-kept.constants ≡ c.self.inside.constants + count_constant c.args.kept =
    elim c.match-kept.branch [
      | in-Constant w ↦ w.constants-is ∙ ap (λ k. c.self.inside.constants + count_constant k) (sym w.in-Constant.is)
      | in-Definition w ↦ w.constants-is ∙ sym (add-zero c.self.inside.constants) ∙ ap (λ k. c.self.inside.constants + count_constant k) (sym w.in-Definition.is)
      | in-Synonym w ↦ w.constants-is ∙ sym (add-zero c.self.inside.constants) ∙ ap (λ k. c.self.inside.constants + count_constant k) (sym w.in-Synonym.is)
    ] in
    subst (λ ks. IsInForce c.push.new.self ks c.match-kept.constants c.self.inside.levels.items) (sym (c.push_reserved.ensures.items ∙ ap (λ ks. ks ++ c.args.kept ∷ []) c.reserve.ensures.items))
    (subst (λ ns. IsInForce ns (c.self.inside.kept.items ++ c.args.kept ∷ []) c.match-kept.constants c.self.inside.levels.items) (sym c.in_ok-push.ensures.ok)
    (force-more c.self.inside.names c.args.name.now c.self.inside.kept.items c.args.kept c.self.inside.constants c.match-kept.constants c.self.inside.levels.items more c.self.invariant))
