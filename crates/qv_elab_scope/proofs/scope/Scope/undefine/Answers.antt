use Rattle.std.proofs.Common.{◌≡◌, ◌≤◌, ◌-◌, ℕ, List, length, take, drop, refl, sym, ap, subst, ◌∙◌}
use Rattle.std.specs.List.{AllByRecursion}
use Rattle.qv_elab_scope.specs.Force.{Force, constants_in, shortened, IsInForce}
use Rattle.qv_elab_scope.specs.declared.scope.Kept.{Kept}
use Rattle.qv_elab_scope.proofs.Forcing.{force-three, force-less}
use Rattle.qv_elab_scope.proofs.scope.Scope.undefine.Goals as goal

pub invariant_of-self : goal.invariant_of-self
invariant_of-self c =
    let i = c.self.inside in
    let n = c.args.left in
    subst (λ (ns : List (List ℕ)). IsInForce ns c.truncate-2.new.self.items i.constants i.levels.items) (sym c.truncate.ensures)
    (subst (λ (ks : List Kept). IsInForce (drop (length i.names - n) i.names) ks i.constants i.levels.items) (sym c.truncate-2.ensures.items)
    (force-less i.names i.kept.items i.constants n i.levels.items
    (subst (λ (f : Force). n ≤ length f.kept) (sym c.self.view_is) c.requires.left)
    (subst (λ (f : Force). constants_in (take n f.kept) ≡ constants_in f.kept) (sym c.self.view_is) c.requires.constants)
    (subst (λ (f : Force). AllByRecursion (λ k. k ≤ n) f.starts) (sym c.self.view_is) c.requires.levels)
    c.self.invariant))

pub returns : goal.returns
returns c =
    let levels = c.self.inside.levels.items in
    force-three c.truncate.new.self _ c.truncate-2.new.self.items _ levels levels c.truncate.ensures c.truncate-2.ensures.items refl
    ∙ ap (shortened c.args.left) c.self.view_is
