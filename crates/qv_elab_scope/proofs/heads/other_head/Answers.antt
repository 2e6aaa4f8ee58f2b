use Rattle.std.proofs.Common.{◌≡◌, true, refl, sym, ap, subst, ◌∙◌}
use Rattle.std.specs.Prelude.{Bool, codes, cond}
use Rattle.std.specs.Str.{bytes_eq}
use Rattle.qv_elab_defs.specs.declared.faults.ElabKind.TheVariants.{UnknownName}
use Rattle.qv_elab_defs.specs.Faults.{refuse}
use Rattle.qv_elab_defs.specs.Heads.{Distinct, bare}
use Rattle.qv_elab_scope.specs.Headed.{IsTold, named}
use Rattle.qv_elab_scope.proofs.heads.other_head.Goals as goal

pub returns-then-eq : goal.returns-then-eq
returns-then-eq c = λ ns defs at e.
    let h = named c.args.head_place c.args.place c.args.name.now ns in
    let is : bytes_eq c.args.name.now (codes "distinct") ≡ true = sym (ap (λ l. bytes_eq c.args.name.now l) c.as_slice.ensures) ∙ sym c.eq.ensures ∙ c.if-eq.true in
    subst (λ (b : Bool). IsTold defs at (cond b (bare h Distinct ns) (refuse c.args.place UnknownName)) c.bare.result) (sym is)
    (c.bare.ensures ns h Distinct defs at e refl (λ _. refl))
