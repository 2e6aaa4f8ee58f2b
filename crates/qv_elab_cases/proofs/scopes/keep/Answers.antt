use Rattle.std.proofs.Common.{◌≡◌, List, [], ◌∷◌, map, refl, ap, ◌∙◌}
use Rattle.qv_words.specs.declared.sort.Sort.{Sort}
use Rattle.qv_sexpr.proofs.Copies.{begun}
use Rattle.qv_elab.specs.declared.bodies.Parameter.{Parameter}
use Rattle.qv_elab.specs.ReadBodies.{parameters_of}
use Rattle.qv_elab_defs.specs.Defining.{definition}
use Rattle.qv_elab_scope.proofs.Growing.{scope-grows}
use Rattle.qv_elab.proofs.OwnReadings.{written}
use Rattle.qv_elab_scope.proofs.Defined.{definitions-are-kept}
use Rattle.qv_elab_cases.proofs.Keeping.{kept-defined}
use Rattle.qv_elab_cases.proofs.scopes.keep.Goals as goal

pub returns-in_err-body : goal.returns-in_err-body
returns-in_err-body c =
    let h = c.requires.kept in
    record { kept = (h.0, scope-grows c.args.store.now c.elaborate_body.new.store c.elaborate_body.ensures.grows c.args.scope.now h.0 h.1) }

pub returns : goal.returns
returns c =
    let a = c.args in
    let h = c.requires.kept in
    let ps = parameters_of a.parameters.now in
    let i = begun a.expr.now a.at c.requires.expr c.requires.at in
    let new = c.elaborate_body.new.store in
    let later = scope-grows a.store.now new c.elaborate_body.ensures.grows a.scope.now h.0 h.1 in
    let reading = c.in_ok-body.ensures.reads h.0 i.0 i.1 h.1 i.2 in
    let same = c.in_ok-sorts.ensures ∙ sorts_of_parameters a.parameters.now in
    record {
      kept = kept-defined new a.scope.now c.define.new.self (h.0, later) a.name.now c.in_ok-sorts.sorts c.in_ok-body.body c.define.result
          ((a.name.now, definition h.0 ps i.0) ∷ h.0, definitions-are-kept new a.scope.now h.0 a.name.now ps a.sort i.0 c.in_ok-sorts.sorts c.in_ok-body.body later c.requires.parameters (written _ _ a.at i.0 i.1 i.2) reading same)
          c.define.ensures.ok c.define.ensures.err;
    }
  where
    sorts_of_parameters : (xs : List Parameter) → ◌≡◌ {A = List Sort} (map (λ (p : Parameter). p.sort) xs) (map (λ x. x.1) (parameters_of xs))
    sorts_of_parameters [] = refl
    sorts_of_parameters (x ∷ xs) = ap (λ ss. x.sort ∷ ss) (sorts_of_parameters xs)
