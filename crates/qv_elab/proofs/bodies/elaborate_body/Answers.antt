use Rattle.std.proofs.Common.{◌≡◌, List, length, sym, ap, subst, ◌∙◌}
use Rattle.std.specs.Prelude.{is_ok}
use Rattle.std.proofs.lemmas.List.{length-map}
use Rattle.qv_store.proofs.Replacement.{grows-more}
use Rattle.qv_elab.specs.declared.bodies.Parameter.{Parameter}
use Rattle.qv_elab.specs.ReadBodies.{parameters_of}
use Rattle.qv_elab_frames.specs.Loop.{state_of, begun}
use Rattle.qv_elab.specs.Begun.{IsBegun}
use Rattle.qv_elab_defs.specs.Scopes.{below_binders, outermost}
use Rattle.qv_elab_defs.specs.Beginnings.{Begins, beginning}
use Rattle.qv_elab_scope.proofs.Growing.{scope-grows}
use Rattle.qv_elab.proofs.bodies.elaborate_body.Goals as goal

pub read_body-requires-clause-scope : goal.read_body-requires-clause-scope
read_body-requires-clause-scope c =
    let s = c.requires.scope in
    (s.0, scope-grows c.args.store.now c.parameter_names.new.store c.parameter_names.ensures.grows c.args.scope.now s.0 s.1)

pub returns-clause-reads : goal.returns-clause-reads
returns-clause-reads c = λ defs e to s stands.
    let a = c.args in
    let ps = a.parameters.now in
    let many : length (parameters_of ps) ≡ length ps = length-map ps (λ (p : Parameter). (p.name.items, p.sort)) in
    let ready : IsBegun c.parameter_names.new.store (parameters_of ps) (state_of c.below-elaborator.result) = record {
      names = c.in_ok-names.names;
      state = c.below-elaborator.ensures ∙ ap (begun c.in_ok-names.names) (sym many);
      variables = c.in_ok-names.ensures.names;
      are_parameters = c.requires.parameters;
    } in
    c.read_body.ensures.reads defs (parameters_of ps) e to (scope-grows a.store.now c.parameter_names.new.store c.parameter_names.ensures.grows a.scope.now defs s) ready many stands

pub returns-clause-grows : goal.returns-clause-grows
returns-clause-grows c = grows-more c.args.store.now c.parameter_names.new.store c.read_body.new.store c.parameter_names.ensures.grows c.read_body.ensures.grows

pub returns-in_err-names-clause-begins : goal.returns-in_err-names-clause-begins
returns-in_err-names-clause-begins c = λ defs e to s stands none.
    let no = sym (ap (λ r. is_ok r) c.in_err-names.was) ∙ c.parameter_names.ensures.none none in
    absurd (cc)

pub returns-clause-begins : goal.returns-clause-begins
returns-clause-begins c = λ defs e to s stands none.
    let a = c.args in
    let ps = a.parameters.now in
    let many : length (parameters_of ps) ≡ length ps = length-map ps (λ (p : Parameter). (p.name.items, p.sort)) in
    let ready : IsBegun c.parameter_names.new.store (parameters_of ps) (state_of c.below-elaborator.result) = record {
      names = c.in_ok-names.names;
      state = c.below-elaborator.ensures ∙ ap (begun c.in_ok-names.names) (sym many);
      variables = c.in_ok-names.ensures.names;
      are_parameters = c.requires.parameters;
    } in
    let first = c.read_body.ensures.begins defs (parameters_of ps) e to (scope-grows a.store.now c.parameter_names.new.store c.parameter_names.ensures.grows a.scope.now defs s) ready stands in
    subst (λ (qs : List Parameter). Begins (beginning e (below_binders (parameters_of qs) (outermost defs))) c.read_body.result) none first
