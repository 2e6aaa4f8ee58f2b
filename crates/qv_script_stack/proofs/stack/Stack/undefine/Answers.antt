use Rattle.std.proofs.Common.{◌≡◌, ◌≤◌, length, take, sym, ap, subst, ◌∙◌}
use Rattle.std.specs.List.{AllByRecursion}
use Rattle.qv_elab_scope.specs.Force.{Force, constants_in, shortened}
use Rattle.qv_script_stack.specs.Held.{Held}
use Rattle.qv_script_stack.proofs.Undefining.{few-left, same-constants, same-starts, undefined}
use Rattle.qv_script_stack.proofs.stack.Stack.undefine.Goals as goal

pub undefine-requires-clause-left : goal.undefine-requires-clause-left
undefine-requires-clause-left c =
    let r = c.requires in
    subst (λ (k : Held). c.args.mark.names ≤ length k.force.kept) (sym c.self.view_is) (few-left r.0 c.args.self.now c.args.mark r.1 r.2)

pub undefine-requires-clause-constants : goal.undefine-requires-clause-constants
undefine-requires-clause-constants c =
    let r = c.requires in
    subst (λ (k : Held). constants_in (take c.args.mark.names k.force.kept) ≡ constants_in k.force.kept) (sym c.self.view_is) (same-constants r.0 c.args.self.now c.args.mark r.1 r.2)

pub undefine-requires-clause-levels : goal.undefine-requires-clause-levels
undefine-requires-clause-levels c =
    let r = c.requires in
    subst (λ (k : Held). AllByRecursion (λ n. n ≤ c.args.mark.names) k.force.starts) (sym c.self.view_is) (same-starts r.0 c.args.self.now c.args.mark r.1 r.2)

pub returns : goal.returns
returns c = λ old m l.
    let i = c.self.inside in
    let held : Held = record {
      force = i.scope;
      assertions = i.assertions.items;
      named = i.named.items;
      constants = i.constants.items;
      starts = i.starts.items;
      assumed = i.assumed.items;
      terms = i.terms;
      logic = i.logic;
      begun = i.begun;
      nested = i.nested;
      success = i.success;
      global = i.global;
      options = i.options.items;
      last = i.last;
      counts = i.counts;
    } in
    ap (λ (f : Force). record held { force = f; begun = c.args.mark.begun }) c.undefine.ensures
    ∙ ap (λ (k : Held). record k { force = shortened c.args.mark.names k.force; begun = c.args.mark.begun }) c.self.view_is
    ∙ undefined old c.args.self.now c.args.mark m l
