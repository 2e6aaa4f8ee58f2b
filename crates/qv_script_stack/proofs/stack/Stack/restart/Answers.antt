use Rattle.std.proofs.Common.{false, None, List, [], ap, ◌∙◌}
use Rattle.qv_script_stack.specs.declared.held.Chosen.{Chosen}
use Rattle.qv_script_stack.specs.Held.{Held}
use Rattle.qv_script_stack.proofs.stack.Stack.restart.Goals as goal

pub returns : goal.returns
returns c =
    let i = c.self.inside in
    let emptied : (os : List Chosen) → Held = λ os. record {
      force = i.scope;
      assertions = i.assertions.items;
      named = i.named.items;
      constants = i.constants.items;
      starts = i.starts.items;
      assumed = i.assumed.items;
      terms = i.terms;
      logic = false;
      begun = false;
      nested = false;
      success = false;
      global = false;
      options = os;
      last = i.last;
      counts = None;
    } in
    ap emptied c.clear.ensures.items ∙ ap (λ (k : Held). record k { logic = false; begun = false; nested = false; success = false; global = false; options = []; counts = None }) (c.self.view_is ∙ c.clear_all.ensures)
