use Rattle.std.proofs.Common.{◌≡◌, Some, Option, List, ℕ, sym, ap, ◌∙◌}
use Rattle.std.specs.Prelude.{option_map}
use Rattle.qv_elab_defs.specs.Scopes.{found}
use Rattle.qv_script_defs.specs.Settings.{setting_of, value_or}
use Rattle.qv_script_stack.specs.declared.held.Chosen.{Chosen}
use Rattle.qv_script_stack.specs.Held.{Held, chosen_of}
use Rattle.qv_script_stack.proofs.stack.Stack.option_text.Goals as goal

pub returns : goal.returns
returns c = λ trees s h.
    let key = c.args.key.now in
    let found_is : found key s.options ≡ Some c.in-Some.value.now =
    sym (ap (λ (xs : List Chosen). found key (chosen_of xs)) (c.deref.ensures.value ∙ ap (λ (k : Held). k.options) c.self.view_is) ∙ ap (found key) h.options)
    ∙ sym c.last_chosen.ensures ∙ ap (option_map (λ v. v.now)) c.in-Some.is in
    c.in_ok-text-2.ensures ∙ ap (λ (o : Option (List ℕ)). value_or o (setting_of key)) (sym found_is)
