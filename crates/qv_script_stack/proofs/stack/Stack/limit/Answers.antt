use Rattle.std.proofs.Common.{◌≡◌, ◌^◌, Option, Some, None, List, ℕ, codes, sym, ap, ◌∙◌}
use Rattle.std.specs.Prelude.{min, option_map}
use Rattle.qv_elab_defs.specs.Scopes.{found}
use Rattle.qv_script_defs.specs.Settings.{written_limit}
use Rattle.qv_script_stack.specs.declared.held.Chosen.{Chosen}
use Rattle.qv_script_stack.specs.Held.{Held, chosen_of}
use Rattle.qv_script_stack.proofs.stack.Stack.limit.Goals as goal

pub returns-in-Some : goal.returns-in-Some
returns-in-Some c = λ trees s h.
    let key = codes ":reproducible-resource-limit" in
    let found_is : found key s.options ≡ Some c.in-Some.digits.now =
    sym (ap (λ (xs : List Chosen). found key (chosen_of xs)) (c.deref.ensures.value ∙ ap (λ (k : Held). k.options) c.self.view_is) ∙ ap (found key) h.options)
    ∙ sym c.last_chosen.ensures ∙ ap (option_map (λ v. v.now)) c.in-Some.is in
    c.limit_in.ensures ∙ ap (λ (o : Option (List ℕ)). min (written_limit o) (2 ^ 60)) (sym found_is)

pub returns-in-None : goal.returns-in-None
returns-in-None c = λ trees s h.
    let key = codes ":reproducible-resource-limit" in
    let found_is : found key s.options ≡ None =
    sym (ap (λ (xs : List Chosen). found key (chosen_of xs)) (c.deref.ensures.value ∙ ap (λ (k : Held). k.options) c.self.view_is) ∙ ap (found key) h.options)
    ∙ sym c.last_chosen.ensures ∙ ap (option_map (λ v. v.now)) c.in-None.is in
    ap (λ (o : Option (List ℕ)). min (written_limit o) (2 ^ 60)) (sym found_is)
