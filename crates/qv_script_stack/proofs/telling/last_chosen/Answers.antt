use Rattle.std.proofs.Common.{◌+◌, ◌≡◌, ◌∷◌, ◌++◌, [], Some, Option, List, ℕ, cond, take, sym, ap, ◌∙◌, arith}
use Rattle.std.specs.Str.{bytes_eq}
use Rattle.std.proofs.lemmas.List.{take_more, take_all}
use Rattle.qv_elab_defs.specs.Scopes.{found}
use Rattle.qv_script_stack.specs.declared.held.Chosen.{Chosen}
use Rattle.qv_script_stack.specs.Held.{chosen_of}
use Rattle.qv_script_stack.proofs.Holding.{chosen-more}
use Rattle.qv_script_stack.proofs.telling.last_chosen.Goals as goal

pub options-preserved : goal.options-preserved
options-preserved c =
    let key = c.args.key.now in
    let xs = c.args.options.now in
    let i = c.options.own-index in
    let own = c.own-item.result in
    let more : take (i + 1) xs ≡ take i xs ++ own ∷ [] = take_more xs i own c.options-test.true ∙ ap (λ (o : Chosen). take i xs ++ o ∷ []) (sym c.own-item.is) in
    c.value_or-value.ensures ∙ ap (λ (o : Option (List ℕ)). cond (bytes_eq own.key.items key) (Some own.value.items) o) c.options.invariant
    ∙ sym (chosen-more key (take i xs) own) ∙ ap (λ (ys : List Chosen). found key (chosen_of ys)) (sym more)

pub returns : goal.returns
returns c =
    c.options.invariant
    ∙ ap (λ (ys : List Chosen). found c.args.key.now (chosen_of ys)) (take_all c.options.own-index c.args.options.now (omega (arith, c.options-test.false)))
