use Rattle.std.proofs.Common.{◌+◌, ◌≡◌, ◌∷◌, ◌++◌, [], List, take, sym, ap, subst, ◌∙◌}
use Rattle.std.proofs.lemmas.List.{take_more}
use Rattle.qv_words.specs.Word.{word_sort, word_value}
use Rattle.qv_words.specs.declared.word.Word.{Word}
use Rattle.qv_words.proofs.Elements.{of-if_some}
use Rattle.qv_script_stack.specs.declared.held.Declared.{Declared}
use Rattle.qv_shell_answer.specs.Values.{AreZeros}
use Rattle.qv_shell_answer.proofs.Zeros.{zeros-more}
use Rattle.qv_shell_answer.proofs.values.zeros.Goals as goal

pub owns-preserved : goal.owns-preserved
owns-preserved c =
    let owns = c.args.constants.now in
    let i = c.owns.own-index in
    let own = c.own-item.result in
    let w = c.unwrap.result in
    let more : take (i + 1) owns ≡ take i owns ++ own ∷ [] = take_more owns i own c.owns-test.true ∙ ap (λ (o : Declared). take i owns ++ o ∷ []) (sym c.own-item.is) in
    let sort = of-if_some c.new.result (λ (x : Word). word_sort x ≡ own.sort) w c.unwrap.ensures c.new.ensures.sort in
    let value = of-if_some c.new.result (λ (x : Word). word_value x ≡ 0) w c.unwrap.ensures c.new.ensures.value in
    subst (λ (xs : List Declared). AreZeros xs c.push.new.self.items) (sym more)
    (subst (λ (ws : List Word). AreZeros (take i owns ++ own ∷ []) ws) (sym c.in_ok-push.ensures.items) (zeros-more (take i owns) c.owns.words.items own w c.owns.invariant sort value))
