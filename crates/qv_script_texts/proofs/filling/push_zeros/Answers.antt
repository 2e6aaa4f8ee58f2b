use Rattle.std.proofs.Common.{◌+◌, ◌≡◌, ◌∷◌, ◌++◌, [], List, take, refl, sym, ap, subst, ◌∙◌, append_assoc, arith}
use Rattle.std.proofs.lemmas.List.{append-nil, take_more, take_all}
use Rattle.qv_words.specs.Word.{word_sort, word_value}
use Rattle.qv_words.specs.declared.word.Word.{Word}
use Rattle.qv_words.proofs.Elements.{of-if_some}
use Rattle.qv_script_stack.specs.declared.held.Declared.{Declared}
use Rattle.qv_script_texts.specs.Filled.{AreZeros}
use Rattle.qv_script_texts.proofs.Zeros.{zeros-more}
use Rattle.qv_script_texts.proofs.filling.push_zeros.Goals as goal

pub constants-init : goal.constants-init
constants-init c = ([], sym (append-nil c.args.words.now.items), tt)

pub constants-preserved : goal.constants-preserved
constants-preserved c =
    let owns = c.args.constants.now in
    let i = c.constants.own-index in
    let own = c.own-item.result in
    let w = c.unwrap.result in
    let so_far = c.constants.invariant in
    let more : take (i + 1) owns ≡ take i owns ++ own ∷ [] = take_more owns i own c.constants-test.true ∙ ap (λ (o : Declared). take i owns ++ o ∷ []) (sym c.own-item.is) in
    let sort = of-if_some c.new.result (λ (x : Word). word_sort x ≡ own.sort) w c.unwrap.ensures c.new.ensures.sort in
    let value = of-if_some c.new.result (λ (x : Word). word_value x ≡ 0) w c.unwrap.ensures c.new.ensures.value in (
      so_far.0 ++ w ∷ [],
      c.in_ok-push.ensures.items ∙ ap (λ (ws : List Word). ws ++ w ∷ []) so_far.1 ∙ append_assoc c.args.words.now.items so_far.0 (w ∷ []),
      subst (λ (xs : List Declared). AreZeros xs (so_far.0 ++ w ∷ [])) (sym more) (zeros-more (take i owns) so_far.0 own w so_far.2 sort value),
    )

pub returns : goal.returns
returns c =
    let so_far = c.constants.invariant in
    (so_far.0, so_far.1, subst (λ (xs : List Declared). AreZeros xs so_far.0) (take_all c.constants.own-index c.args.constants.now (omega (arith, c.constants-test.false))) so_far.2)
