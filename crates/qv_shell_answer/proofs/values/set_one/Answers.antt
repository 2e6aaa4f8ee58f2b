use Rattle.std.proofs.Common.{◌≡◌, Some, get_or, slice_get, sym, ap, ◌∙◌}
use Rattle.std.proofs.lemmas.Option.{get_or_from_slice_get}
use Rattle.qv_words.specs.declared.word.Word.{Word}
use Rattle.qv_words.specs.Sort.{IsValueOf}
use Rattle.qv_words.specs.Word.{word_sort, word_value}
use Rattle.qv_words.proofs.Elements.{of-if_some, some-and}
use Rattle.qv_script_stack.specs.declared.held.Declared.{Declared}
use Rattle.qv_shell_answer.proofs.Setting.{set-sorts, set-values}
use Rattle.qv_shell_answer.proofs.values.set_one.Goals as goal

pub returns-clause-values : goal.returns-clause-values
returns-clause-values c =
    let w = c.unwrap.result in
    let value : word_value w ≡ word_value c.args.value.word = of-if_some c.new.result (λ (x : Word). word_value x ≡ c.value.result) w c.unwrap.ensures c.new.ensures.value ∙ c.value.ensures in
    set-values c.args.words.now c.args.value.index w (word_value c.args.value.word) value

pub returns-clause-sorts : goal.returns-clause-sorts
returns-clause-sorts c =
    let owns = c.args.constants.now in
    let i = c.args.value.index in
    let w = c.unwrap.result in
    let own = get_or owns i c.index-constants-at.result in
    let sort : word_sort w ≡ own.sort = of-if_some c.new.result (λ (x : Word). word_sort x ≡ own.sort) w c.unwrap.ensures c.new.ensures.sort in
    let there = some-and (slice_get owns i) (λ (o : Declared). IsValueOf (word_value c.args.value.word) o.sort) c.requires.fit in
    let same : own ≡ there.0 = get_or_from_slice_get owns i there.0 c.index-constants-at.result there.1 in
    set-sorts owns c.args.words.now i w own c.requires.sorts (there.1 ∙ ap (λ (o : Declared). Some o) (sym same)) sort
