use Rattle.std.proofs.Common.{◌≡◌, ◌++◌, List, ap, subst, ◌∙◌}
use Rattle.qv_words.specs.declared.word.Word.{Word}
use Rattle.qv_script_stack.specs.declared.held.Declared.{Declared}
use Rattle.qv_script_texts.specs.Filled.{AreZeros}
use Rattle.qv_script_texts.proofs.filling.all_values.Goals as goal

pub returns : goal.returns
returns c =
    let filled = c.in_ok-push_zeros.ensures in (
      filled.0,
      filled.1 ∙ ap (λ (ws : List Word). ws ++ filled.0) c.in_ok-words.ensures.items,
      subst (λ (owns : List Declared). AreZeros owns filled.0) c.behind.ensures filled.2,
    )
