use Rattle.std.proofs.Common.{List, sym, subst}
use Rattle.std.specs.Prelude.{All}
use Rattle.qv_words.specs.Sort.{IsLawful}
use Rattle.qv_words.specs.declared.word.Word.{Word}
use Rattle.qv_script_stack.specs.declared.held.Declared.{Declared}
use Rattle.qv_script_texts.specs.Filled.{IsFilled}
use Rattle.qv_shell_command.specs.Moves.{words_of}
use Rattle.qv_shell_command.proofs.moves.last_values.Goals as goal

pub all_values-requires : goal.all_values-requires
all_values-requires c = subst (All (λ (own : Declared). IsLawful own.sort)) (sym c.constants.ensures) c.requires

pub returns : goal.returns
returns c =
    let words = c.in_ok-words.words.items in
    subst (λ (owns : List Declared). IsFilled owns (words_of c.args.script.now.last) words) c.constants.ensures
    (subst (λ (vs : List Word). IsFilled c.constants.result.now vs words) c.answered_values.ensures c.in_ok-words.ensures)
