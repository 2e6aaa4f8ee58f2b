use Rattle.std.proofs.Common.{◌≡◌, List, sym, subst}
use Rattle.std.specs.Prelude.{All, map}
use Rattle.qv_words.specs.declared.op.Answer.{Answer}
use Rattle.qv_words.specs.Sort.{IsLawful}
use Rattle.qv_words.specs.Word.{word_value}
use Rattle.qv_script_stack.specs.declared.held.Declared.{Declared}
use Rattle.qv_script_defs.specs.State.{Sat}
use Rattle.qv_check_defs.specs.Beside.{last_of}
use Rattle.qv_check_script.specs.Turns.{AreZeros}
use Rattle.qv_check_script.proofs.Answered.{zeros-kept, zeros-sorts}
use Rattle.qv_check_script.proofs.Checked.{constants-lawful}
use Rattle.qv_check_script.proofs.answers.last_of.Goals as goal

pub zeros-requires : goal.zeros-requires
zeros-requires c = subst (All (λ (own : Declared). IsLawful own.sort)) (sym c.constants.ensures) (constants-lawful c.requires.0 c.args.script.now c.requires.1 c.requires.2)

pub returns-in_ok-values-in-Sat-clause-last : goal.returns-in_ok-values-in-Sat-clause-last
returns-in_ok-values-in-Sat-clause-last c trees s h =
    let ws = c.in_ok-values-in-Sat.values.items in
    subst (λ (a : Answer). Sat (map word_value ws) ≡ last_of s a) (sym c.in-Sat.is)
    (zeros-kept trees c.args.script.now s ws h (subst (λ (owns : List Declared). AreZeros owns ws) c.constants.ensures c.in_ok-values-in-Sat.ensures))

pub returns-in_ok-values-in-Sat-clause-sorts : goal.returns-in_ok-values-in-Sat-clause-sorts
returns-in_ok-values-in-Sat-clause-sorts c =
    let ws = c.in_ok-values-in-Sat.values.items in
    zeros-sorts c.args.script.now.constants ws (subst (λ (owns : List Declared). AreZeros owns ws) c.constants.ensures c.in_ok-values-in-Sat.ensures)
