use Rattle.std.proofs.Common.{◌≡◌, drop}
use Rattle.qv_words.specs.Word.{sorts_of, values_of}
use Rattle.qv_shell_answer.specs.Values.{filled}
use Rattle.qv_shell_answer.proofs.values.set_all.Given as goal

-- the values that are left are still to be set
abbrev pub invariant-values : goal.invariant-values
invariant-values l =
    (filled (values_of l.words) (drop l.value-index l.given) ≡ filled (values_of l.fn.words) l.given)
    × (sorts_of l.words ≡ sorts_of l.fn.words)
