use Rattle.std.proofs.Common.{◌≡◌, ◌++◌, List, take}
use Rattle.qv_words.specs.declared.word.Word.{Word}
use Rattle.qv_script_texts.specs.Filled.{AreZeros}
use Rattle.qv_script_texts.proofs.filling.push_zeros.Given as goal

-- zeros for the first constants stand behind what was there
abbrev pub invariant-constants : goal.invariant-constants
invariant-constants l = (zeros : List Word) × (l.words.items ≡ l.initial.words.items ++ zeros) × AreZeros (take l.own-index l.constants) zeros
