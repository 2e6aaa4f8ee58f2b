use Rattle.std.proofs.Common.{◌≡◌, take}
use Rattle.qv_words.specs.Word.{sorts_of}
use Rattle.qv_words_cases.proofs.parsing.sorts_of.Given as goal

-- the sorts so far are those of the words so far
abbrev pub invariant-loop-word : goal.invariant-loop-word
invariant-loop-word l = l.sorts.items ≡ sorts_of (take l.word-index l.words)
