use Rattle.std.proofs.Common.{◌≡◌, ◌++◌, ◌-◌}
use Rattle.qv_words.specs.Routine.{bits_of_number}
use Rattle.qv_words.specs.Word.{word_value}
use Rattle.qv_circuits.specs.Adding.{lits_of}
use Rattle.qv_blast.proofs.blaster.bits_of_word.Given as goal

-- the whole is the bits so far, with those of what is left behind
abbrev pub invariant-bits : goal.invariant-bits
invariant-bits l = bits_of_number l.width (word_value l.fn.word) ≡ lits_of l.bits.items ++ bits_of_number (l.width - l._i) l.value
