-- What a word is to the definitions: a sort, and a value of it.
use Rattle.std.specs.Prelude.{ℕ, List, map}
use Rattle.qv_words.specs.declared.sort.Sort.{Sort}
use Rattle.qv_words.specs.declared.word.Word.{Word}

abbrev pub word_sort : Word → Sort
word_sort w = w.sort

abbrev pub word_value : Word → ℕ
word_value w = w.value

-- of each word of a list
abbrev pub sorts_of : List Word → List Sort
sorts_of = map word_sort

abbrev pub values_of : List Word → List ℕ
values_of = map word_value
