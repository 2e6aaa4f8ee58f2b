-- What the leaves of several terms need for being evaluated.
use Rattle.std.specs.Prelude.{List}
use Rattle.qv_words.specs.declared.word.Word.{Word}
use Rattle.qv_words.specs.Tree.{Trees, Nil, Cons}
use Rattle.qv_words.specs.Values.{HasWords}

-- each leaf of these trees has a word of its sort
abbrev pub HaveWords : List Word → List Word → Trees → Type 0
HaveWords consts levels Nil = Unit {0}
HaveWords consts levels (Cons t ts) = HasWords consts levels t × HaveWords consts levels ts
