-- Terms that have a value where their children do.
use Rattle.std.specs.Prelude.{◌≡◌, ℕ, List, IsSomeAnd, slice_get}
use Rattle.qv_words.specs.declared.sort.Sort.{Sort}
use Rattle.qv_words.specs.declared.word.Word.{Word}
use Rattle.qv_words.specs.Word.{word_sort}
use Rattle.qv_words.specs.Tree.{Tree, Constant, Variable, Literal, Apply, ForAll, Exists}

-- a constant's word has its sort
abbrev pub IsWordAt : List Word → ℕ × Sort → Type 0
IsWordAt words leaf = IsSomeAnd (slice_get words leaf.0) (λ w. word_sort w ≡ leaf.1)

-- it has no variable and no quantifier at its top, and a constant has a word
abbrev pub IsValuedIn : List Word → Tree → Type 0
IsValuedIn words (Constant i s) = IsWordAt words (i, s)
IsValuedIn words (Variable l s) = ⊥
IsValuedIn words (Literal s n) = Unit {0}
IsValuedIn words (Apply o args) = Unit {0}
IsValuedIn words (ForAll l s body) = ⊥
IsValuedIn words (Exists l s body) = ⊥
