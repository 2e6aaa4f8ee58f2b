-- Values of the outer variables, by those of the constants. No public contract cites this.
use Rattle.std.specs.Prelude.{ℕ, ◌==◌, Bool, List, [], ◌∷◌, set}
use Rattle.qv_words.specs.Word.{word_value}
use Rattle.qv_solve_draw.specs.declared.values.ConstValue.{ConstValue}

-- values with those that are given in their places
abbrev pub filled : List Bool → List ConstValue → List Bool
filled values [] = values
filled values (v ∷ vs) = filled (set values v.index (word_value v.word == 1)) vs
