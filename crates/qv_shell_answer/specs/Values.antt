-- Values of all constants in force, by those that are given.
use Rattle.std.specs.Prelude.{◌≡◌, ℕ, IsSomeAnd, List, [], ◌∷◌, set, slice_get}
use Rattle.qv_words.specs.Sort.{IsValueOf}
use Rattle.qv_words.specs.declared.word.Word.{Word}
use Rattle.qv_words.specs.Word.{word_sort, word_value}
use Rattle.qv_script_stack.specs.declared.held.Declared.{Declared}
use Rattle.qv_solve_draw.specs.declared.values.ConstValue.{ConstValue}

-- the value 0 for each constant
abbrev pub AreZeros : List Declared → List Word → Type 0
AreZeros [] [] = Unit {0}
AreZeros (own ∷ owns) (w ∷ ws) = (word_sort w ≡ own.sort) × (word_value w ≡ 0) × AreZeros owns ws
AreZeros _ _ = ⊥

-- values with those that are given in their places
abbrev pub filled : List ℕ → List ConstValue → List ℕ
filled c [] = c
filled c (v ∷ vs) = filled (set c v.index (word_value v.word)) vs

-- there is a constant of that index, of whose sort the value is one
abbrev pub Fit : List Declared → ConstValue → Type 0
Fit constants v = IsSomeAnd (slice_get constants v.index) (λ own. IsValueOf (word_value v.word) own.sort)
