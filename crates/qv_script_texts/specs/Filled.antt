-- Values for all constants.
use Rattle.std.specs.Prelude.{◌≡◌, ℕ, List, [], ◌∷◌, ◌++◌, length, drop}
use Rattle.qv_words.specs.declared.word.Word.{Word}
use Rattle.qv_words.specs.Word.{word_sort, word_value}
use Rattle.qv_script_stack.specs.declared.held.Declared.{Declared}

-- the value 0 for each constant
abbrev pub AreZeros : List Declared → List Word → Type 0
AreZeros [] [] = Unit {0}
AreZeros (own ∷ owns) (w ∷ ws) = (word_sort w ≡ own.sort) × (word_value w ≡ 0) × AreZeros owns ws
AreZeros _ _ = ⊥

-- these values, and 0 for each constant behind them
abbrev pub IsFilled : List Declared → (values words : List Word) → Type 0
IsFilled constants values words = (zeros : List Word) × (words ≡ values ++ zeros) × AreZeros (drop (length values) constants) zeros
