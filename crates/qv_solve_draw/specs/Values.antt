-- Values of constants, which are the first places of a problem.
use Rattle.std.specs.Prelude.{◌≡◌, ℕ, ◌<◌, Some, IsSomeAnd, List, [], map, slice_get}
use Rattle.qv_words.specs.declared.word.Word.{Word}
use Rattle.qv_words.specs.Word.{word_sort, word_value}
use Rattle.qv_words.specs.Sorted.{no_levels}
use Rattle.qv_words.specs.Meaning.{Means}
use Rattle.qv_words.specs.Problem.{Problem, Existential}
use Rattle.qv_words.specs.Skolem.{SkolemTerm, term_of}
use Rattle.qv_solve_draw.specs.declared.values.ConstValue.{ConstValue}

-- so many first places are existential
abbrev pub AreExistential : Problem → ℕ → Type 0
AreExistential p count = (j : ℕ) → j < count → IsSomeAnd (slice_get p.prefix j) (λ place. place.quantifier ≡ Existential)

abbrev pub indices_of : List ConstValue → List ℕ
indices_of = map (λ c. c.index)

abbrev pub values_of : List ConstValue → List ℕ
values_of = map (λ c. word_value c.word)

-- each value is one of its place's sort
abbrev pub HaveSorts : Problem → List ConstValue → Type 0
HaveSorts p values = (j : ℕ) (c : ConstValue) → slice_get values j ≡ Some c → IsSomeAnd (slice_get p.prefix j) (λ place. word_sort c.word ≡ place.sort)

-- a word of the sort of an existential place, which its term means without variables
abbrev pub IsWordOfTerm : Problem → List SkolemTerm → ℕ → Word → Type 0
IsWordOfTerm p terms j w =
    IsSomeAnd (slice_get p.prefix j) (λ place. (place.quantifier ≡ Existential) × (word_sort w ≡ place.sort))
    × IsSomeAnd (term_of terms j) (λ t. Means [] no_levels t (word_value w))
