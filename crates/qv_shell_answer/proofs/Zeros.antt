-- Values that are 0.
use Rattle.std.proofs.Common.{◌≡◌, ℕ, List, [], ◌∷◌, ◌++◌, map, refl, ap, ◌∙◌}
use Rattle.qv_words.specs.declared.sort.Sort.{Sort}
use Rattle.qv_words.specs.declared.word.Word.{Word}
use Rattle.qv_words.specs.Word.{word_sort, word_value, sorts_of, values_of}
use Rattle.qv_script_stack.specs.declared.held.Declared.{Declared}
use Rattle.qv_shell_answer.specs.Values.{AreZeros}

-- values that are 0
pub zeros-more : (owns : List Declared) (ws : List Word) (own : Declared) (w : Word) → AreZeros owns ws → word_sort w ≡ own.sort → word_value w ≡ 0 → AreZeros (owns ++ own ∷ []) (ws ++ w ∷ [])
zeros-more [] [] own w h s v = (s, v, tt)
zeros-more [] (x ∷ ws) own w h s v = absurd h
zeros-more (o ∷ owns) [] own w h s v = absurd h
zeros-more (o ∷ owns) (x ∷ ws) own w h s v = (h.0, h.1, zeros-more owns ws own w h.2 s v)

pub zeros-value : (owns : List Declared) (ws : List Word) → AreZeros owns ws → values_of ws ≡ map (λ _. 0) owns
zeros-value [] [] h = refl
zeros-value [] (x ∷ ws) h = absurd h
zeros-value (o ∷ owns) [] h = absurd h
zeros-value (o ∷ owns) (x ∷ ws) h = ap (λ (n : ℕ). n ∷ values_of ws) h.1 ∙ ap (λ (ns : List ℕ). 0 ∷ ns) (zeros-value owns ws h.2)

pub zeros-sort : (owns : List Declared) (ws : List Word) → AreZeros owns ws → sorts_of ws ≡ map (λ own. own.sort) owns
zeros-sort [] [] h = refl
zeros-sort [] (x ∷ ws) h = absurd h
zeros-sort (o ∷ owns) [] h = absurd h
zeros-sort (o ∷ owns) (x ∷ ws) h = ap (λ (s : Sort). s ∷ sorts_of ws) h.0 ∙ ap (λ ss. o.sort ∷ ss) (zeros-sort owns ws h.2)
