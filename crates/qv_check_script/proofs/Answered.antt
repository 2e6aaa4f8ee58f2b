-- What is kept of a section's answer.
use Rattle.std.proofs.Common.{◌≡◌, ◌∙◌, List, [], ◌∷◌, ◌++◌, map, refl, ap}
use Rattle.qv_words.specs.declared.sort.Sort.{Sort}
use Rattle.qv_words.specs.declared.word.Word.{Word}
use Rattle.qv_words.specs.Word.{word_sort, word_value, sorts_of}
use Rattle.qv_words.specs.Tree.{Tree}
use Rattle.qv_elab_defs.specs.Scopes.{Named}
use Rattle.qv_script_stack.specs.declared.held.Declared.{Declared}
use Rattle.qv_script_defs.specs.State.{State, Sat, constants}
use Rattle.qv_script_stack.specs.Held.{Held, IsScriptIn, declared_of}
use Rattle.qv_check_script.specs.Turns.{AreZeros}

pub zeros-more : (owns : List Declared) (ws : List Word) (own : Declared) (w : Word) → AreZeros owns ws → word_sort w ≡ own.sort → word_value w ≡ 0 → AreZeros (owns ++ own ∷ []) (ws ++ w ∷ [])
zeros-more [] [] own w h s v = (s, v, tt)
zeros-more [] (x ∷ ws) own w h s v = absurd h
zeros-more (o ∷ owns) [] own w h s v = absurd h
zeros-more (o ∷ owns) (x ∷ ws) own w h s v = (h.0, h.1, zeros-more owns ws own w h.2 s v)

pub zeros-sorts : (owns : List Declared) (ws : List Word) → AreZeros owns ws → sorts_of ws ≡ map (λ own. own.sort) owns
zeros-sorts [] [] h = refl
zeros-sorts [] (x ∷ ws) h = absurd h
zeros-sorts (o ∷ owns) [] h = absurd h
zeros-sorts (o ∷ owns) (x ∷ ws) h = ap (λ (s : Sort). s ∷ sorts_of ws) h.0 ∙ ap (λ ss. o.sort ∷ ss) (zeros-sorts owns ws h.2)

zeros-values : (owns : List Declared) (ws : List Word) → AreZeros owns ws → map word_value ws ≡ map (λ _. 0) (declared_of owns)
zeros-values [] [] h = refl
zeros-values [] (x ∷ ws) h = absurd h
zeros-values (o ∷ owns) [] h = absurd h
zeros-values (o ∷ owns) (x ∷ ws) h = ap (λ v. v ∷ map word_value ws) h.1 ∙ ap (λ vs. 0 ∷ vs) (zeros-values owns ws h.2)

pub zeros-kept : (trees : List Tree) (held : Held) (s : State) (ws : List Word) → IsScriptIn trees held s → AreZeros held.constants ws → Sat (map word_value ws) ≡ Sat (map (λ own. 0) (constants s))
zeros-kept trees held s ws h z = ap Sat (zeros-values held.constants ws z ∙ ap (λ (owns : Named Sort). map (λ own. 0) owns) h.constants)
