-- Values for all constants, and zeros.
use Rattle.std.proofs.Common.{◌≡◌, ◌-◌, ℕ, zero, suc, List, [], ◌∷◌, ◌++◌, map, length, drop, replicate, refl, sym, ap, ◌∙◌}
use Rattle.std.proofs.lemmas.List.{map-append, length-map, length-drop}
use Rattle.qv_words.specs.declared.sort.Sort.{Sort}
use Rattle.qv_words.specs.declared.word.Word.{Word}
use Rattle.qv_words.specs.Word.{word_sort, word_value, sorts_of, values_of}
use Rattle.qv_script_stack.specs.declared.held.Declared.{Declared}
use Rattle.qv_script_stack.specs.Held.{padded}
use Rattle.qv_script_texts.specs.Filled.{AreZeros, IsFilled}

pub zeros-more : (owns : List Declared) (ws : List Word) (own : Declared) (w : Word) → AreZeros owns ws → word_sort w ≡ own.sort → word_value w ≡ 0 → AreZeros (owns ++ own ∷ []) (ws ++ w ∷ [])
zeros-more [] [] own w h s v = (s, v, tt)
zeros-more [] (x ∷ ws) own w h s v = absurd h
zeros-more (o ∷ owns) [] own w h s v = absurd h
zeros-more (o ∷ owns) (x ∷ ws) own w h s v = (h.0, h.1, zeros-more owns ws own w h.2 s v)

zeros-sorts : (owns : List Declared) (ws : List Word) → AreZeros owns ws → sorts_of ws ≡ map (λ own. own.sort) owns
zeros-sorts [] [] h = refl
zeros-sorts [] (x ∷ ws) h = absurd h
zeros-sorts (o ∷ owns) [] h = absurd h
zeros-sorts (o ∷ owns) (x ∷ ws) h = ap (λ (s : Sort). s ∷ sorts_of ws) h.0 ∙ ap (λ ss. o.sort ∷ ss) (zeros-sorts owns ws h.2)

zeros-values : (owns : List Declared) (ws : List Word) → AreZeros owns ws → map word_value ws ≡ replicate (length owns) 0
zeros-values [] [] h = refl
zeros-values [] (x ∷ ws) h = absurd h
zeros-values (o ∷ owns) [] h = absurd h
zeros-values (o ∷ owns) (x ∷ ws) h = ap (λ v. v ∷ map word_value ws) h.1 ∙ ap (λ vs. 0 ∷ vs) (zeros-values owns ws h.2)

map-behind : {A B : Type 0} (f : A → B) (n : ℕ) (xs : List A) → map f (drop n xs) ≡ drop n (map f xs)
map-behind f zero xs = refl
map-behind f (suc n) [] = refl
map-behind f (suc n) (x ∷ xs) = map-behind f n xs

drop-front : {A : Type 0} (xs ys : List A) → drop (length xs) (xs ++ ys) ≡ ys
drop-front [] ys = refl
drop-front (x ∷ xs) ys = drop-front xs ys

-- the values
pub filled-values : (owns : List Declared) (values words : List Word) → IsFilled owns values words → values_of words ≡ padded (length owns) (map word_value values)
filled-values owns values words h =
    ap (map word_value) h.1 ∙ map-append word_value values h.0
    ∙ ap (λ zs. map word_value values ++ zs) (zeros-values (drop (length values) owns) h.0 h.2)
    ∙ ap (λ n. map word_value values ++ replicate n 0) (length-drop (length values) owns ∙ ap (λ n. length owns - n) (sym (length-map values word_value)))

-- their sorts
pub filled-sorts : (owns : List Declared) (values words : List Word) (behind : List Sort) → map (λ own. own.sort) owns ≡ sorts_of values ++ behind → IsFilled owns values words → sorts_of words ≡ map (λ own. own.sort) owns
filled-sorts owns values words behind e h =
    let rest : map (λ own. own.sort) (drop (length values) owns) ≡ behind =
    map-behind (λ (own : Declared). own.sort) (length values) owns ∙ ap (drop (length values)) e
    ∙ ap (λ n. drop n (sorts_of values ++ behind)) (sym (length-map values word_sort)) ∙ drop-front (sorts_of values) behind in
    ap (map word_sort) h.1 ∙ map-append word_sort values h.0
    ∙ ap (λ ss. sorts_of values ++ ss) (zeros-sorts (drop (length values) owns) h.0 h.2 ∙ rest) ∙ sym e
