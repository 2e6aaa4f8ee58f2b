-- One value set among words.
use Rattle.std.proofs.Common.{◌≡◌, ℕ, zero, suc, Option, Some, List, [], ◌∷◌, map, set, slice_get, refl, sym, ap, ◌∙◌}
use Rattle.std.specs.Prelude.{option_map}
use Rattle.std.proofs.lemmas.List.{map-set}
use Rattle.std.proofs.lemmas.Option.{slice_get-map}
use Rattle.qv_words.specs.declared.sort.Sort.{Sort}
use Rattle.qv_words.specs.declared.word.Word.{Word}
use Rattle.qv_words.specs.Word.{sorts_of, values_of, word_sort, word_value}
use Rattle.qv_script_stack.specs.declared.held.Declared.{Declared}

set-there : {A : Type 0} (xs : List A) (i : ℕ) (x : A) → slice_get xs i ≡ Some x → set xs i x ≡ xs
set-there [] i x e = refl
set-there (y ∷ xs) zero x e = let same : y ≡ x = cc in ap (λ (z : _). z ∷ xs) (sym same)
set-there (y ∷ xs) (suc i) x e = ap (λ (zs : List _). y ∷ zs) (set-there xs i x e)

pub set-values : (ws : List Word) (i : ℕ) (w : Word) (v : ℕ) → word_value w ≡ v → values_of (set ws i w) ≡ set (values_of ws) i v
set-values ws i w v e = map-set word_value ws i w ∙ ap (λ (x : ℕ). set (values_of ws) i x) e

-- a word of the sort of the constant there
pub set-sorts : (owns : List Declared) (ws : List Word) (i : ℕ) (w : Word) (own : Declared) → sorts_of ws ≡ map (λ own. own.sort) owns → slice_get owns i ≡ Some own → word_sort w ≡ own.sort → sorts_of (set ws i w) ≡ sorts_of ws
set-sorts owns ws i w own sorts at sort =
    let there : slice_get (sorts_of ws) i ≡ Some own.sort =
    ap (λ (ss : List Sort). slice_get ss i) sorts ∙ slice_get-map (λ (o : Declared). o.sort) owns i ∙ ap (λ (o : Option Declared). option_map (λ (x : Declared). x.sort) o) at in
    map-set word_sort ws i w ∙ ap (λ (s : Sort). set (sorts_of ws) i s) sort ∙ set-there (sorts_of ws) i own.sort there
