-- Models, values of terms and answers, one more at a time.
use Rattle.std.proofs.Common.{◌≡◌, ℕ, zero, suc, ◌+◌, ◌<◌, List, [], ◌∷◌, ◌++◌, map, length, take, get_or, refl, ap, subst, sym, ◌∙◌, arith, add-one}
use Rattle.std.specs.Prelude.{zip, flat_map}
use Rattle.std.proofs.lemmas.List.{append_assoc, append-nil}
use Rattle.qv_words.specs.declared.sort.Sort.{Sort}
use Rattle.qv_words.specs.declared.word.Word.{Word}
use Rattle.qv_words.specs.Word.{word_value, values_of}
use Rattle.qv_words.specs.Tree.{Tree}
use Rattle.qv_words.specs.Sorted.{no_levels}
use Rattle.qv_words.specs.Meaning.{Means}
use Rattle.qv_store.specs.Nodes.{tree_at}
use Rattle.qv_script_values.specs.ValueText.{value_text}
use Rattle.qv_script_values.specs.SymbolText.{definition_text}
use Rattle.qv_script_stack.specs.declared.held.Declared.{Declared}
use Rattle.qv_script_defs.specs.declared.effects.ValueTerm.{ValueTerm as Asked}
use Rattle.qv_script_defs.specs.Moves.{ValueTerm}
use Rattle.qv_script_stack.specs.Held.{declared_of}
use Rattle.qv_script_texts.specs.Printing.{value_pair, with_spaces, MeanValues, ShowsValues}
use Rattle.qv_script_texts.specs.Shown.{IsPair, told, gap_at}

-- the definitions of constants
abbrev pub constants-text : List Declared → List Word → List ℕ
constants-text owns ws = flat_map (λ x. definition_text x.0.0 x.0.1 x.1) (zip (declared_of owns) (values_of ws))

one-constant : (owns : List Declared) (ws : List Word) (i : ℕ) (own : Declared) (w : Word) → i < length owns → i < length ws →
    constants-text (take (suc i) owns) (take (suc i) ws) ≡ constants-text (take i owns) (take i ws) ++ definition_text (get_or owns i own).name.items (get_or owns i own).sort (word_value (get_or ws i w))
one-constant [] ws i own w h k = absurd (omega (arith, h))
one-constant (o ∷ owns) [] i own w h k = absurd (omega (arith, k))
one-constant (o ∷ owns) (x ∷ ws) zero own w h k = append-nil (definition_text o.name.items o.sort (word_value x))
one-constant (o ∷ owns) (x ∷ ws) (suc i) own w h k =
    let here = definition_text o.name.items o.sort (word_value x) in
    ap (λ t. here ++ t) (one-constant owns ws i own w (omega arith) (omega arith))
    ∙ sym (append_assoc here (constants-text (take i owns) (take i ws)) (definition_text (get_or owns i own).name.items (get_or owns i own).sort (word_value (get_or ws i w))))

pub next-constant : (owns : List Declared) (ws : List Word) (i : ℕ) (own : Declared) (w : Word) (old new : List ℕ) → i < length owns → i < length ws →
    own ≡ get_or owns i own → w ≡ get_or ws i w → old ≡ 40 ∷ 10 ∷ constants-text (take i owns) (take i ws) → new ≡ old ++ definition_text own.name.items own.sort (word_value w) →
    new ≡ 40 ∷ 10 ∷ constants-text (take (i + 1) owns) (take (i + 1) ws)
next-constant owns ws i own w old new h k own-is w-is old-is new-is =
    let added = definition_text own.name.items own.sort (word_value w) in
    let there : added ≡ definition_text (get_or owns i own).name.items (get_or owns i own).sort (word_value (get_or ws i w)) =
    ap (λ (o : Declared). definition_text o.name.items o.sort (word_value w)) own-is ∙ ap (λ (x : Word). definition_text (get_or owns i own).name.items (get_or owns i own).sort (word_value x)) w-is in
    let step = one-constant owns ws i own w h k in
    new-is ∙ ap (λ t. t ++ added) old-is ∙ ap (λ t. 40 ∷ 10 ∷ t) (ap (λ t. constants-text (take i owns) (take i ws) ++ t) there ∙ sym step)
    ∙ ap (λ n. 40 ∷ 10 ∷ constants-text (take n owns) (take n ws)) (sym (add-one i))

-- the values of terms so far
pub record AreShown (trees : List Tree) (c : List ℕ) (asked : List Asked) (text : List ℕ) : Type 0 where
  pub values : List ℕ
  pub mean : MeanValues c (told trees asked) values
  pub shown : text ≡ 40 ∷ with_spaces (map (λ x. value_pair x.0 x.1) (zip (told trees asked) values))

-- a space, but before the first
abbrev pub gap : List Asked → List ℕ
gap [] = []
gap (a ∷ asked) = 32 ∷ []

with-last : (xs : List (List ℕ)) (x : List ℕ) (y : List ℕ) → with_spaces ((x ∷ xs) ++ y ∷ []) ≡ with_spaces (x ∷ xs) ++ (32 ∷ y)
with-last [] x y = refl
with-last (z ∷ xs) x y = ap (λ t. x ++ (32 ∷ t)) (with-last xs z y) ∙ sym (append_assoc x (32 ∷ with_spaces (z ∷ xs)) (32 ∷ y))

mean-more : (c : List ℕ) (terms : List ValueTerm) (t : ValueTerm) (vs : List ℕ) (v : ℕ) → MeanValues c terms vs → Means c no_levels t.tree v → MeanValues c (terms ++ t ∷ []) (vs ++ v ∷ [])
mean-more c [] t vs v all own = (v, [], own, refl, ap (λ xs. xs ++ v ∷ []) all)
mean-more c (u ∷ terms) t vs v all own = (all.0, all.1 ++ v ∷ [], all.2, mean-more c terms t all.1 v all.3 own, ap (λ xs. xs ++ v ∷ []) all.4)

pairs-more : (c : List ℕ) (terms : List ValueTerm) (t : ValueTerm) (vs : List ℕ) (v : ℕ) → MeanValues c terms vs →
    map (λ x. value_pair x.0 x.1) (zip (terms ++ t ∷ []) (vs ++ v ∷ [])) ≡ map (λ x. value_pair x.0 x.1) (zip terms vs) ++ value_pair t v ∷ []
pairs-more c [] t vs v all = ap (λ xs. map (λ x. value_pair x.0 x.1) (zip (t ∷ []) (xs ++ v ∷ []))) all
pairs-more c (u ∷ terms) t vs v all =
    ap (λ xs. map (λ x. value_pair x.0 x.1) (zip (u ∷ (terms ++ t ∷ [])) (xs ++ v ∷ []))) all.4
    ∙ ap (λ xs. value_pair u all.0 ∷ xs) (pairs-more c terms t all.1 v all.3)
    ∙ ap (λ xs. map (λ x. value_pair x.0 x.1) (zip (u ∷ terms) xs) ++ value_pair t v ∷ []) (sym all.4)

abbrev pairs : List ValueTerm → List ℕ → List (List ℕ)
pairs terms vs = map (λ x. value_pair x.0 x.1) (zip terms vs)

abbrev pub gap-of : List (List ℕ) → List ℕ
gap-of [] = []
gap-of (x ∷ xs) = 32 ∷ []

pub spaced-more : (ps : List (List ℕ)) (y : List ℕ) → ((40 ∷ with_spaces ps) ++ gap-of ps) ++ y ≡ 40 ∷ with_spaces (ps ++ y ∷ [])
spaced-more [] y = refl
spaced-more (x ∷ xs) y = ap (λ t. 40 ∷ t) (append_assoc (with_spaces (x ∷ xs)) (32 ∷ []) y ∙ sym (with-last xs x y))

gap-same : (c : List ℕ) (trees : List Tree) (asked : List Asked) (vs : List ℕ) → MeanValues c (told trees asked) vs → gap asked ≡ gap-of (pairs (told trees asked) vs)
gap-same c trees [] vs m = refl
gap-same c trees (a ∷ asked) vs m = ap (λ xs. gap-of (pairs (told trees (a ∷ asked)) xs)) (sym m.4)

told-more : (trees : List Tree) (asked : List Asked) (a : Asked) → told trees (asked ++ a ∷ []) ≡ told trees asked ++ record { text = a.text.items; tree = tree_at trees a.id } ∷ []
told-more trees [] a = refl
told-more trees (b ∷ asked) a = ap (λ ts. record { text = b.text.items; tree = tree_at trees b.id } ∷ ts) (told-more trees asked a)

pub none-shown : (trees : List Tree) (c text : List ℕ) → text ≡ 40 ∷ [] → AreShown trees c [] text
none-shown trees c text is = record { values = []; mean = refl; shown = is }

pub next-shown : (trees : List Tree) (c : List ℕ) (asked : List Asked) (a : Asked) (text mid new : List ℕ) → AreShown trees c asked text → mid ≡ text ++ gap asked → IsPair trees c a mid new → AreShown trees c (asked ++ a ∷ []) new
next-shown trees c asked a text mid new h mid-is p =
    let t : ValueTerm = record { text = a.text.items; tree = tree_at trees a.id } in
    let y = value_pair t p.value in
    let terms = told trees asked in
    let same = told-more trees asked a in
    record {
      values = h.values ++ p.value ∷ [];
      mean = subst (λ ts. MeanValues c ts (h.values ++ p.value ∷ [])) (sym same) (mean-more c terms t h.values p.value h.mean p.means);
      shown =
          p.added ∙ ap (λ m. m ++ y) (mid-is ∙ ap (λ x. x ++ gap asked) h.shown ∙ ap (λ g. (40 ∷ with_spaces (pairs terms h.values)) ++ g) (gap-same c trees asked h.values h.mean))
          ∙ spaced-more (pairs terms h.values) y
          ∙ ap (λ ps. 40 ∷ with_spaces ps) (sym (pairs-more c terms t h.values p.value h.mean))
          ∙ ap (λ ts. 40 ∷ with_spaces (pairs ts (h.values ++ p.value ∷ []))) (sym same);
    }

pub all-shown : (trees : List Tree) (c : List ℕ) (asked : List Asked) (text new : List ℕ) → AreShown trees c asked text → new ≡ text ++ 41 ∷ 10 ∷ [] → ShowsValues c (told trees asked) new
all-shown trees c asked text new h is = (
  h.values,
  h.mean,
  is ∙ ap (λ t. t ++ 41 ∷ 10 ∷ []) h.shown ∙ ap (λ t. 40 ∷ t) (sym (append_assoc (with_spaces (pairs (told trees asked) h.values)) (41 ∷ []) (10 ∷ []))),
)

pub gap-there : (terms : List Asked) (i : ℕ) → i < length terms → gap_at i ≡ gap (take i terms)
gap-there terms zero h = refl
gap-there [] (suc i) h = absurd (omega (arith, h))
gap-there (a ∷ terms) (suc i) h = refl

-- a term with its value is added in five steps
pub pair-added : (old a b c d new text : List ℕ) (s t : Sort) (v : ℕ) → a ≡ old ++ 40 ∷ [] → b ≡ a ++ text → c ≡ b ++ 32 ∷ [] → d ≡ c ++ value_text s v → new ≡ d ++ 41 ∷ [] → t ≡ s →
    new ≡ old ++ (40 ∷ (text ++ (32 ∷ (value_text t v ++ 41 ∷ []))))
pair-added old a b c d new text s t v a-is b-is c-is d-is new-is same =
    new-is ∙ ap (λ x. x ++ 41 ∷ []) (d-is ∙ ap (λ x. x ++ value_text s v) (c-is ∙ ap (λ x. x ++ 32 ∷ []) (b-is ∙ ap (λ x. x ++ text) a-is)))
    ∙ regroup (value_text s v) ∙ ap (λ u. old ++ (40 ∷ (text ++ (32 ∷ (value_text u v ++ 41 ∷ []))))) (sym same)
  where
    regroup : (x : List ℕ) → ((((old ++ 40 ∷ []) ++ text) ++ 32 ∷ []) ++ x) ++ 41 ∷ [] ≡ old ++ (40 ∷ (text ++ (32 ∷ (x ++ 41 ∷ []))))
    regroup x = simp append_assoc
