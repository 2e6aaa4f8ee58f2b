-- Models, the values of terms and cores as they are printed.
use Rattle.std.specs.Prelude.{◌≡◌, ℕ, List, [], ◌∷◌, ◌++◌, filter, map, zip, flat_map, codes}
use Rattle.qv_words.specs.declared.sort.Sort.{Sort}
use Rattle.qv_words.specs.Sorted.{no_levels}
use Rattle.qv_words.specs.Meaning.{Means}
use Rattle.qv_elab_defs.specs.Applying.{sort_of}
use Rattle.qv_elab_defs.specs.Scopes.{Named}
use Rattle.qv_script_values.specs.ValueText.{value_text}
use Rattle.qv_script_values.specs.SymbolText.{definition_text}
use Rattle.qv_core.specs.Without.{is_among}
use Rattle.qv_script_defs.specs.Texts.{line}
use Rattle.qv_script_defs.specs.Moves.{ValueTerm}

-- each constant with its value
abbrev pub model_text : Named Sort → List ℕ → List ℕ
model_text constants values = line (codes "(") ++ (flat_map (λ x. definition_text x.0.0 x.0.1 x.1) (zip constants values) ++ line (codes ")"))

-- (t v)
abbrev pub value_pair : ValueTerm → ℕ → List ℕ
value_pair t v = codes "(" ++ (t.text ++ (codes " " ++ (value_text (sort_of t.tree) v ++ codes ")")))

-- texts with a space between neighbours
abbrev pub with_spaces : List (List ℕ) → List ℕ
with_spaces [] = []
with_spaces (x ∷ []) = x
with_spaces (x ∷ xs) = x ++ (codes " " ++ with_spaces xs)

-- ((t v) (t v) ..)
abbrev pub values_text : List ValueTerm → List ℕ → List ℕ
values_text terms vs = line (codes "(" ++ (with_spaces (map (λ x. value_pair x.0 x.1) (zip terms vs)) ++ codes ")"))

-- under the constants' values the terms mean these
abbrev pub MeanValues : List ℕ → List ValueTerm → List ℕ → Type 0
MeanValues c [] vs = vs ≡ []
MeanValues c (t ∷ ts) vs = (v : ℕ) × (rest : List ℕ) × Means c no_levels t.tree v × MeanValues c ts rest × (vs ≡ v ∷ rest)

-- the text has the terms with what they mean
abbrev pub ShowsValues : List ℕ → List ValueTerm → List ℕ → Type 0
ShowsValues c terms text = (vs : List ℕ) × MeanValues c terms vs × (text ≡ values_text terms vs)

-- the texts that have these places
abbrev pub texts_at : (kept : List ℕ) → Named ℕ → List (List ℕ)
texts_at kept texts = map (λ x. x.0) (filter (λ x. is_among kept x.1) texts)

-- (p q ..)
abbrev pub core_text : (kept : List ℕ) → Named ℕ → List ℕ
core_text kept texts = line (codes "(" ++ (with_spaces (texts_at kept texts) ++ codes ")"))
