-- Names with ids in a store, and the variables of quantifiers as such.
use Rattle.std.specs.Prelude.{◌≡◌, ℕ, Bool, List, [], ◌∷◌, if◌then◌else◌}
use Rattle.qv_words.specs.declared.sort.Sort.{Sort}
use Rattle.qv_words.specs.Tree.{Tree}
use Rattle.qv_store.specs.Stores.{StandsAt}
use Rattle.qv_elab_defs.specs.Shapes.{Quantifier, Universal, Existential}
use Rattle.qv_elab_defs.specs.Scopes.{Named, with_variables}

-- names with ids of these trees
abbrev pub AreNamedAt : List Tree → Named ℕ → Named Tree → Type 0
AreNamedAt trees [] [] = Unit {0}
AreNamedAt trees (x ∷ xs) (y ∷ ys) = (y.0 ≡ x.0) × StandsAt trees x.1 y.1 × AreNamedAt trees xs ys
AreNamedAt trees _ _ = ⊥

-- the variables of a quantifier, the first of this level, as the newest names; the newest first
abbrev pub AreVariables : List Tree → ℕ → Named Sort → Named ℕ → Type 0
AreVariables trees level xs names = AreNamedAt trees names (with_variables level xs [])

abbrev pub quantifier_of : Bool → Quantifier
quantifier_of is_universal = if is_universal then Universal else Existential
