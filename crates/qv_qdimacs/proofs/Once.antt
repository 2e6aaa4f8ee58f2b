-- Where no variable is quantified twice.
use Rattle.std.proofs.Common.{◌≡◌, ℕ, true, false, eqb, not, ◌||◌, inl, inr, List, [], ◌∷◌, ◌++◌, sym, ap, subst, ◌∙◌}
use Rattle.std.proofs.lemmas.Bool.{eqb-true, and_parts, not-true, or_cases}
use Rattle.std.proofs.lemmas.List.Folds.{list_any-append}
use Rattle.qv_cnf.specs.Literal.{Literal}
use Rattle.qv_qdimacs.specs.declared.files.Quantified.{Quantified}
use Rattle.qv_qdimacs.specs.Outer.{is_in, AreOnce, leading, rest_of, variables_of, occurring, free_of, outer_of}
use Rattle.qv_qdimacs.proofs.Members.{neither, is_in-free, prefix-parts, is_in-parts, is_in-outer}

once-behind : (xs ys : List ℕ) → AreOnce (xs ++ ys) → AreOnce ys
once-behind [] ys h = h
once-behind (x ∷ xs) ys h = once-behind xs ys h.1

once-apart : (xs ys : List ℕ) → AreOnce (xs ++ ys) → (v : ℕ) → is_in v xs ≡ true → is_in v ys ≡ false
once-apart [] ys h v there = absurd (cc)
once-apart (x ∷ xs) ys h v there =
    elim (or_cases (eqb v x) (is_in v xs) there) [
      | inl e ↦
          let none : (is_in x xs || is_in x ys) ≡ false = sym (list_any-append (eqb x) xs ys) ∙ h.0 in
          ap (λ (w : ℕ). is_in w ys) (eqb-true v x e) ∙ (neither (is_in x xs) (is_in x ys) none).1
      | inr e ↦ once-apart xs ys h.1 v e
    ]

pub rest-once : (prefix : List Quantified) → AreOnce (variables_of prefix) → AreOnce (variables_of (rest_of prefix))
rest-once prefix h = once-behind (leading prefix) (variables_of (rest_of prefix)) (subst AreOnce (prefix-parts prefix) h)

-- an outer variable isn't quantified behind them
pub outer-apart : (prefix : List Quantified) (clauses : List (List Literal)) → AreOnce (variables_of prefix) → (v : ℕ) → is_in v (outer_of prefix clauses) ≡ true → is_in v (variables_of (rest_of prefix)) ≡ false
outer-apart prefix clauses once v there =
    elim (or_cases (is_in v (free_of prefix clauses)) (is_in v (leading prefix)) (sym (is_in-outer v prefix clauses) ∙ there)) [
      | inl e ↦
          let both = and_parts (is_in v (occurring clauses)) (not (is_in v (variables_of prefix))) (sym (is_in-free v prefix clauses) ∙ e) in
          let none : is_in v (variables_of prefix) ≡ false = not-true (is_in v (variables_of prefix)) both.1 in
          (neither (is_in v (leading prefix)) (is_in v (variables_of (rest_of prefix))) (sym (is_in-parts v prefix) ∙ none)).1
      | inr e ↦ once-apart (leading prefix) (variables_of (rest_of prefix)) (subst AreOnce (prefix-parts prefix) once) v e
    ]
