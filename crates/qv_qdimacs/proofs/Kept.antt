-- The formula of a file means what the file says.
use Rattle.std.proofs.Common.{◌≡◌, ℕ, ◌+◌, Bool, true, false, eqb, ◌||◌, inl, inr, List, [], ◌∷◌, ◌++◌, length, map, Option, Some, None, refl, sym, ap, ◌∙◌}
use Rattle.std.specs.Prelude.{is_some, ◌↔◌}
use Rattle.std.specs.List.{AllByRecursion}
use Rattle.std.proofs.lemmas.Bool.{cases_Bool, eq-eqb, or_cases}
use Rattle.std.proofs.lemmas.List.Folds.{list_any-append}
use Rattle.std.proofs.lemmas.List.Elements.{All-from_recursion}
use Rattle.qv_cnf.specs.Literal.{Literal}
use Rattle.qv_words.specs.Op.{truth}
use Rattle.qv_words.specs.Tree.{Tree}
use Rattle.qv_words.specs.Sorted.{with_level, no_levels}
use Rattle.qv_words.specs.Meaning.{Means}
use Rattle.qv_words.proofs.Unique.{one_meaning}
use Rattle.qv_qdimacs.specs.declared.files.Quantified.{Quantified}
use Rattle.qv_qdimacs.specs.BooleanMeaning.{value_of, holds_at, makes_true, has_true, satisfies, q_true}
use Rattle.qv_qdimacs.specs.Outer.{is_in, AreOnce, variables_of, rest_of, clause_variables, occurring, outer_of, given, holds_under}
use Rattle.qv_qdimacs.specs.Translation.{leaf_of, literal_tree, clause_tree, matrix_tree, bound_from, formula_of}
use Rattle.qv_qdimacs.specs.Laws.{TranslationKeepsMeaning}
use Rattle.qv_qdimacs.proofs.Values.{IsTruth, truth-same, truth-sign, truth-joined, truth-bound, all_of-all, all_of-any}
use Rattle.qv_qdimacs.proofs.Members.{or-left, or-right, covered}
use Rattle.qv_qdimacs.proofs.Once.{rest-once, outer-apart}
use Rattle.qv_qdimacs.proofs.Levels.{AreSet, set-truth, are_set-more, AreLevels, levels, given-some, outer-set}

-- ---- clauses

-- these variables have values
abbrev HaveValues : List (ℕ × Bool) → List ℕ → Type 0
HaveValues values vs = (v : ℕ) → is_in v vs ≡ true → is_some (value_of values v) ≡ true

front-values : (values : List (ℕ × Bool)) (xs ys : List ℕ) → HaveValues values (xs ++ ys) → HaveValues values xs
front-values values xs ys h v there = h v (list_any-append (eqb v) xs ys ∙ or-left (is_in v xs) (is_in v ys) there)

behind-values : (values : List (ℕ × Bool)) (xs ys : List ℕ) → HaveValues values (xs ++ ys) → HaveValues values ys
behind-values values xs ys h v there = h v (list_any-append (eqb v) xs ys ∙ or-right (is_in v xs) (is_in v ys) there)

module _ (leaf : ℕ → Tree) (c : List ℕ) (e : ℕ → Option ℕ) (level : ℕ) (values : List (ℕ × Bool)) (set : AreSet leaf c e level values) where
  literal-truth : (l : Literal) (o : Option Bool) → value_of values l.variable ≡ o → is_some o ≡ true → IsTruth c e (literal_tree leaf l) (holds_at l.positive o)
  literal-truth l None is some = absurd (cc)
  literal-truth l (Some b) is some = truth-sign c e l.positive (leaf l.variable) b (set-truth c e level (leaf l.variable) b (set l.variable b is))

  literals-truth : (clause : List Literal) → HaveValues values (clause_variables clause) → AllByRecursion (λ l. IsTruth c e (literal_tree leaf l) (makes_true values l)) clause
  literals-truth [] h = tt
  literals-truth (l ∷ clause) h = (
    literal-truth l (value_of values l.variable) refl (h l.variable (or-left (eqb l.variable l.variable) (is_in l.variable (clause_variables clause)) (eq-eqb l.variable l.variable refl))),
    literals-truth clause (behind-values values (l.variable ∷ []) (clause_variables clause) h),
  )

  clause-truth : (clause : List Literal) → HaveValues values (clause_variables clause) → IsTruth c e (clause_tree leaf clause) (has_true values clause)
  clause-truth clause h =
      truth-same c e (clause_tree leaf clause) _ _ (all_of-any (makes_true values) clause)
      (truth-joined c e false (literal_tree leaf) (makes_true values) clause (All-from_recursion (λ l. IsTruth c e (literal_tree leaf l) (makes_true values l)) clause (literals-truth clause h)))

  clauses-truth : (clauses : List (List Literal)) → HaveValues values (occurring clauses) → AllByRecursion (λ clause. IsTruth c e (clause_tree leaf clause) (has_true values clause)) clauses
  clauses-truth [] h = tt
  clauses-truth (clause ∷ clauses) h = (
    clause-truth clause (front-values values (clause_variables clause) (occurring clauses) h),
    clauses-truth clauses (behind-values values (clause_variables clause) (occurring clauses) h),
  )

  matrix-truth : (clauses : List (List Literal)) → HaveValues values (occurring clauses) → IsTruth c e (matrix_tree leaf clauses) (satisfies values clauses)
  matrix-truth clauses h =
      truth-same c e (matrix_tree leaf clauses) _ _ (all_of-all (has_true values) clauses)
      (truth-joined c e true (clause_tree leaf) (has_true values) clauses (All-from_recursion (λ clause. IsTruth c e (clause_tree leaf clause) (has_true values clause)) clauses (clauses-truth clauses h)))

-- ---- the prefix

-- these variables have values, or get some from a prefix
abbrev GetValues : List (ℕ × Bool) → List Quantified → List ℕ → Type 0
GetValues values prefix vs = (v : ℕ) → is_in v vs ≡ true → (is_some (value_of values v) || is_in v (variables_of prefix)) ≡ true

next-values : (values : List (ℕ × Bool)) (q : Quantified) (x : Bool) (prefix : List Quantified) (vs : List ℕ) → GetValues values (q ∷ prefix) vs → GetValues ((q.variable, x) ∷ values) prefix vs
next-values values q x prefix vs h v there =
    elim (cases_Bool (eqb v q.variable)) [
      | inl same ↦ rw same refl
      | inr other ↦ rw other (sym (ap (λ (b : Bool). is_some (value_of values v) || (b || is_in v (variables_of prefix))) other) ∙ h v there)
    ]

no-more : (b : Bool) → (b || false) ≡ true → b ≡ true
no-more true h = refl
no-more false h = h

prefix-truth : (leaf : ℕ → Tree) (c : List ℕ) (clauses : List (List Literal)) (prefix : List Quantified) (e : ℕ → Option ℕ) (level : ℕ) (values : List (ℕ × Bool))
    → AreSet leaf c e level values → AreLevels leaf level prefix → GetValues values prefix (occurring clauses)
    → IsTruth c e (bound_from level prefix (matrix_tree leaf clauses)) (q_true prefix clauses values)
prefix-truth leaf c clauses [] e level values set at h =
    matrix-truth leaf c e level values set clauses (λ v there. no-more (is_some (value_of values v)) (h v there))
prefix-truth leaf c clauses (q ∷ prefix) e level values set at h =
    truth-bound q.quant c e level (bound_from (level + 1) prefix (matrix_tree leaf clauses))
    (q_true prefix clauses ((q.variable, true) ∷ values)) (q_true prefix clauses ((q.variable, false) ∷ values))
    (prefix-truth leaf c clauses prefix (with_level e level 1) (level + 1) ((q.variable, true) ∷ values)
    (are_set-more leaf c e level q.variable true values at.0 set) at.1 (next-values values q true prefix (occurring clauses) h))
    (prefix-truth leaf c clauses prefix (with_level e level 0) (level + 1) ((q.variable, false) ∷ values)
    (are_set-more leaf c e level q.variable false values at.0 set) at.1 (next-values values q false prefix (occurring clauses) h))

-- ---- the file

file-truth : (prefix : List Quantified) (clauses : List (List Literal)) (values : List Bool) → AreOnce (variables_of prefix) → length values ≡ length (outer_of prefix clauses)
    → IsTruth (map truth values) no_levels (formula_of prefix clauses) (holds_under prefix clauses values)
file-truth prefix clauses values once many =
    let outer = outer_of prefix clauses in
    let rest = rest_of prefix in
    prefix-truth (leaf_of outer (variables_of rest)) (map truth values) clauses rest no_levels 0 (given outer values)
    (outer-set outer (variables_of rest) values (outer-apart prefix clauses once))
    (levels outer rest (rest-once prefix once))
    (λ v there. elim (or_cases (is_in v outer) (is_in v (variables_of rest)) (covered v prefix clauses there)) [
      | inl own ↦ or-left (is_some (value_of (given outer values) v)) (is_in v (variables_of rest)) (given-some outer values v many own)
      | inr other ↦ or-right (is_some (value_of (given outer values) v)) (is_in v (variables_of rest)) other
    ])

-- from one truth value to both
said : (c : List ℕ) (t : Tree) (b : Bool) → Means c no_levels t (truth b) → (Means c no_levels t 1 ↔ (b ≡ true)) × (Means c no_levels t 0 ↔ (b ≡ false))
said c t true h = (
  (λ _. refl, λ _. h),
  (λ fails. let same : 1 ≡ 0 = one_meaning t c no_levels 1 0 h fails in absurd (cc), λ no. absurd (cc)),
)
said c t false h = (
  (λ holds. let same : 0 ≡ 1 = one_meaning t c no_levels 0 1 h holds in absurd (cc), λ no. absurd (cc)),
  (λ _. refl, λ _. h),
)

pub kept : TranslationKeepsMeaning
kept prefix clauses values once many =
    let both = said (map truth values) (formula_of prefix clauses) (holds_under prefix clauses values) (file-truth prefix clauses values once many).means in
    record { holds = both.0; fails = both.1 }
