-- Which variables are in the lists of a file.
use Rattle.std.proofs.Common.{◌≡◌, ℕ, Bool, true, false, eqb, ltb, not, ◌&&◌, ◌||◌, inl, inr, List, [], ◌∷◌, ◌++◌, refl, sym, ap, ◌∙◌}
use Rattle.std.proofs.lemmas.Bool.{cases_Bool, eqb-true, and_right, or_cases}
use Rattle.std.proofs.lemmas.List.Folds.{list_any-append}
use Rattle.std.specs.Ordering.{nat_cmp}
use Rattle.std.specs.BTreeSet.{insert_key}
use Rattle.qv_cnf.specs.Literal.{Literal}
use Rattle.qv_qdimacs.specs.declared.files.Quantified.{Quantified}
use Rattle.qv_qdimacs.specs.Outer.{is_in, is_existential, leading, rest_of, variables_of, occurring, left_by, put_among, free_of, outer_of}

or-false : (a : Bool) → a ≡ (a || false)
or-false true = refl
or-false false = refl

or-twice : (a b : Bool) → (a || b) ≡ (a || (a || b))
or-twice true b = refl
or-twice false b = refl

or-swap : (a b c : Bool) → (a || (b || c)) ≡ (b || (a || c))
or-swap true true c = refl
or-swap true false c = refl
or-swap false b c = refl

or-turn : (a b c : Bool) → ((a || b) || c) ≡ (b || (a || c))
or-turn true true c = refl
or-turn true false c = refl
or-turn false b c = refl

-- neither of two
pub neither : (a b : Bool) → (a || b) ≡ false → (a ≡ false) × (b ≡ false)
neither true b h = absurd (cc)
neither false b h = (refl, h)

pub or-right : (a b : Bool) → b ≡ true → (a || b) ≡ true
or-right true b h = refl
or-right false b h = h

pub or-left : (a b : Bool) → a ≡ true → (a || b) ≡ true
or-left true b h = refl
or-left false b h = absurd (cc)

-- a variable that the test takes away
taken : (test : ℕ → Bool) (v w : ℕ) (vs : List ℕ) → test w ≡ true → (is_in v vs && not (test v)) ≡ ((eqb v w || is_in v vs) && not (test v))
taken test v w vs t =
    elim (cases_Bool (eqb v w)) [
      | inl e ↦
          let fails : not (test v) ≡ false = ap not (ap test (eqb-true v w e) ∙ t) in
          and_right (is_in v vs) (not (test v)) fails ∙ sym (and_right (eqb v w || is_in v vs) (not (test v)) fails)
      | inr e ↦ rw e refl
    ]

pub is_in-left : (test : ℕ → Bool) (v : ℕ) (vs : List ℕ) → is_in v (left_by test vs) ≡ (is_in v vs && not (test v))
is_in-left test v [] = refl
is_in-left test v (w ∷ vs) =
    elim (cases_Bool (test w)) [
      | inl t ↦ rw t (is_in-left test v vs ∙ taken test v w vs t)
      | inr t ↦ rw t (elim (cases_Bool (eqb v w)) [
        | inl e ↦
            let tested : test v ≡ false = ap test (eqb-true v w e) ∙ t in
            rw (e, tested) refl
        | inr e ↦ rw e (is_in-left test v vs)
      ])
    ]

is_in-insert : (v k : ℕ) (ks : List ℕ) → is_in v (insert_key nat_cmp ks k) ≡ (eqb v k || is_in v ks)
is_in-insert v k [] = refl
is_in-insert v k (x ∷ xs) =
    elim (cases_Bool (ltb k x)) [
      | inl less ↦ rw less refl
      | inr more ↦ rw more (elim (cases_Bool (eqb k x)) [
        | inl e ↦ rw e (or-twice (eqb v x) (is_in v xs) ∙ ap (λ (w : ℕ). eqb v w || (eqb v x || is_in v xs)) (sym (eqb-true k x e)))
        | inr e ↦ rw e (ap (λ b. eqb v x || b) (is_in-insert v k xs) ∙ or-swap (eqb v x) (eqb v k) (is_in v xs))
      ])
    ]

is_in-put : (v : ℕ) (others vs : List ℕ) → is_in v (put_among others vs) ≡ (is_in v others || is_in v vs)
is_in-put v others [] = or-false (is_in v others)
is_in-put v others (w ∷ vs) =
    is_in-put v (insert_key nat_cmp others w) vs
    ∙ ap (λ b. b || is_in v vs) (is_in-insert v w others)
    ∙ or-turn (eqb v w) (is_in v others) (is_in v vs)

pub is_in-free : (v : ℕ) (prefix : List Quantified) (clauses : List (List Literal)) → is_in v (free_of prefix clauses) ≡ (is_in v (occurring clauses) && not (is_in v (variables_of prefix)))
is_in-free v prefix clauses =
    is_in-put v [] (left_by (λ w. is_in w (variables_of prefix)) (occurring clauses)) ∙ is_in-left (λ w. is_in w (variables_of prefix)) v (occurring clauses)

-- a prefix is its leading variables and its rest
pub prefix-parts : (prefix : List Quantified) → variables_of prefix ≡ leading prefix ++ variables_of (rest_of prefix)
prefix-parts [] = refl
prefix-parts (q ∷ prefix) =
    elim (cases_Bool (is_existential q.quant)) [
      | inl e ↦ rw e (ap (λ (vs : List ℕ). q.variable ∷ vs) (prefix-parts prefix))
      | inr e ↦ rw e refl
    ]

pub is_in-parts : (v : ℕ) (prefix : List Quantified) → is_in v (variables_of prefix) ≡ (is_in v (leading prefix) || is_in v (variables_of (rest_of prefix)))
is_in-parts v prefix = ap (is_in v) (prefix-parts prefix) ∙ list_any-append (eqb v) (leading prefix) (variables_of (rest_of prefix))

pub is_in-outer : (v : ℕ) (prefix : List Quantified) (clauses : List (List Literal)) → is_in v (outer_of prefix clauses) ≡ (is_in v (free_of prefix clauses) || is_in v (leading prefix))
is_in-outer v prefix clauses = list_any-append (eqb v) (free_of prefix clauses) (leading prefix)

-- each variable of the clauses is an outer one, or quantified behind those
pub covered : (v : ℕ) (prefix : List Quantified) (clauses : List (List Literal)) → is_in v (occurring clauses) ≡ true → (is_in v (outer_of prefix clauses) || is_in v (variables_of (rest_of prefix))) ≡ true
covered v prefix clauses occurs =
    let outer = is_in-outer v prefix clauses in
    elim (cases_Bool (is_in v (variables_of prefix))) [
      | inr none ↦
          let free : is_in v (free_of prefix clauses) ≡ true = is_in-free v prefix clauses ∙ rw (occurs, none) refl in
          or-left (is_in v (outer_of prefix clauses)) (is_in v (variables_of (rest_of prefix))) (outer ∙ or-left (is_in v (free_of prefix clauses)) (is_in v (leading prefix)) free)
      | inl some ↦ elim (or_cases (is_in v (leading prefix)) (is_in v (variables_of (rest_of prefix))) (sym (is_in-parts v prefix) ∙ some)) [
        | inl e ↦ or-left (is_in v (outer_of prefix clauses)) (is_in v (variables_of (rest_of prefix))) (outer ∙ or-right (is_in v (free_of prefix clauses)) (is_in v (leading prefix)) e)
        | inr e ↦ or-right (is_in v (outer_of prefix clauses)) (is_in v (variables_of (rest_of prefix))) e
      ]
    ]
