-- Lists in which ids name the same clauses.
use Rattle.std.proofs.Common.{◌≡◌, ◌⊎◌, ℕ, Bool, true, false, cond, ◌||◌, List, [], ◌∷◌, ◌++◌, map, filter, ℤ, Option, Some, None, refl, sym, ◌∙◌, ap, inl, inr, eqb}
use Rattle.std.specs.List.{list_any, list_all}
use Rattle.std.proofs.lemmas.Bool.{and_parts, or_cases, or_parts, or_right, cases_Bool, eqb-true}
use Rattle.std.proofs.lemmas.List.Folds.{list_any-append}
use Rattle.qv_cnf.specs.Derivation.{has_id}
use Rattle.qv_cnf.specs.Listing.{Numbered, clause_named, without}
use Rattle.qv_cnf.specs.Literal.{Literal, negated}
use Rattle.qv_sat.proofs.Steps.{each_same, judged_named}
use Rattle.qv_cnf.specs.Refutation.{judged_clause}

-- two lists in which each id names the same clause
abbrev pub NamesAlike : List Numbered → List Numbered → Type 0
NamesAlike xs ys = (id : ℕ) → clause_named id xs ≡ clause_named id ys

-- the first that is there
abbrev pub either : Option (List Literal) → Option (List Literal) → Option (List Literal)
either None other = other
either (Some lits) other = Some lits

-- an id names a clause of the first list, or else one of the second
pub clause_named-append : (id : ℕ) (xs ys : List Numbered) → clause_named id (xs ++ ys) ≡ either (clause_named id xs) (clause_named id ys)
clause_named-append id [] ys = refl
clause_named-append id (x ∷ xs) ys =
    elim (cases_Bool (eqb x.id id)) [
      | inl e ↦ rw e refl
      | inr e ↦ rw e (clause_named-append id xs ys)
    ]

-- where one of the latter two is absent, their order doesn't matter
pub either_swap : (a b c : Option (List Literal)) → (b ≡ None) ⊎ (c ≡ None) → either (either a b) c ≡ either (either a c) b
either_swap (Some x) b c h = refl
either_swap None None None h = refl
either_swap None None (Some z) h = refl
either_swap None (Some y) None h = refl
either_swap None (Some y) (Some z) h = elim h [
  | inl e ↦ cc
  | inr e ↦ cc
]

pub clause_named-three : (id : ℕ) (xs ys zs : List Numbered) → clause_named id ((xs ++ ys) ++ zs) ≡ either (either (clause_named id xs) (clause_named id ys)) (clause_named id zs)
clause_named-three id xs ys zs = clause_named-append id (xs ++ ys) zs ∙ ap (λ o. either o (clause_named id zs)) (clause_named-append id xs ys)

-- an id that no clause has names none
pub clause_named-absent : (id : ℕ) (xs : List Numbered) → has_id xs id ≡ false → clause_named id xs ≡ None
clause_named-absent id [] h = refl
clause_named-absent id (x ∷ xs) h =
    let parts = or_parts (eqb x.id id) (has_id xs id) h in
    rw parts.0 (clause_named-absent id xs parts.1)

-- the clauses of some ids are taken away
pub clause_named-without : (id : ℕ) (ids : List ℕ) (xs : List Numbered) → clause_named id (without ids xs) ≡ cond (list_any (λ i. eqb id i) ids) None (clause_named id xs)
clause_named-without id ids [] =
    elim (cases_Bool (list_any (λ i. eqb id i) ids)) [
      | inl e ↦ rw e refl
      | inr e ↦ rw e refl
    ]
clause_named-without id ids (x ∷ xs) =
    elim (cases_Bool (eqb x.id id)) [
      | inl e ↦
          let same : x.id ≡ id = eqb-true x.id id e in
          elim (cases_Bool (list_any (λ i. eqb id i) ids)) [
            | inl gone ↦
                let own : list_any (λ i. eqb x.id i) ids ≡ true = ap (λ n. list_any (λ i. eqb n i) ids) same ∙ gone in
                rw own (clause_named-without id ids xs ∙ rw gone refl)
            | inr kept ↦
                let own : list_any (λ i. eqb x.id i) ids ≡ false = ap (λ n. list_any (λ i. eqb n i) ids) same ∙ kept in
                rw own (rw e (rw kept refl))
          ]
      | inr e ↦ elim (cases_Bool (list_any (λ i. eqb x.id i) ids)) [
        | inl own ↦ rw own (rw e (clause_named-without id ids xs))
        | inr own ↦ rw own (rw e (clause_named-without id ids xs))
      ]
    ]

-- a clause is judged by what the ids name
pub judged_clause-same : (xs ys : List Numbered) (lits : List Literal) (hints : List ℤ) → NamesAlike xs ys → judged_clause xs lits hints ≡ judged_clause ys lits hints
judged_clause-same xs ys lits hints h = judged_named xs ys hints (each_same xs ys h hints) 1 (map negated lits)

-- an id that a filter leaves was there
pub has_id-filter : (p : Numbered → Bool) (xs : List Numbered) (id : ℕ) → has_id (filter p xs) id ≡ true → has_id xs id ≡ true
has_id-filter p [] id h = h
has_id-filter p (x ∷ xs) id h =
    elim (cases_Bool (p x)) [
      | inl e ↦
          let kept : eqb x.id id || has_id (filter p xs) id ≡ true = rw e at h in
          elim (or_cases (eqb x.id id) (has_id (filter p xs) id) kept) [
            | inl here ↦ rw here refl
            | inr later ↦ or_right (eqb x.id id) (has_id xs id) (has_id-filter p xs id later)
          ]
      | inr e ↦
          let left : has_id (filter p xs) id ≡ true = rw e at h in
          or_right (eqb x.id id) (has_id xs id) (has_id-filter p xs id left)
    ]

-- an id of the list that is among ids, all of which are a list's, is the list's
pub has_id-among : (xs : List Numbered) (ids : List ℕ) (id : ℕ) → list_all (has_id xs) ids ≡ true → list_any (λ i. eqb id i) ids ≡ true → has_id xs id ≡ true
has_id-among xs [] id h k = cc
has_id-among xs (i ∷ is) id h k =
    let parts = and_parts (has_id xs i) (list_all (has_id xs) is) h in
    elim (or_cases (eqb id i) (list_any (λ i. eqb id i) is) k) [
      | inl e ↦ rw (eqb-true id i e) parts.0
      | inr e ↦ has_id-among xs is id parts.1 e
    ]

-- an id is in a list with one more clause where it is that clause's or was there
pub has_id-push : (cs : List Numbered) (c : Numbered) (id : ℕ) → has_id (cs ++ c ∷ []) id ≡ true → (has_id cs id ≡ true) ⊎ (c.id ≡ id)
has_id-push cs c id h =
    let either_way : has_id cs id || (eqb c.id id || false) ≡ true = sym (list_any-append (λ c. eqb c.id id) cs (c ∷ [])) ∙ h in
    elim (or_cases (has_id cs id) (eqb c.id id || false) either_way) [
      | inl e ↦ inl e
      | inr e ↦ elim (or_cases (eqb c.id id) false e) [
        | inl same ↦ inr (eqb-true c.id id same)
        | inr never ↦ cc
      ]
    ]
