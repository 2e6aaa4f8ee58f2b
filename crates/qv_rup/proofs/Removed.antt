-- Taking clauses away, one after the other.
use Rattle.std.proofs.Common.{◌≡◌, ℕ, false, ◌||◌, List, [], ◌∷◌, ◌++◌, eqb, refl, ap, inl, inr}
use Rattle.std.specs.List.{list_any}
use Rattle.std.proofs.lemmas.Bool.{cases_Bool}
use Rattle.std.proofs.lemmas.List.Folds.{list_any-append}
use Rattle.qv_cnf.specs.Listing.{Numbered, without}

-- no id takes nothing away
pub without-nil : (live : List Numbered) → without [] live ≡ live
without-nil [] = refl
without-nil (c ∷ cs) = ap (λ (rest : List Numbered). c ∷ rest) (without-nil cs)

-- one more id
pub without-push : (ids : List ℕ) (id : ℕ) (live : List Numbered) → without (ids ++ id ∷ []) live ≡ without (id ∷ []) (without ids live)
without-push ids id [] = refl
without-push ids id (c ∷ cs) =
    let split : list_any (λ id. eqb c.id id) (ids ++ id ∷ []) ≡ (list_any (λ id. eqb c.id id) ids || (eqb c.id id || false)) = list_any-append (λ id. eqb c.id id) ids (id ∷ []) in
    elim (cases_Bool (list_any (λ id. eqb c.id id) ids)) [
      | inl e ↦ rw (split, e) (without-push ids id cs)
      | inr e ↦ elim (cases_Bool (eqb c.id id)) [
        | inl s ↦ rw (split, e, s) (without-push ids id cs)
        | inr s ↦ rw (split, e, s) (ap (λ (rest : List Numbered). c ∷ rest) (without-push ids id cs))
      ]
    ]
