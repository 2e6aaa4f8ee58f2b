-- Clauses that are given, one after the other.
use Rattle.std.proofs.Common.{◌≡◌, ℕ, ◌+◌, ◌≤◌, false, List, [], ◌∷◌, ◌++◌, map, sym, ap, ◌∙◌}
use Rattle.std.proofs.lemmas.List.{map-append}
use Rattle.qv_cnf.proofs.Living.{next_id-push}
use Rattle.qv_cnf.specs.Listing.{Numbered, next_id}
use Rattle.qv_cnf.specs.Literal.{Literal}
use Rattle.qv_cnf.specs.Refutation.{Standing, standing_at, with_original}

-- the ids of clauses
abbrev pub ids_of : List Numbered → List ℕ
ids_of clauses = map (λ (c : Numbered). c.id) clauses

-- a clause more stands at a list with a clause more
pub with_original-standing_at : (clauses : List Numbered) (id : ℕ) (lits : List Literal) → next_id (ids_of clauses) ≤ id → with_original (standing_at clauses) id lits ≡ standing_at (clauses ++ record { id = id; lits = lits } ∷ [])
with_original-standing_at clauses id lits h =
    let c : Numbered = record { id = id; lits = lits } in
    let next : next_id (ids_of (clauses ++ c ∷ [])) ≡ id + 1 = ap next_id (map-append (λ (x : Numbered). x.id) clauses (c ∷ [])) ∙ next_id-push (ids_of clauses) id h in
    ap (λ (n : ℕ). let s : Standing = record { live = clauses ++ c ∷ []; next = n; refuted = false } in s) (sym next)
