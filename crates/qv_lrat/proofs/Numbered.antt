-- Clauses under ids, one after the other.
use Rattle.std.proofs.Common.{◌≡◌, ℕ, suc, ◌+◌, ◌<◌, Some, List, [], ◌∷◌, ◌++◌, length, take, slice_get, refl, ap, ◌∙◌, arith}
use Rattle.std.proofs.lemmas.List.{length-take-le, take_more}
use Rattle.std.proofs.lemmas.Option.{get_or_from_slice_get, slice_get_within}
use Rattle.qv_cnf.specs.Literal.{Literal}
use Rattle.qv_cnf.specs.Listing.{Numbered}
use Rattle.qv_cert_formulas.specs.Numbers.{under_ids}

ids-append : (id : ℕ) (before more : List (List Literal)) → under_ids id (before ++ more) ≡ under_ids id before ++ under_ids (id + length before) more
ids-append id [] more =
    let same : id ≡ id + length {A = List Literal} [] = omega arith in
    ap (λ (n : ℕ). under_ids n more) same
ids-append id (lits ∷ before) more =
    let same : suc id + length before ≡ id + length (lits ∷ before) = omega arith in
    ap (λ (cs : List Numbered). record { id = id; lits = lits } ∷ cs)
    (ids-append (suc id) before more ∙ ap (λ (n : ℕ). under_ids (suc id) before ++ under_ids n more) same)

-- one clause more
pub ids-more : (first at id : ℕ) (cs : List (List Literal)) (lits : List Literal) → id ≡ first + at → slice_get cs at ≡ Some lits
    → under_ids first (take (at + 1) cs) ≡ under_ids first (take at cs) ++ record { id = id; lits = lits } ∷ []
ids-more first at id cs lits number found =
    let within : at < length cs = slice_get_within cs at lits found in
    let next : take (at + 1) cs ≡ take at cs ++ lits ∷ [] =
    take_more cs at lits within ∙ ap (λ (x : List Literal). take at cs ++ x ∷ []) (get_or_from_slice_get cs at lits lits found) in
    let long : length (take at cs) ≡ at = length-take-le at cs (omega (arith, within)) in
    let same : first + length (take at cs) ≡ id = omega (arith, long, number) in
    ap (under_ids first) next ∙ ids-append first (take at cs) (lits ∷ []) ∙ ap (λ (n : ℕ). under_ids first (take at cs) ++ under_ids n (lits ∷ [])) same
