-- The attached clauses, found by their ids.
use Rattle.std.proofs.Common.{◌≡◌, ◌≢◌, ℕ, zero, suc, List, [], ◌∷◌, ◌++◌, Some, None, eqb, refl, sym, ap, inl, inr}
use Rattle.std.specs.List.{slice_get}
use Rattle.std.proofs.lemmas.Bool.{ne_eqb, eq-eqb, cases_Bool}
use Rattle.std.proofs.lemmas.Option.{none-some, same_Some}
use Rattle.qv_cnf.specs.Listing.{Numbered, clause_named, without}
use Rattle.qv_cnf.specs.Literal.{Literal}
use Rattle.qv_watch.specs.Attaching.{Stored, with_stored, attached_in, let_go, IsNamed}

-- no two places have a clause of one id
abbrev pub IsOnce : List Stored → Type 0
IsOnce stored = (j k : ℕ) (s t : Stored) (ls ms : List Literal) → slice_get stored j ≡ Some s → slice_get stored k ≡ Some t → s.lits ≡ Some ls → t.lits ≡ Some ms → s.id ≡ t.id → j ≡ k

-- no attached clause has the id
abbrev pub HasNot : ℕ → List Stored → Type 0
HasNot id stored = (k : ℕ) (s : Stored) (lits : List Literal) → slice_get stored k ≡ Some s → s.lits ≡ Some lits → s.id ≢ id

once_later : (x : Stored) (xs : List Stored) → IsOnce (x ∷ xs) → IsOnce xs
once_later x xs once j k s t ls ms here there live also same = let e : suc j ≡ suc k = once (suc j) (suc k) s t ls ms here there live also same in cc

-- a clause that stands later has another id
others : (x : Stored) (xs : List Stored) (lits : List Literal) → IsOnce (x ∷ xs) → x.lits ≡ Some lits → HasNot x.id xs
others x xs lits once live k s more here also same = let e : 0 ≡ suc k = once 0 (suc k) x s lits more refl here live also (sym same) in cc

pub clause_named-absent : (id : ℕ) (stored : List Stored) → HasNot id stored → clause_named id (attached_in stored) ≡ None
clause_named-absent id [] h = refl
clause_named-absent id (x ∷ xs) h =
    let rest : clause_named id (attached_in xs) ≡ None = clause_named-absent id xs (λ k s lits here live. h (suc k) s lits here live) in
    elim (x.lits) as (λ o. x.lits ≡ o → clause_named id (with_stored x.id o (attached_in xs)) ≡ None) [
      | None ↦ λ _. rest
      | Some lits ↦ λ live. rw (ne_eqb x.id id (h 0 x lits refl live)) rest
    ] refl

-- each attached clause is the one of its id
pub are_named : (stored : List Stored) → IsOnce stored → IsNamed stored
are_named [] once k s lits here live = absurd (none-some s here)
are_named (x ∷ xs) once zero s lits here live =
    let same : x ≡ s = same_Some x s here in
    rw (sym same, rw (sym same) at live, eq-eqb x.id x.id refl) refl
are_named (x ∷ xs) once (suc k) s lits here live =
    let rest = are_named xs (once_later x xs once) k s lits here live in
    elim (x.lits) as (λ o. x.lits ≡ o → clause_named s.id (with_stored x.id o (attached_in xs)) ≡ Some lits) [
      | None ↦ λ _. rest
      | Some first ↦ λ there. rw (ne_eqb x.id s.id (λ same. others x xs first once there k s lits here live (sym same))) rest
    ] refl

-- one more clause
pub attached_in-push : (stored : List Stored) (id : ℕ) (lits : List Literal) → attached_in (stored ++ record { id = id; lits = Some lits } ∷ []) ≡ attached_in stored ++ record { id = id; lits = lits } ∷ []
attached_in-push [] id lits = refl
attached_in-push (x ∷ xs) id lits =
    let rest : attached_in (xs ++ record { id = id; lits = Some lits } ∷ []) ≡ attached_in xs ++ record { id = id; lits = lits } ∷ [] = attached_in-push xs id lits in
    elim (x.lits) as (λ o. with_stored x.id o (attached_in (xs ++ record { id = id; lits = Some lits } ∷ [])) ≡ with_stored x.id o (attached_in xs) ++ record { id = id; lits = lits } ∷ []) [
      | None ↦ rest
      | Some first ↦ let own : Numbered = record { id = x.id; lits = first } in ap (λ (cs : List Numbered). own ∷ cs) rest
    ]

-- the clauses of an id go
pub attached_in-let_go : (id : ℕ) (stored : List Stored) → attached_in (let_go id stored) ≡ without (id ∷ []) (attached_in stored)
attached_in-let_go id [] = refl
attached_in-let_go id (x ∷ xs) =
    let rest : attached_in (let_go id xs) ≡ without (id ∷ []) (attached_in xs) = attached_in-let_go id xs in
    elim (cases_Bool (eqb x.id id)) [
      | inl t ↦ rw t (elim (x.lits) as (λ o. attached_in (let_go id xs) ≡ without (id ∷ []) (with_stored x.id o (attached_in xs))) [
        | None ↦ rest
        | Some lits ↦ rw t rest
      ])
      | inr f ↦ rw f (elim (x.lits) as (λ o. with_stored x.id o (attached_in (let_go id xs)) ≡ without (id ∷ []) (with_stored x.id o (attached_in xs))) [
        | None ↦ rest
        | Some lits ↦ let own : Numbered = record { id = x.id; lits = lits } in rw f (ap (λ (cs : List Numbered). own ∷ cs) rest)
      ])
    ]
