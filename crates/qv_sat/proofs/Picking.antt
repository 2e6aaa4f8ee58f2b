-- Ids that are picked from a list.
use Rattle.std.proofs.Common.{◌≡◌, ◌≢◌, ◌↔◌, ℕ, ◌+◌, ◌<◌, ◌≤◌, Bool, false, not, List, [], ◌∷◌, ◌++◌, length, drop, get_or, Option, Some, None, All, append_assoc, append-nil, refl, sym, ◌∙◌, ap, subst, arith, inl, inr}
use Rattle.std.specs.Prelude.{Any, IsSome, IsTrue}
use Rattle.std.specs.List.{AllByRecursion}
use Rattle.std.proofs.lemmas.Bool.{cases_Bool, cases_lt, lt-ltb, le-ltb, not-true, false≢true}
use Rattle.std.proofs.lemmas.List.{drop_more, drop_all, get_or_default}
use Rattle.std.proofs.lemmas.List.Elements.{All-from_recursion, recursion_from_All}
use Rattle.std.proofs.lemmas.Option.{none-some}
use Rattle.qv_cnf.specs.Listing.{Numbered, Rises, clause_named}
use Rattle.qv_cnf.specs.Literal.{Literal}
use Rattle.qv_cnf.specs.Refutation.{same_literal}
use Rattle.qv_watch.specs.Entries.{Entry, reason_of}
use Rattle.qv_watch.specs.TrailState.{IsTrail, TrailState}
use Rattle.qv_sat.specs.Reducing.{AreIdle, IsIdle, ListsIdle, Picks, rising}
use Rattle.qv_sat.proofs.Deleting.{idle_entries, named_has, none_has}

module _ (P : ℕ → Type 0) (chosen : List ℕ) where
  -- what is picked from the rest, behind those so far, is picked from all
  abbrev pub IsPicked : ℕ → ℕ → List ℕ → Type 0
  IsPicked last i ids = (rest : List ℕ) → Picks P (rising last (drop i chosen)) rest → Picks P (rising 0 chosen) (ids ++ rest)

  -- an id that isn't greater
  pub picked-low : (last i : ℕ) (ids : List ℕ) → i < length chosen → get_or chosen i 0 ≤ last → IsPicked last i ids → IsPicked last (i + 1) ids
  picked-low last i ids within low before rest h =
      let skips : rising last (drop i chosen) ≡ rising last (drop (i + 1) chosen) = ap (rising last) (drop_more chosen i 0 within) ∙ rw (le-ltb last (get_or chosen i 0) low) refl in
      before rest (subst (λ (xs : List ℕ). Picks P xs rest) (sym skips) h)

  -- one that is
  rising-next : (last i : ℕ) → i < length chosen → last < get_or chosen i 0 → rising last (drop i chosen) ≡ get_or chosen i 0 ∷ rising (get_or chosen i 0) (drop (i + 1) chosen)
  rising-next last i within above = ap (rising last) (drop_more chosen i 0 within) ∙ rw (lt-ltb last (get_or chosen i 0) above) refl

  pub picked-one : (last i : ℕ) (ids : List ℕ) → i < length chosen → last < get_or chosen i 0 → P (get_or chosen i 0) → IsPicked last i ids → IsPicked (get_or chosen i 0) (i + 1) (ids ++ get_or chosen i 0 ∷ [])
  picked-one last i ids within above own before rest h =
      let x : ℕ = get_or chosen i 0 in
      subst (λ (xs : List ℕ). Picks P (rising 0 chosen) xs) (sym (append_assoc ids (x ∷ []) rest))
      (before (x ∷ rest) (subst (λ (xs : List ℕ). Picks P xs (x ∷ rest)) (sym (rising-next last i within above)) (inl (own, rest, refl, h))))

  pub picked-not : (last i : ℕ) (ids : List ℕ) → i < length chosen → last < get_or chosen i 0 → (P (get_or chosen i 0) → ⊥) → IsPicked last i ids → IsPicked (get_or chosen i 0) (i + 1) ids
  picked-not last i ids within above other before rest h =
      before rest (subst (λ (xs : List ℕ). Picks P xs rest) (sym (rising-next last i within above)) (inr (other, h)))

  -- where nothing is left
  pub picked-end : (last i : ℕ) (ids : List ℕ) → length chosen ≤ i → IsPicked last i ids → Picks P (rising 0 chosen) ids
  picked-end last i ids all before =
      let none : rising last (drop i chosen) ≡ [] = ap (rising last) (drop_all i chosen all) in
      subst (λ (xs : List ℕ). Picks P (rising 0 chosen) xs) (append-nil ids) (before [] (subst (λ (xs : List ℕ). Picks P xs []) (sym none) refl))

-- of those that are picked it holds
picked-each : (P : ℕ → Type 0) (ids picked : List ℕ) → Picks P ids picked → AllByRecursion P picked
picked-each P [] picked h = subst (AllByRecursion P) (sym h) tt
picked-each P (id ∷ ids) picked (inl own) = subst (AllByRecursion P) (sym own.2) (own.0, picked-each P ids own.1 own.3)
picked-each P (id ∷ ids) picked (inr other) = picked-each P ids picked other.1

Rises-lower : (low high : ℕ) (ids : List ℕ) → low ≤ high → Rises high ids → Rises low ids
Rises-lower low high [] le r = tt
Rises-lower low high (id ∷ ids) le r = (omega (arith, r.0), r.1)

picked-rises : (P : ℕ → Type 0) (low : ℕ) (ids picked : List ℕ) → Rises low ids → Picks P ids picked → Rises low picked
picked-rises P low [] picked r h = subst (Rises low) (sym h) tt
picked-rises P low (id ∷ ids) picked r (inl own) = subst (Rises low) (sym own.2) (r.0, picked-rises P (id + 1) ids own.1 r.1 own.3)
picked-rises P low (id ∷ ids) picked r (inr other) = picked-rises P low ids picked (Rises-lower low (id + 1) ids (omega (arith, r.0)) r.1) other.1

rising-rises : (last : ℕ) (ids : List ℕ) → Rises (last + 1) (rising last ids)
rising-rises last [] = tt
rising-rises last (id ∷ ids) = elim (cases_lt last id) [
  | inl above ↦ rw (lt-ltb last id above) (omega arith, rising-rises id ids)
  | inr low ↦ rw (le-ltb last id low) (rising-rises last ids)
]

-- those that are listed are idle, and rise
pub listed-idle : (base : List Numbered) (t : TrailState) (chosen ids : List ℕ) → ListsIdle base t chosen ids → AreIdle base t ids
listed-idle base t chosen ids h = record {
  each = All-from_recursion (IsIdle base t) ids (picked-each (IsIdle base t) (rising 0 chosen) ids h);
  rises = Rises-lower 0 1 ids (omega arith) (picked-rises (IsIdle base t) 1 (rising 0 chosen) ids (rising-rises 0 chosen) h);
}

-- a clause is idle exactly where none of its literals came from it
reason-none : (es : List Entry) (id : ℕ) (l : Literal) → AllByRecursion (λ e. e.reason ≢ Some id) es → reason_of es l ≢ Some id
reason-none [] id l all h = none-some id h
reason-none (x ∷ xs) id l all h = elim (cases_Bool (same_literal l x.lit)) [
  | inl own ↦ all.0 (rw own at h)
  | inr other ↦ reason-none xs id l all.1 (rw other at h)
]

none-of : (lits : List Literal) (Q : Literal → Type 0) (r : Bool) → (IsTrue r ↔ Any Q lits) → r ≡ false → All (λ l. Q l → ⊥) lits
none-of lits Q r says off k d within own =
    let x : Literal = get_or lits k d in
    false≢true (sym off ∙ says.1 (k, x, within, get_or_default lits k x d within, own))

pub idle-by_reason : (base : List Numbered) (t : TrailState) (id : ℕ) (lits : List Literal) (r : Bool) → IsTrail t → clause_named id t.clauses ≡ Some lits → clause_named id base ≡ None → (IsTrue r ↔ Any (λ l. reason_of t.entries l ≡ Some id) lits) → IsTrue (not r) ↔ IsIdle base t id
idle-by_reason base t id lits r is named none says = (
  λ on. record {
    attached = subst (λ (o : Option (List Literal)). IsSome o) (sym named) refl;
    learnt = none_has id base none;
    no_reason = idle_entries t id lits is named (none-of lits (λ l. reason_of t.entries l ≡ Some id) r says (not-true r on));
  },
  λ i. elim (cases_Bool r) [
    | inl on ↦
        let any = says.0 on in
        absurd (reason-none t.entries id any.1 (recursion_from_All (λ e. e.reason ≢ Some id) t.entries i.no_reason) any.4)
    | inr off ↦ rw off refl
  ],
)

pub idle-not_base : (base : List Numbered) (t : TrailState) (id : ℕ) (lits : List Literal) → clause_named id base ≡ Some lits → IsIdle base t id → ⊥
idle-not_base base t id lits named i =
    let has = named_has id base (subst (λ (o : Option (List Literal)). IsSome o) (sym named) refl) in
    false≢true (sym i.learnt ∙ has)

pub idle-attached : (base : List Numbered) (t : TrailState) (id : ℕ) → clause_named id t.clauses ≡ None → IsIdle base t id → ⊥
idle-attached base t id named i = false≢true (subst (λ (o : Option (List Literal)). IsSome o) named i.attached)
