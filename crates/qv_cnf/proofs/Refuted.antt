-- Clauses that lines refute have no model.
use Rattle.std.proofs.Common.{◌≡◌, ℕ, ◌+◌, Bool, true, false, not, ◌&&◌, ◌||◌, List, [], ◌∷◌, ◌++◌, map, ℤ, refl, sym, ◌∙◌, ap, inl, inr, eqb, ltb}
use Rattle.std.specs.List.{list_any, list_all}
use Rattle.std.proofs.lemmas.Bool.{and_parts, or_cases, cases_Bool}
use Rattle.std.proofs.lemmas.List.{map-append}
use Rattle.std.proofs.lemmas.List.Folds.{list_all-append}
use Rattle.qv_cnf.specs.Literal.{Literal}
use Rattle.qv_cnf.specs.Listing.{Numbered, clauses_of}
use Rattle.qv_cnf.specs.LratLine.{LratLine, Addition, Deletion}
use Rattle.qv_cnf.specs.Rat.{IsRat}
use Rattle.qv_cnf.specs.Refutation.{Accepted, OutOfOrder, Standing, accepts, adds_none, judged_line, judged_rup, after_line, refutes_from}
use Rattle.qv_cnf.specs.Truth.{clause_value, IsModel}
use Rattle.qv_cnf.proofs.Ordered.{IsOrdered, ordered-after_line}
use Rattle.qv_cnf.proofs.RatSoundness.{rat_keeps_models, rup_is_rat}
use Rattle.qv_cnf.proofs.Soundness.{Accepted-from_accepts, IsModel-filter}

-- an accepted addition is shown by its hints
pub rat_from_accepted : (s : Standing) (id : ℕ) (lits : List Literal) (hints : List ℤ) → judged_line s (Addition id lits hints) ≡ Accepted → IsRat s.live lits hints
rat_from_accepted s id lits hints h =
    elim (cases_Bool (ltb id s.next)) [
      | inl e ↦ let k : OutOfOrder ≡ Accepted = rw e at h in cc
      | inr e ↦ rw e at h
    ]

-- what is accepted by unit propagation alone is accepted
pub accepted-from_rup : (s : Standing) (line : LratLine) → judged_rup s line ≡ Accepted → judged_line s line ≡ Accepted
accepted-from_rup s (Addition id lits hints) h =
    elim (cases_Bool (ltb id s.next)) [
      | inl e ↦ absurd (let k : OutOfOrder ≡ Accepted = rw e at h in cc)
      | inr e ↦ rw e (rup_is_rat s.live lits hints (rw e at h))
    ]
accepted-from_rup s (Deletion id ids) h = refl

-- some assignment makes the clauses true
abbrev pub SomeModel : List (List Literal) → Type 0
SomeModel clauses = (v : ℕ → Bool) × IsModel v clauses

-- and the clause that an accepted line adds
pub model-with_addition : (v : ℕ → Bool) (s : Standing) (id : ℕ) (lits : List Literal) (hints : List ℤ) → judged_line s (Addition id lits hints) ≡ Accepted → IsOrdered s → IsModel v (clauses_of s.live) → SomeModel (clauses_of s.live ++ lits ∷ [])
model-with_addition v s id lits hints h o m = rat_keeps_models s.live lits hints o.rises (rat_from_accepted s id lits hints h) v m

-- where the live clauses have a model, so have they after an accepted line
pub model-after_line : (v : ℕ → Bool) (s : Standing) (line : LratLine) → judged_line s line ≡ Accepted → IsOrdered s → IsModel v (clauses_of s.live) → SomeModel (clauses_of (after_line s line).live)
model-after_line v s (Addition id lits hints) h o m =
    let found = model-with_addition v s id lits hints h o m in
    let c : Numbered = record { id = id; lits = lits } in
    (found.0, ap (list_all (clause_value found.0)) (map-append (λ (x : Numbered). x.lits) s.live (c ∷ [])) ∙ found.1)
model-after_line v s (Deletion id ids) h o m = (v, IsModel-filter v (λ c. not (list_any (λ id. eqb c.id id) ids)) s.live m)

-- the last one of true clauses is true
pub last-true : (v : ℕ → Bool) (clauses : List (List Literal)) (lits : List Literal) → IsModel v (clauses ++ lits ∷ []) → clause_value v lits ≡ true
last-true v clauses lits m =
    let both : (list_all (clause_value v) clauses && (clause_value v lits && true)) ≡ true = sym (list_all-append (clause_value v) clauses (lits ∷ [])) ∙ m in
    let parts = and_parts (list_all (clause_value v) clauses) (clause_value v lits && true) both in
    (and_parts (clause_value v lits) true parts.1).0

-- there is no model where a clause without literals is accepted
none_after_none : (v : ℕ → Bool) (s : Standing) (line : LratLine) → judged_line s line ≡ Accepted → adds_none line ≡ true → IsOrdered s → IsModel v (clauses_of s.live) → ⊥
none_after_none v s (Addition id [] hints) h n o m =
    let found = model-with_addition v s id [] hints h o m in
    let t : false ≡ true = last-true found.0 (clauses_of s.live) [] found.1 in cc
none_after_none v s (Addition id (l ∷ ls) hints) h n o m = cc
none_after_none v s (Deletion id ids) h n o m = cc

-- lines that refute leave no model
pub none_refuted : (s : Standing) (lines : List LratLine) → IsOrdered s → refutes_from s lines ≡ true → (v : ℕ → Bool) → IsModel v (clauses_of s.live) → ⊥
none_refuted s [] o h v m = cc
none_refuted s (line ∷ lines) o h v m =
    let parts = and_parts (accepts (judged_line s line)) (adds_none line || refutes_from (after_line s line) lines) h in
    let ok : judged_line s line ≡ Accepted = Accepted-from_accepts (judged_line s line) parts.0 in
    elim (or_cases (adds_none line) (refutes_from (after_line s line) lines) parts.1) [
      | inl e ↦ none_after_none v s line ok e o m
      | inr e ↦
          let found = model-after_line v s line ok o m in
          none_refuted (after_line s line) lines (ordered-after_line s line ok o) e found.0 found.1
    ]
