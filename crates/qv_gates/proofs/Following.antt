-- Steps that a checker takes, one after the other.
use Rattle.std.proofs.Common.{◌≡◌, ℕ, zero, suc, ◌+◌, ◌≤◌, Bool, true, false, not, ◌&&◌, ◌||◌, List, [], ◌∷◌, ◌++◌, map, ℤ, Some, slice_get, refl, sym, ◌∙◌, ap, subst, inl, inr, ltb, arith}
use Rattle.std.specs.List.{list_all, list_any}
use Rattle.std.specs.Option.{option_map}
use Rattle.std.proofs.lemmas.Bool.{and_from, cases_Bool, ltb-false, or_cases, or_left, or_right}
use Rattle.std.proofs.lemmas.List.{map-append, append-nil, append_assoc}
use Rattle.std.proofs.lemmas.List.Folds.{list_all-append}
use Rattle.std.proofs.lemmas.Option.{slice_get-map}
use Rattle.qv_cnf.specs.Laws.{RupIsTrue}
use Rattle.qv_cnf.specs.Listing.{Numbered, clauses_of, next_id}
use Rattle.qv_cnf.specs.Literal.{Literal, negated}
use Rattle.qv_cnf.specs.LratLine.{LratLine, Addition, Deletion, line_of, lines_of}
use Rattle.qv_cnf.specs.declared.steps.Step.{Step}
use Rattle.qv_cnf.specs.Refutation.{Accepted, OutOfOrder, Standing, accepts, adds_none, after_line, has_none, judged_line, judged_rup, refutes_from, standing_at}
use Rattle.qv_cnf.specs.Truth.{IsModel, clause_value, literal_value}
use Rattle.qv_cnf.proofs.Living.{next_id-push}
use Rattle.qv_cnf.proofs.Refuted.{accepted-from_rup}
use Rattle.qv_cnf.proofs.Soundness.{literal_value-negated, rup_from_accepted}
use Rattle.qv_gates.specs.Checked.{AddsClause, IsAddition, after_lines}
use Rattle.qv_gates.specs.Closing.{Adds, IsAdded, IsEqual, StandsFor, added, variable_of}
use Rattle.qv_gates.specs.Laws.{AddedAreTrue, RefutesBehind}

-- one more line
pub after_lines-push : (s : Standing) (lines : List LratLine) (line : LratLine) → after_lines s (lines ++ line ∷ []) ≡ after_line (after_lines s lines) line
after_lines-push s [] line = refl
after_lines-push s (l ∷ lines) line = after_lines-push (after_line s l) lines line

pub Adds-push : (s : Standing) (lines : List LratLine) (line : LratLine) → Adds s lines → IsAddition line → judged_rup (after_lines s lines) line ≡ Accepted → Adds s (lines ++ line ∷ [])
Adds-push s [] (Addition id lits hints) a i j = (j, tt)
Adds-push s [] (Deletion id ids) a i j = i
Adds-push s (Addition id lits hints ∷ lines) line a i j = (a.0, Adds-push (after_line s (Addition id lits hints)) lines line a.1 i j)
Adds-push s (Deletion id ids ∷ lines) line a i j = absurd a

-- the step at a place adds a clause
pub IsAdded-at : (steps : List Step) (k : ℕ) (step : Step) (lits : List Literal) → slice_get steps k ≡ Some step → AddsClause (line_of step) lits → IsAdded (lines_of steps) lits
IsAdded-at steps k step lits at adds = (k, adds.0, adds.1, slice_get-map line_of steps k ∙ ap (option_map line_of) at ∙ ap (λ line. Some line) adds.2)

-- one more clause that is true
IsModel-more : (v : ℕ → Bool) (live : List Numbered) (c : Numbered) → IsModel v (clauses_of live) → clause_value v c.lits ≡ true → IsModel v (clauses_of (live ++ c ∷ []))
IsModel-more v live c m t =
    rw (map-append, list_all-append (clause_value v) (clauses_of live) (c.lits ∷ []))
    (and_from (list_all (clause_value v) (clauses_of live)) (clause_value v c.lits && true) m (and_from (clause_value v c.lits) true t refl))

-- the clause that an accepted line adds is true
added_holds : RupIsTrue → (v : ℕ → Bool) (s : Standing) (id : ℕ) (lits : List Literal) (hints : List ℤ) → judged_rup s (Addition id lits hints) ≡ Accepted → IsModel v (clauses_of s.live) → clause_value v lits ≡ true
added_holds rup v s id lits hints j m = rup v s.live lits hints (rup_from_accepted s id lits hints j) m

added_from : RupIsTrue → (v : ℕ → Bool) (s : Standing) (lines : List LratLine) → Adds s lines → IsModel v (clauses_of s.live) → IsModel v (clauses_of (s.live ++ added lines))
added_from rup v s [] a m = subst (λ cs. IsModel v (clauses_of cs)) (sym (append-nil s.live)) m
added_from rup v s (Addition id lits hints ∷ lines) a m =
    let c : Numbered = record { id = id; lits = lits } in
    let t : clause_value v lits ≡ true = added_holds rup v s id lits hints a.0 m in
    subst (λ cs. IsModel v (clauses_of cs)) (append_assoc s.live (c ∷ []) (added lines))
    (added_from rup v (after_line s (Addition id lits hints)) lines a.1 (IsModel-more v s.live c m t))
added_from rup v s (Deletion id ids ∷ lines) a m = absurd a

pub AddedAreTrue-from : RupIsTrue → AddedAreTrue
AddedAreTrue-from rup v base steps a m = added_from rup v (standing_at base) steps a m

-- a clause that some line adds is true
one_holds : RupIsTrue → (v : ℕ → Bool) (s : Standing) (lines : List LratLine) (k id : ℕ) (lits : List Literal) (hints : List ℤ) → Adds s lines → IsModel v (clauses_of s.live) → slice_get lines k ≡ Some (Addition id lits hints) → clause_value v lits ≡ true
one_holds rup v s [] k id lits hints a m e = cc
one_holds rup v s (Addition i l h ∷ lines) zero id lits hints a m e =
    let same : lits ≡ l = cc in
    subst (λ x. clause_value v x ≡ true) (sym same) (added_holds rup v s i l h a.0 m)
one_holds rup v s (Addition i l h ∷ lines) (suc k) id lits hints a m e =
    one_holds rup v (after_line s (Addition i l h)) lines k id lits hints a.1 (IsModel-more v s.live (record { id = i; lits = l }) m (added_holds rup v s i l h a.0 m)) e
one_holds rup v s (Deletion i is ∷ lines) k id lits hints a m e = absurd a

-- two values are the same where each implies the other
same_value : (x y : Bool) → (not x || (y || false)) ≡ true → (x || (not y || false)) ≡ true → x ≡ y
same_value true true f b = refl
same_value false false f b = refl
same_value true false f b = cc
same_value false true f b = cc

pub equal_from : RupIsTrue → (base : List Numbered) (steps : List LratLine) (variable : ℕ) (lit : Literal) → Adds (standing_at base) steps → StandsFor steps variable lit → IsEqual base variable lit
equal_from rup base steps variable lit a s v m =
    let forth = s.forth in
    let back = s.back in
    let f : clause_value v (negated (variable_of variable) ∷ lit ∷ []) ≡ true = one_holds rup v (standing_at base) steps forth.0 forth.1 (negated (variable_of variable) ∷ lit ∷ []) forth.2 a m forth.3 in
    let b : clause_value v (variable_of variable ∷ negated lit ∷ []) ≡ true = one_holds rup v (standing_at base) steps back.0 back.1 (variable_of variable ∷ negated lit ∷ []) back.2 a m back.3 in
    let turned : literal_value v (negated lit) ≡ not (literal_value v lit) = literal_value-negated v lit in
    same_value (v variable) (literal_value v lit) f (subst (λ x. (v variable || (x || false)) ≡ true) turned b)

-- a clause without literals among the lines refutes
pub refutes_where : (s : Standing) (lines : List LratLine) → Adds s lines → list_any adds_none lines ≡ true → refutes_from s lines ≡ true
refutes_where s [] a h = cc
refutes_where s (Addition id lits hints ∷ lines) a h =
    let t : accepts (judged_line s (Addition id lits hints)) ≡ true = ap accepts (accepted-from_rup s (Addition id lits hints) a.0) in
    let after = refutes_from (after_line s (Addition id lits hints)) lines in
    elim (or_cases (has_none lits) (list_any adds_none lines) h) [
      | inl e ↦ rw t (or_left (has_none lits) after e)
      | inr e ↦ rw t (or_right (has_none lits) after (refutes_where (after_line s (Addition id lits hints)) lines a.1 e))
    ]
refutes_where s (Deletion id ids ∷ lines) a h = absurd a

or_on : (x y z : Bool) → ((x || y) || z) ≡ (x || (y || z))
or_on true y z = refl
or_on false y z = refl

-- whether it's refuted behind the lines
refuted_after : (s : Standing) (lines : List LratLine) → Adds s lines → (after_lines s lines).refuted ≡ (s.refuted || list_any adds_none lines)
refuted_after s [] a = elim (cases_Bool s.refuted) [ inl e ↦ rw e refl | inr e ↦ rw e refl ]
refuted_after s (Addition id lits hints ∷ lines) a = refuted_after (after_line s (Addition id lits hints)) lines a.1 ∙ or_on s.refuted (has_none lits) (list_any adds_none lines)
refuted_after s (Deletion id ids ∷ lines) a = absurd a

pub refuted_at : (base : List Numbered) (lines : List LratLine) → Adds (standing_at base) lines → (after_lines (standing_at base) lines).refuted ≡ list_any adds_none lines
refuted_at base lines a = refuted_after (standing_at base) lines a

-- an accepted addition has an id that may come
above_from : (s : Standing) (id : ℕ) (lits : List Literal) (hints : List ℤ) → judged_rup s (Addition id lits hints) ≡ Accepted → s.next ≤ id
above_from s id lits hints j = elim (cases_Bool (ltb id s.next)) [
  | inl e ↦ let k : OutOfOrder ≡ Accepted = rw e at j in cc
  | inr e ↦ ltb-false id s.next e
]

-- the live clauses and the next id decide what refutes
same_line : (live : List Numbered) (next : ℕ) (r q : Bool) (line : LratLine) → judged_line (record { live = live; next = next; refuted = r }) line ≡ judged_line (record { live = live; next = next; refuted = q }) line
same_line live next r q (Addition id lits hints) = refl
same_line live next r q (Deletion id ids) = refl

same_refutes : (live : List Numbered) (next : ℕ) (r q : Bool) (lines : List LratLine) → refutes_from (record { live = live; next = next; refuted = r }) lines ≡ refutes_from (record { live = live; next = next; refuted = q }) lines
same_refutes live next r q [] = refl
same_refutes live next r q (Addition id lits hints ∷ lines) =
    ap (λ b. accepts (judged_line (record { live = live; next = next; refuted = q }) (Addition id lits hints)) && (has_none lits || b))
    (same_refutes (live ++ record { id = id; lits = lits } ∷ []) (id + 1) (r || has_none lits) (q || has_none lits) lines)
same_refutes live next r q (Deletion id ids ∷ lines) = ap (λ b. true && (false || b)) (same_refutes _ next r q lines)

-- where lines lead, but for whether it's refuted
leads_to : (s : Standing) (lines : List LratLine) → Adds s lines → s.next ≡ next_id (map (λ c. c.id) s.live) → (more : List LratLine) → refutes_from (standing_at (s.live ++ added lines)) more ≡ true → refutes_from s (lines ++ more) ≡ true
leads_to s [] a n more h =
    let at : refutes_from (standing_at s.live) more ≡ true = subst (λ cs. refutes_from (standing_at cs) more ≡ true) (append-nil s.live) h in
    let here : refutes_from (record { live = s.live; next = s.next; refuted = false }) more ≡ true = subst (λ k. refutes_from (record { live = s.live; next = k; refuted = false }) more ≡ true) (sym n) at in
    same_refutes s.live s.next s.refuted false more ∙ here
leads_to s (Addition id lits hints ∷ lines) a n more h =
    let c : Numbered = record { id = id; lits = lits } in
    let t : accepts (judged_line s (Addition id lits hints)) ≡ true = ap accepts (accepted-from_rup s (Addition id lits hints) a.0) in
    let above : s.next ≤ id = above_from s id lits hints a.0 in
    let next : id + 1 ≡ next_id (map (λ (x : Numbered). x.id) (s.live ++ c ∷ [])) = sym (ap next_id (map-append (λ (x : Numbered). x.id) s.live (c ∷ [])) ∙ next_id-push (map (λ (x : Numbered). x.id) s.live) id (subst (λ k. k ≤ id) n above)) in
    let rest : refutes_from (after_line s (Addition id lits hints)) (lines ++ more) ≡ true = leads_to (after_line s (Addition id lits hints)) lines a.1 next more (subst (λ cs. refutes_from (standing_at cs) more ≡ true) (sym (append_assoc s.live (c ∷ []) (added lines))) h) in
    rw t (or_right (has_none lits) (refutes_from (after_line s (Addition id lits hints)) (lines ++ more)) rest)
leads_to s (Deletion id ids ∷ lines) a n more h = absurd a

pub RefutesBehind-holds : RefutesBehind
RefutesBehind-holds base steps more a h = leads_to (standing_at base) steps a refl more h
