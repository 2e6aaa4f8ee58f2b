-- Unit propagation along hints is sound.
use Rattle.std.proofs.Common.{◌≡◌, ℕ, ◌+◌, Bool, true, false, not, cond, ◌&&◌, ◌||◌, List, [], ◌∷◌, map, filter, ℤ, pos, negsuc, refl, sym, ◌∙◌, ap, inl, inr, eqb, ltb}
use Rattle.std.specs.List.{list_any, list_all}
use Rattle.std.proofs.lemmas.Bool.{and_from, and_parts, or_cases, or_parts, or_right, cases_Bool, eqb-true}
use Rattle.qv_cnf.specs.Literal.{Literal, negated}
use Rattle.qv_cnf.specs.Listing.{Numbered, clauses_of, clause_named}
use Rattle.qv_cnf.specs.LratLine.{Addition}
use Rattle.qv_cnf.specs.Refutation.{same_literal, among, open_literals, reading_of, hint_reading, Judgement, Accepted, OutOfOrder, RatAt, FailsAt, LeftOpen, judged_by, judged_from, IsRup, Standing, judged_rup, accepts}
use Rattle.qv_cnf.specs.declared.readings.Reading.{Reading}
use Rattle.qv_cnf.specs.declared.readings.Reading.TheVariants.{Falsified, Forced, Useless}
use Rattle.qv_cnf.specs.Truth.{literal_value, clause_value, IsModel}

-- the negation has the other value
value_of_not : (p x : Bool) → cond (not p) x (not x) ≡ not (cond p x (not x))
value_of_not true true = refl
value_of_not true false = refl
value_of_not false true = refl
value_of_not false false = refl

pub literal_value-negated : (v : ℕ → Bool) (l : Literal) → literal_value v (negated l) ≡ not (literal_value v l)
literal_value-negated v l = value_of_not l.positive (v l.variable)

-- signs that are alike give one value
same_sign : (p q x y : Bool) → cond p q (not q) ≡ true → x ≡ y → cond p x (not x) ≡ cond q y (not y)
same_sign true true x y h e = e
same_sign true false x y h e = cc
same_sign false true x y h e = cc
same_sign false false x y h e = ap not e

pub value_of_same : (v : ℕ → Bool) (a b : Literal) → same_literal a b ≡ true → literal_value v a ≡ literal_value v b
value_of_same v a b h =
    let parts = and_parts (eqb a.variable b.variable) (cond a.positive b.positive (not b.positive)) h in
    same_sign a.positive b.positive (v a.variable) (v b.variable) parts.1 (ap v (eqb-true a.variable b.variable parts.0))

-- a literal of a set of true literals is true
pub value_of_among : (v : ℕ → Bool) (set : List Literal) (l : Literal) → list_all (literal_value v) set ≡ true → among set l ≡ true → literal_value v l ≡ true
value_of_among v [] l h m = cc
value_of_among v (x ∷ xs) l h m =
    let parts = and_parts (literal_value v x) (list_all (literal_value v) xs) h in
    elim (or_cases (same_literal l x) (among xs l) m) [
      | inl e ↦ value_of_same v l x e ∙ parts.0
      | inr e ↦ value_of_among v xs l parts.1 e
    ]

-- a clause is true where its open literals are, since its other literals are false
pub clause_value-open : (v : ℕ → Bool) (set lits : List Literal) → list_all (literal_value v) set ≡ true → clause_value v lits ≡ true → clause_value v (open_literals set lits) ≡ true
clause_value-open v set [] h t = t
clause_value-open v set (l ∷ ls) h t =
    let rest : literal_value v l ≡ true → (among set (negated l)) ≡ true → ⊥ =
    λ e m. let n : not (literal_value v l) ≡ true = sym (literal_value-negated v l) ∙ value_of_among v set (negated l) h m in
    let f : not (literal_value v l) ≡ false = ap not e in cc in
    elim (cases_Bool (among set (negated l))) [
      | inl m ↦ rw (ap not m) (elim (or_cases (literal_value v l) (clause_value v ls) t) [
        | inl e ↦ absurd (rest e m)
        | inr e ↦ clause_value-open v set ls h e
      ])
      | inr m ↦ rw (ap not m) (elim (or_cases (literal_value v l) (clause_value v ls) t) [
        | inl e ↦ ap (λ b. b || clause_value v (open_literals set ls)) e
        | inr e ↦ or_right (literal_value v l) (clause_value v (open_literals set ls)) (clause_value-open v set ls h e)
      ])
    ]

-- a clause whose literals are all one is true where that is
pub value_of_only : (v : ℕ → Bool) (l : Literal) (ls : List Literal) → list_all (same_literal l) ls ≡ true → clause_value v ls ≡ true → literal_value v l ≡ true
value_of_only v l [] s t = cc
value_of_only v l (x ∷ xs) s t =
    let parts = and_parts (same_literal l x) (list_all (same_literal l) xs) s in
    elim (or_cases (literal_value v x) (clause_value v xs) t) [
      | inl e ↦ value_of_same v l x parts.0 ∙ e
      | inr e ↦ value_of_only v l xs parts.1 e
    ]

-- what a reading says of an assignment that makes the set and the clause true
abbrev pub Agrees : (ℕ → Bool) → Reading → Type 0
Agrees v Falsified = ⊥
Agrees v (Forced l) = literal_value v l ≡ true
Agrees v Useless = Unit {0}

reading_agrees : (v : ℕ → Bool) (set lits : List Literal) → clause_value v lits ≡ true → Agrees v (reading_of set lits)
reading_agrees v set [] t = cc
reading_agrees v set (l ∷ ls) t =
    elim (cases_Bool (list_all (same_literal l) ls && not (among set l))) [
      | inl e ↦ rw e (
          let parts = and_parts (list_all (same_literal l) ls) (not (among set l)) e in
          elim (or_cases (literal_value v l) (clause_value v ls) t) [
            | inl own ↦ own
            | inr other ↦ value_of_only v l ls parts.0 other
          ])
      | inr e ↦ rw e tt
    ]

pub hint_agrees : (v : ℕ → Bool) (set : List Literal) (live : List Numbered) (id : ℕ) → list_all (literal_value v) set ≡ true → IsModel v (clauses_of live) → Agrees v (hint_reading set (clause_named id live))
hint_agrees v set [] id h m = tt
hint_agrees v set (c ∷ cs) id h m =
    let parts = and_parts (clause_value v c.lits) (list_all (clause_value v) (clauses_of cs)) m in
    elim (cases_Bool (eqb c.id id)) [
      | inl e ↦ rw e (reading_agrees v set (open_literals set c.lits) (clause_value-open v set c.lits h parts.0))
      | inr e ↦ rw e (hint_agrees v set cs id h parts.1)
    ]

by_reading : (v : ℕ → Bool) (r : Reading) (position : ℕ) (goes_on : Literal → Judgement) → Agrees v r → ((l : Literal) → literal_value v l ≡ true → goes_on l ≡ Accepted → ⊥) → judged_by r (FailsAt position) goes_on ≡ Accepted → ⊥
by_reading v Falsified position goes_on g again a = g
by_reading v (Forced l) position goes_on g again a = again l g a
by_reading v Useless position goes_on g again a = cc

-- no judgement along true literals accepts
pub none_accepted : (v : ℕ → Bool) (live : List Numbered) (hints : List ℤ) (position : ℕ) (set : List Literal) → IsModel v (clauses_of live) → list_all (literal_value v) set ≡ true → judged_from live hints position set ≡ Accepted → ⊥
none_accepted v live [] position set m h a = cc
none_accepted v live (negsuc n ∷ hints) position set m h a = cc
none_accepted v live (pos id ∷ hints) position set m h a =
    let again : (l : Literal) → literal_value v l ≡ true → judged_from live hints (position + 1) (l ∷ set) ≡ Accepted → ⊥ =
    λ l t. none_accepted v live hints (position + 1) (l ∷ set) m (and_from (literal_value v l) (list_all (literal_value v) set) t h) in
    by_reading v (hint_reading set (clause_named id live)) position (λ l. judged_from live hints (position + 1) (l ∷ set)) (hint_agrees v set live id h m) again a

-- the negations of a false clause's literals are true
pub negations_true : (v : ℕ → Bool) (lits : List Literal) → clause_value v lits ≡ false → list_all (literal_value v) (map negated lits) ≡ true
negations_true v [] f = refl
negations_true v (l ∷ ls) f =
    let parts = or_parts (literal_value v l) (clause_value v ls) f in
    and_from (literal_value v (negated l)) (list_all (literal_value v) (map negated ls)) (literal_value-negated v l ∙ ap not parts.0) (negations_true v ls parts.1)

-- a clause that follows is true
pub clause_value-rup : (v : ℕ → Bool) (live : List Numbered) (lits : List Literal) (hints : List ℤ) → IsRup live lits hints → IsModel v (clauses_of live) → clause_value v lits ≡ true
clause_value-rup v live lits hints r m =
    elim (cases_Bool (clause_value v lits)) [
      | inl e ↦ e
      | inr e ↦ absurd (none_accepted v live hints 1 (map negated lits) m (negations_true v lits e) r)
    ]

pub Accepted-from_accepts : (j : Judgement) → accepts j ≡ true → j ≡ Accepted
Accepted-from_accepts Accepted h = refl
Accepted-from_accepts OutOfOrder h = cc
Accepted-from_accepts (RatAt n) h = cc
Accepted-from_accepts (FailsAt n) h = cc
Accepted-from_accepts LeftOpen h = cc

-- an addition that is accepted by unit propagation alone follows by its hints
pub rup_from_accepted : (s : Standing) (id : ℕ) (lits : List Literal) (hints : List ℤ) → judged_rup s (Addition id lits hints) ≡ Accepted → IsRup s.live lits hints
rup_from_accepted s id lits hints h =
    elim (cases_Bool (ltb id s.next)) [
      | inl e ↦ let k : OutOfOrder ≡ Accepted = rw e at h in cc
      | inr e ↦ rw e at h
    ]

-- some of the clauses
pub IsModel-filter : (v : ℕ → Bool) (p : Numbered → Bool) (live : List Numbered) → IsModel v (clauses_of live) → IsModel v (clauses_of (filter p live))
IsModel-filter v p [] m = refl
IsModel-filter v p (c ∷ cs) m =
    let parts = and_parts (clause_value v c.lits) (list_all (clause_value v) (clauses_of cs)) m in
    elim (cases_Bool (p c)) [
      | inl e ↦ rw e (and_from (clause_value v c.lits) (list_all (clause_value v) (clauses_of (filter p cs))) parts.0 (IsModel-filter v p cs parts.1))
      | inr e ↦ rw e (IsModel-filter v p cs parts.1)
    ]
