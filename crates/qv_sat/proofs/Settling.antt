-- Hints on a trail where no clause is unit or false.
use Rattle.std.proofs.Common.{◌≡◌, ℕ, ◌+◌, true, false, not, ◌&&◌, List, [], ◌∷◌, ℤ, pos, negsuc, None, Some, refl, sym, ◌∙◌, ap, inl, inr}
use Rattle.std.specs.List.{list_all}
use Rattle.std.proofs.lemmas.Bool.{cases_Bool, and_parts, or_cases}
use Rattle.qv_cnf.specs.Listing.{Numbered, clause_named}
use Rattle.qv_cnf.specs.Literal.{Literal, negated}
use Rattle.qv_cnf.specs.Refutation.{Accepted, FailsAt, Judgement, among, hint_reading, judged_by, judged_from, open_literals, reading_of, same_literal, IsRup}
use Rattle.qv_cnf.specs.declared.readings.Reading.{Reading}
use Rattle.qv_cnf.specs.declared.readings.Reading.TheVariants.{Falsified, Forced, Useless}
use Rattle.qv_watch.specs.Entries.{Entry, trues, IsSettled}
use Rattle.qv_watch.proofs.Entering.{same_literal-true}

-- each literal of the first set is in the second
abbrev IsWithin : List Literal → List Literal → Type 0
IsWithin small large = (l : Literal) → among small l ≡ true → among large l ≡ true

-- literals that are open for the larger set are so for the smaller one
open_twice : (small large lits : List Literal) → IsWithin small large → open_literals large (open_literals small lits) ≡ open_literals large lits
open_twice small large [] h = refl
open_twice small large (l ∷ ls) h = elim (cases_Bool (among small (negated l))) [
  | inl t ↦ rw (t, h (negated l) t) (open_twice small large ls h)
  | inr f ↦ rw f (elim (cases_Bool (among large (negated l))) [
    | inl t ↦ rw t (open_twice small large ls h)
    | inr o ↦ rw o (ap (λ xs. l ∷ xs) (open_twice small large ls h))
  ])
]

-- literals that are all one are open together
drops_all : (set : List Literal) (l : Literal) (ls : List Literal) → list_all (same_literal l) ls ≡ true → among set (negated l) ≡ true → open_literals set ls ≡ []
drops_all set l [] same t = refl
drops_all set l (x ∷ xs) same t =
    let parts = and_parts (same_literal l x) (list_all (same_literal l) xs) same in
    let tx : among set (negated x) ≡ true = ap (λ y. among set (negated y)) (sym (same_literal-true l x parts.0)) ∙ t in
    rw tx (drops_all set l xs parts.1 t)

keeps_all : (set : List Literal) (l : Literal) (ls : List Literal) → list_all (same_literal l) ls ≡ true → among set (negated l) ≡ false → open_literals set ls ≡ ls
keeps_all set l [] same f = refl
keeps_all set l (x ∷ xs) same f =
    let parts = and_parts (same_literal l x) (list_all (same_literal l) xs) same in
    let fx : among set (negated x) ≡ false = ap (λ y. among set (negated y)) (sym (same_literal-true l x parts.0)) ∙ f in
    rw fx (ap (λ ys. x ∷ ys) (keeps_all set l xs parts.1 f))

-- what a clause may say for a smaller set: nothing, or it forces what is in the larger one
abbrev StaysIn : List Literal → Reading → Type 0
StaysIn large Falsified = ⊥
StaysIn large (Forced l) = among large l ≡ true
StaysIn large Useless = Unit {0}

forced_in : (large : List Literal) (l : Literal) (ls : List Literal) → list_all (same_literal l) ls ≡ true → reading_of large (open_literals large (l ∷ ls)) ≡ Useless → among large l ≡ true
forced_in large l ls same r = elim (cases_Bool (among large (negated l))) [
  | inl t ↦ absurd (let no : Falsified ≡ Useless = rw (t, drops_all large l ls same t) at r in cc)
  | inr f ↦ elim (cases_Bool (among large l)) [
    | inl t ↦ t
    | inr n ↦ absurd (let no : Forced l ≡ Useless = rw (f, keeps_all large l ls same f, same, n) at r in cc)
  ]
]

reading_stays : (small large ls : List Literal) → reading_of large (open_literals large ls) ≡ Useless → StaysIn large (reading_of small ls)
reading_stays small large [] r = cc
reading_stays small large (l ∷ ls) r = elim (cases_Bool (list_all (same_literal l) ls && not (among small l))) [
  | inl t ↦ rw t (forced_in large l ls (and_parts (list_all (same_literal l) ls) (not (among small l)) t).0 r)
  | inr f ↦ rw f tt
]

hint_stays : (small large : List Literal) (clauses : List Numbered) (id : ℕ) → IsWithin small large → hint_reading large (clause_named id clauses) ≡ Useless → StaysIn large (hint_reading small (clause_named id clauses))
hint_stays small large clauses id h r =
    elim (clause_named id clauses) as (λ o. hint_reading large o ≡ Useless → StaysIn large (hint_reading small o)) [
      | None ↦ λ _. tt
      | Some lits ↦ λ u. reading_stays small large (open_literals small lits) (ap (reading_of large) (open_twice small large lits h) ∙ u)
    ] r

-- the smaller set stays within with a literal of the larger one
IsWithin-one : (small large : List Literal) (l : Literal) → IsWithin small large → among large l ≡ true → IsWithin (l ∷ small) large
IsWithin-one small large l h t m is = elim (or_cases (same_literal m l) (among small m) is) [
  | inl same ↦ ap (among large) (same_literal-true m l same) ∙ t
  | inr old ↦ h m old
]

by_reading : (large : List Literal) (r : Reading) (position : ℕ) (goes_on : Literal → Judgement) → StaysIn large r → ((l : Literal) → among large l ≡ true → goes_on l ≡ Accepted → ⊥) → judged_by r (FailsAt position) goes_on ≡ Accepted → ⊥
by_reading large Falsified position goes_on s again a = s
by_reading large (Forced l) position goes_on s again a = again l s a
by_reading large Useless position goes_on s again a = cc

none_along : (clauses : List Numbered) (es : List Entry) (hints : List ℤ) (position : ℕ) (set : List Literal) → IsSettled clauses es → IsWithin set (trues es) → judged_from clauses hints position set ≡ Accepted → ⊥
none_along clauses es [] position set settled within a = cc
none_along clauses es (negsuc n ∷ hints) position set settled within a = cc
none_along clauses es (pos id ∷ hints) position set settled within a =
    let again : (l : Literal) → among (trues es) l ≡ true → judged_from clauses hints (position + 1) (l ∷ set) ≡ Accepted → ⊥ =
    λ l t. none_along clauses es hints (position + 1) (l ∷ set) settled (IsWithin-one set (trues es) l within t) in
    by_reading (trues es) (hint_reading set (clause_named id clauses)) position (λ l. judged_from clauses hints (position + 1) (l ∷ set)) (hint_stays set (trues es) clauses id within (settled id)) again a

-- there no clause without literals follows
pub settled_without_conflict : (clauses : List Numbered) (es : List Entry) → IsSettled clauses es → (hints : List ℤ) → IsRup clauses [] hints → ⊥
settled_without_conflict clauses es settled hints r = none_along clauses es hints 1 [] settled (λ l t. cc) r
