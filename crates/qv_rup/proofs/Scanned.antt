-- Reading a clause literal by literal.
use Rattle.std.proofs.lemmas.List.{at_drop_all, drop_more}
use Rattle.std.proofs.Common.{◌≡◌, ℕ, ◌+◌, ◌<◌, ◌≤◌, length, drop, get_or, false, cond, Option, Some, None, List, [], ◌∷◌, refl, sym, ◌∙◌, ap, inl, inr}
use Rattle.std.proofs.lemmas.Bool.{cases_Bool}
use Rattle.qv_cnf.specs.Literal.{Literal, negated}
use Rattle.qv_cnf.specs.Refutation.{among, same_literal, reading_of, open_literals}
use Rattle.qv_cnf.specs.declared.readings.Reading.{Reading}
use Rattle.qv_cnf.specs.declared.readings.Reading.TheVariants.{Falsified, Forced, Useless}

-- the reading of the literals that are left, where this one was found open
abbrev pub scan : List Literal → List Literal → Option Literal → Reading
scan set [] None = Falsified
scan set [] (Some x) = cond (among set x) Useless (Forced x)
scan set (l ∷ ls) None = cond (among set (negated l)) (scan set ls None) (scan set ls (Some l))
scan set (l ∷ ls) (Some x) = cond (among set (negated l)) (scan set ls (Some x)) (cond (same_literal x l) (scan set ls (Some x)) Useless)

scan-found : (set ls : List Literal) (x : Literal) → scan set ls (Some x) ≡ reading_of set (x ∷ open_literals set ls)
scan-found set [] x = elim (cases_Bool (among set x)) [ inl e ↦ rw e | inr e ↦ rw e ]
scan-found set (l ∷ ls) x =
    elim (cases_Bool (among set (negated l))) [
      | inl e ↦ rw e (scan-found set ls x)
      | inr e ↦ rw e (elim (cases_Bool (same_literal x l)) [
        | inl s ↦ rw s (scan-found set ls x)
        | inr s ↦ rw s
      ])
    ]

-- the reading of a whole clause
pub scan-all : (set ls : List Literal) → scan set ls None ≡ reading_of set (open_literals set ls)
scan-all set [] = refl
scan-all set (l ∷ ls) =
    elim (cases_Bool (among set (negated l))) [
      | inl e ↦ rw e (scan-all set ls)
      | inr e ↦ rw e (scan-found set ls l)
    ]

-- at the end of the clause
pub scan-end : (set lits : List Literal) (found : Option Literal) (i : ℕ) → length lits ≤ i → scan set (drop i lits) found ≡ scan set lits None → scan set [] found ≡ reading_of set (open_literals set lits)
scan-end set lits found i h e = sym (at_drop_all (λ (ls : List Literal). scan set ls found) lits i h) ∙ e ∙ scan-all set lits

-- at a second open literal
pub scan-second : (set lits : List Literal) (found : Option Literal) (x l : Literal) (i : ℕ) → i < length lits → l ≡ get_or lits i l → found ≡ Some x → among set (negated l) ≡ false → same_literal x l ≡ false → scan set (drop i lits) found ≡ scan set lits None → Useless ≡ reading_of set (open_literals set lits)
scan-second set lits found x l i h at o n s e =
    let here : drop i lits ≡ l ∷ drop (i + 1) lits = drop_more lits i l h ∙ ap (λ (y : Literal). y ∷ drop (i + 1) lits) (sym at) in
    let stuck : scan set (l ∷ drop (i + 1) lits) (Some x) ≡ Useless = rw (n, s) in
    sym stuck ∙ ap (scan set (l ∷ drop (i + 1) lits)) (sym o) ∙ ap (λ (ls : List Literal). scan set ls found) (sym here) ∙ e ∙ scan-all set lits
