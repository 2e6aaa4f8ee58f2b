-- The first part of the hints, one hint after the other.
use Rattle.std.proofs.Common.{◌≡◌, ℕ, ◌+◌, ◌<◌, ◌≤◌, true, List, [], ◌∷◌, length, drop, get_or, ℤ, pos, negsuc, None, refl, sym, ◌∙◌, ap, arith}
use Rattle.std.specs.Int.{is_negative}
use Rattle.std.proofs.lemmas.Bool.{ltb-true}
use Rattle.std.proofs.lemmas.List.{at_drop_all, drop_more}
use Rattle.qv_cnf.specs.Literal.{Literal}
use Rattle.qv_cnf.specs.Listing.{Numbered, clause_named}
use Rattle.qv_cnf.specs.Rat.{judged_along, judged_groups, judged_rat}
use Rattle.qv_cnf.specs.Refutation.{FailsAt, Judgement, LeftOpen, RatAt, hint_reading, judged_by, judged_from}
use Rattle.qv_cnf.specs.declared.readings.Reading.{Reading}
use Rattle.qv_cnf.specs.declared.readings.Reading.TheVariants.{Falsified, Forced, Useless}

-- the next hint
next-hint : (hints : List ℤ) (i : ℕ) (hint : ℤ) → i < length hints → hint ≡ get_or hints i hint → drop i hints ≡ hint ∷ drop (i + 1) hints
next-hint hints i hint h is = drop_more hints i hint h ∙ ap (λ (x : ℤ). x ∷ drop (i + 1) hints) (sym is)

-- what a positive hint's clause says, and where that leads
along-reading : (live : List Numbered) (lits : List Literal) (id : ℕ) (hints : List ℤ) (position : ℕ) (set : List Literal) (r : Reading) → r ≡ hint_reading set (clause_named id live) → judged_along live lits (pos id ∷ hints) position set ≡ judged_by r (FailsAt position) (λ l. judged_along live lits hints (position + 1) (l ∷ set))
along-reading live lits id hints position set r is = ap (λ (x : Reading). judged_by x (FailsAt position) (λ l. judged_along live lits hints (position + 1) (l ∷ set))) (sym is)

-- one step on: what is left by this hint, by what it says
pub along-step : (live : List Numbered) (lits : List Literal) (hints : List ℤ) (i id : ℕ) (hint : ℤ) (set : List Literal) (r : Reading) → i < length hints → hint ≡ get_or hints i hint → hint ≡ pos id → r ≡ hint_reading set (clause_named id live)
    → judged_along live lits (drop i hints) (i + 1) set ≡ judged_by r (FailsAt (i + 1)) (λ l. judged_along live lits (drop (i + 1) hints) (i + 1 + 1) (l ∷ set))
along-step live lits hints i id hint set r h is positive reads =
    ap (λ (hs : List ℤ). judged_along live lits hs (i + 1) set) (next-hint hints i hint h is ∙ ap (λ (x : ℤ). x ∷ drop (i + 1) hints) positive)
    ∙ along-reading live lits id (drop (i + 1) hints) (i + 1) set r reads

-- a negative hint ends the part
along-negative : (live : List Numbered) (lits : List Literal) (hint : ℤ) (hints : List ℤ) (position : ℕ) (set : List Literal) → is_negative hint ≡ true → judged_along live lits (hint ∷ hints) position set ≡ judged_rat live lits set (hint ∷ hints) position
along-negative live lits (pos n) hints position set h = absurd (omega (arith, ltb-true n 0 h))
along-negative live lits (negsuc n) hints position set h = refl

pub along-ends : (live : List Numbered) (lits : List Literal) (hints : List ℤ) (i : ℕ) (hint : ℤ) (set : List Literal) → i < length hints → hint ≡ get_or hints i hint → is_negative hint ≡ true → judged_along live lits (drop i hints) (i + 1) set ≡ judged_rat live lits set (drop i hints) (i + 1)
along-ends live lits hints i hint set h is negative =
    let here : drop i hints ≡ hint ∷ drop (i + 1) hints = next-hint hints i hint h is in
    ap (λ (hs : List ℤ). judged_along live lits hs (i + 1) set) here ∙ along-negative live lits hint (drop (i + 1) hints) (i + 1) set negative
    ∙ ap (λ (hs : List ℤ). judged_rat live lits set hs (i + 1)) (sym here)

-- so does the end of the hints
pub along-over : (live : List Numbered) (lits : List Literal) (hints : List ℤ) (i : ℕ) (set : List Literal) → length hints ≤ i → judged_along live lits (drop i hints) (i + 1) set ≡ judged_rat live lits set (drop i hints) (i + 1)
along-over live lits hints i set h =
    at_drop_all (λ (hs : List ℤ). judged_along live lits hs (i + 1) set) hints i h ∙ sym (at_drop_all (λ (hs : List ℤ). judged_rat live lits set hs (i + 1)) hints i h)

-- ---- a clause without literals, or with a first one

pub rat-none : (live : List Numbered) (set : List Literal) (hints : List ℤ) (i : ℕ) → i < length hints → judged_rat live [] set (drop i hints) (i + 1) ≡ RatAt (i + 1)
rat-none live set hints i h = ap (λ (hs : List ℤ). judged_rat live [] set hs (i + 1)) (drop_more hints i (pos 0) h)

pub rat-over : (live : List Numbered) (set : List Literal) (hints : List ℤ) (i : ℕ) → length hints ≤ i → judged_rat live [] set (drop i hints) (i + 1) ≡ LeftOpen
rat-over live set hints i h = at_drop_all (λ (hs : List ℤ). judged_rat live [] set hs (i + 1)) hints i h

pub rat-first : (live : List Numbered) (lits set : List Literal) (pivot : Literal) (hints : List ℤ) (position : ℕ) → 0 < length lits → pivot ≡ get_or lits 0 pivot → judged_groups live pivot set None [] hints position ≡ judged_rat live lits set hints position
rat-first live [] set pivot hints position h is = absurd (omega (arith, h))
rat-first live (l ∷ ls) set pivot hints position h is = ap (λ (p : Literal). judged_groups live p set None [] hints position) is

-- ---- unit propagation alone

by_same : (r : Reading) (fails : Judgement) (f g : Literal → Judgement) → ((l : Literal) → f l ≡ g l) → judged_by r fails f ≡ judged_by r fails g
by_same Falsified fails f g same = refl
by_same (Forced l) fails f g same = same l
by_same Useless fails f g same = refl

-- where there is no first literal, hints judge by it alone
pub along-none : (live : List Numbered) (hints : List ℤ) (position : ℕ) (set : List Literal) → judged_along live [] hints position set ≡ judged_from live hints position set
along-none live [] position set = refl
along-none live (negsuc n ∷ hints) position set = refl
along-none live (pos id ∷ hints) position set =
    by_same (hint_reading set (clause_named id live)) (FailsAt position) (λ l. judged_along live [] hints (position + 1) (l ∷ set)) (λ l. judged_from live hints (position + 1) (l ∷ set)) (λ l. along-none live hints (position + 1) (l ∷ set))
