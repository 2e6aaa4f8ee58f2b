-- The entries of a trail, found by variable and by literal.
use Rattle.std.proofs.Common.{◌≡◌, ◌≢◌, ℕ, zero, suc, ◌+◌, ◌≤◌, Bool, true, false, not, cond, List, [], ◌∷◌, ◌++◌, length, take, Some, None, eqb, refl, sym, ◌∙◌, ap, subst, arith, inl, inr, ◌⊎◌, ◌||◌}
use mathlib.Core.Bool.{beq}
use Rattle.std.specs.Prelude.{if◌then◌else◌, IsSome}
use Rattle.std.specs.List.{fold}
use Rattle.std.proofs.lemmas.Bool.{ne_eqb, eq-eqb, eqb-true, cases_Bool, and_parts, and_left, and_from, or_left, or_right, or_from, cases_eq}
use Rattle.std.proofs.lemmas.Grind.{fold-append}
use Rattle.qv_cnf.specs.Literal.{Literal, negated}
use Rattle.qv_cnf.specs.Refutation.{among, same_literal}
use Rattle.qv_watch.specs.Entries.{Entry, trues, value_of, entry_at, reason_of, last_level}
use Rattle.std.specs.Option.{option_map}
use Rattle.std.proofs.lemmas.Option.{none-some, same_Some}
use Rattle.qv_watch.specs.Table.{HasNoTwice, IsStepped, assignment_of}
use Rattle.qv_watch.specs.declared.values.Assigned.{Assigned}

-- signs are alike, or the other sign is
signs : (p q : Bool) → (cond p q (not q) ≡ true) ⊎ (cond (not p) q (not q) ≡ true)
signs true true = inl refl
signs true false = inr refl
signs false true = inr refl
signs false false = inl refl

pub same_literal-itself : (l : Literal) → same_literal l l ≡ true
same_literal-itself l =
    let sign : (p : Bool) → cond p p (not p) ≡ true = λ p. elim p as (λ q. cond q q (not q) ≡ true) [ true ↦ refl | false ↦ refl ] in
    rw (eq-eqb l.variable l.variable refl) (sign l.positive)

signs_equal : (p q : Bool) → cond p q (not q) ≡ true → p ≡ q
signs_equal true true h = refl
signs_equal true false h = cc
signs_equal false true h = cc
signs_equal false false h = refl

-- literals that are the same are equal
pub same_literal-true : (a b : Literal) → same_literal a b ≡ true → a ≡ b
same_literal-true a b h =
    let parts = and_parts (eqb a.variable b.variable) (cond a.positive b.positive (not b.positive)) h in
    let v : a.variable ≡ b.variable = eqb-true a.variable b.variable parts.0 in
    let p : a.positive ≡ b.positive = signs_equal a.positive b.positive parts.1 in
    let by_variable : ℕ → Literal = λ n. record { variable = n; positive = a.positive } in
    let by_sign : Bool → Literal = λ s. record { variable = b.variable; positive = s } in
    ap by_variable v ∙ ap by_sign p

-- literals of two variables differ
pub same_literal-variables : (a b : Literal) → a.variable ≢ b.variable → same_literal a b ≡ false
same_literal-variables a b h = and_left (eqb a.variable b.variable) (cond a.positive b.positive (not b.positive)) (ne_eqb a.variable b.variable h)

-- the first entry isn't of the variable
pub entry_at-tail : (v : ℕ) (e : Entry) (es : List Entry) → entry_at v (e ∷ es) ≡ None → (e.lit.variable ≢ v) × (entry_at v es ≡ None)
entry_at-tail v e es h = elim (cases_eq e.lit.variable v) [
  | inl same ↦ absurd (let t = eq-eqb e.lit.variable v same in let s : entry_at v (e ∷ es) ≡ Some e = rw t in cc)
  | inr other ↦ (other, let s : entry_at v (e ∷ es) ≡ entry_at v es = rw (ne_eqb e.lit.variable v other) in cc)
]

-- an entry that is found is of the variable
pub entry_at-variable : (v : ℕ) (es : List Entry) (e : Entry) → entry_at v es ≡ Some e → e.lit.variable ≡ v
entry_at-variable v [] e h = cc
entry_at-variable v (x ∷ xs) e h = elim (cases_eq x.lit.variable v) [
  | inl same ↦ let s : entry_at v (x ∷ xs) ≡ Some x = rw (eq-eqb x.lit.variable v same) in cc
  | inr other ↦ let s : entry_at v (x ∷ xs) ≡ entry_at v xs = rw (ne_eqb x.lit.variable v other) in entry_at-variable v xs e (sym s ∙ h)
]

pub entry_at-append_none : (v : ℕ) (xs ys : List Entry) → entry_at v xs ≡ None → entry_at v (xs ++ ys) ≡ entry_at v ys
entry_at-append_none v [] ys h = refl
entry_at-append_none v (x ∷ xs) ys h =
    let parts = entry_at-tail v x xs h in
    rw (ne_eqb x.lit.variable v parts.0) (entry_at-append_none v xs ys parts.1)

pub entry_at-append_some : (v : ℕ) (xs ys : List Entry) (e : Entry) → entry_at v xs ≡ Some e → entry_at v (xs ++ ys) ≡ Some e
entry_at-append_some v [] ys e h = cc
entry_at-append_some v (x ∷ xs) ys e h = elim (cases_eq x.lit.variable v) [
  | inl same ↦ let t = eq-eqb x.lit.variable v same in let s : entry_at v (x ∷ xs) ≡ Some x = rw t in rw t (sym s ∙ h)
  | inr other ↦ let t = ne_eqb x.lit.variable v other in let s : entry_at v (x ∷ xs) ≡ entry_at v xs = rw t in rw t (entry_at-append_some v xs ys e (sym s ∙ h))
]

-- no literal of a variable without an entry is true
pub among-none : (es : List Entry) (l : Literal) → entry_at l.variable es ≡ None → among (trues es) l ≡ false
among-none [] l h = refl
among-none (e ∷ es) l h =
    let parts = entry_at-tail l.variable e es h in
    or_from (same_literal l e.lit) (among (trues es) l) (same_literal-variables l e.lit (λ same. parts.0 (sym same))) (among-none es l parts.1)

pub value_of-none : (es : List Entry) (l : Literal) → entry_at l.variable es ≡ None → value_of es l ≡ None
value_of-none es l h = rw (among-none es l h, among-none es (negated l) h)

-- where an entry of its variable is found, a literal or its negation is true
among-found : (es : List Entry) (l : Literal) (e : Entry) → entry_at l.variable es ≡ Some e → (among (trues es) l ≡ true) ⊎ (among (trues es) (negated l) ≡ true)
among-found [] l e h = cc
among-found (x ∷ xs) l e h = elim (cases_eq x.lit.variable l.variable) [
  | inl same ↦
      let test : eqb l.variable x.lit.variable ≡ true = eq-eqb l.variable x.lit.variable (sym same) in
      elim (signs l.positive x.lit.positive) [
        | inl like ↦ inl (or_left (same_literal l x.lit) (among (trues xs) l) (and_from (eqb l.variable x.lit.variable) (cond l.positive x.lit.positive (not x.lit.positive)) test like))
        | inr unlike ↦ inr (or_left (same_literal (negated l) x.lit) (among (trues xs) (negated l)) (and_from (eqb l.variable x.lit.variable) (cond (not l.positive) x.lit.positive (not x.lit.positive)) test unlike))
      ]
  | inr other ↦
      let s : entry_at l.variable (x ∷ xs) ≡ entry_at l.variable xs = rw (ne_eqb x.lit.variable l.variable other) in
      elim (among-found xs l e (sym s ∙ h)) [
        | inl found ↦ inl (or_right (same_literal l x.lit) (among (trues xs) l) found)
        | inr found ↦ inr (or_right (same_literal (negated l) x.lit) (among (trues xs) (negated l)) found)
      ]
]

-- a literal without a value has a variable without an entry
pub entry_at-fresh : (es : List Entry) (l : Literal) → value_of es l ≡ None → entry_at l.variable es ≡ None
entry_at-fresh es l h =
    elim (entry_at l.variable es) as (λ o. entry_at l.variable es ≡ o → o ≡ None) [
      | None ↦ λ _. refl
      | Some e ↦ λ there. elim (among-found es l e there) [
        | inl found ↦ absurd (let t : value_of es l ≡ Some true = rw found in cc)
        | inr found ↦ elim (cases_Bool (among (trues es) l)) [
          | inl also ↦ absurd (let t : value_of es l ≡ Some true = rw also in cc)
          | inr not_it ↦ absurd (let t : value_of es l ≡ Some false = rw (not_it, found) in cc)
        ]
      ]
    ] refl

-- a literal with a value has a variable with an entry
pub entry_at-valued : (es : List Entry) (l : Literal) → IsSome (value_of es l) → (e : Entry) × (entry_at l.variable es ≡ Some e)
entry_at-valued es l h =
    elim (entry_at l.variable es) as (λ o. entry_at l.variable es ≡ o → (e : Entry) × (entry_at l.variable es ≡ Some e)) [
      | None ↦ λ gone. absurd (let some = subst IsSome (value_of-none es l gone) h in cc)
      | Some e ↦ λ there. (e, there)
    ] refl

pub last_level-push : (es : List Entry) (e : Entry) → last_level (es ++ e ∷ []) ≡ e.level
last_level-push es e = fold-append (λ (_ : ℕ) (x : Entry). x.level) 0 es (e ∷ [])

-- the level of the last, where the one before the first is at this level
abbrev pub last_from : ℕ → List Entry → ℕ
last_from level es = fold (λ (_ : ℕ) (x : Entry). x.level) level es

IsStepped-push_from : (level : ℕ) (es : List Entry) (e : Entry) → IsStepped level es → last_from level es ≤ e.level → e.level ≤ last_from level es + 1 → IsStepped level (es ++ e ∷ [])
IsStepped-push_from level [] e h low high = (low, high, tt)
IsStepped-push_from level (x ∷ xs) e h low high = (h.0, h.1, IsStepped-push_from x.level xs e h.2 low high)

pub IsStepped-push : (es : List Entry) (e : Entry) → IsStepped 0 es → last_level es ≤ e.level → e.level ≤ last_level es + 1 → IsStepped 0 (es ++ e ∷ [])
IsStepped-push es e h low high = IsStepped-push_from 0 es e h low high

pub IsStepped-front_from : (level : ℕ) (es : List Entry) (e : Entry) → IsStepped level (es ++ e ∷ []) → IsStepped level es × (last_from level es ≤ e.level) × (e.level ≤ last_from level es + 1)
IsStepped-front_from level [] e h = (tt, h.0, h.1)
IsStepped-front_from level (x ∷ xs) e h =
    let rest = IsStepped-front_from x.level xs e h.2 in
    ((h.0, h.1, rest.0), rest.1, rest.2)

pub IsStepped-take : (level n : ℕ) (es : List Entry) → IsStepped level es → IsStepped level (take n es)
IsStepped-take level zero es h = tt
IsStepped-take level (suc n) [] h = tt
IsStepped-take level (suc n) (x ∷ xs) h = (h.0, h.1, IsStepped-take x.level n xs h.2)

last_from-le : (level : ℕ) (es : List Entry) → IsStepped level es → last_from level es ≤ level + length es
last_from-le level [] h = omega arith
last_from-le level (x ∷ xs) h = let t = last_from-le x.level xs h.2 in omega (arith, h.1)

-- levels don't fall
pub last_from-low : (level : ℕ) (es : List Entry) → IsStepped level es → level ≤ last_from level es
last_from-low level [] h = omega arith
last_from-low level (x ∷ xs) h = let t = last_from-low x.level xs h.2 in omega (arith, h.0)

pub last_level-le : (es : List Entry) → IsStepped 0 es → last_level es ≤ length es
last_level-le es h = let t = last_from-le 0 es h in omega arith

or_false : (b : Bool) → (b || false) ≡ b
or_false true = refl
or_false false = refl

sign_beq : (p q : Bool) → cond p q (not q) ≡ beq q p
sign_beq true true = refl
sign_beq true false = refl
sign_beq false true = refl
sign_beq false false = refl

-- a literal is true where it has the sign of its variable's entry
pub among-sign : (es : List Entry) (l : Literal) (e : Entry) → HasNoTwice es → entry_at l.variable es ≡ Some e → among (trues es) l ≡ cond l.positive e.lit.positive (not e.lit.positive)
among-sign [] l e once h = cc
among-sign (x ∷ xs) l e once h = elim (cases_eq x.lit.variable l.variable) [
  | inl same ↦
      let this : entry_at l.variable (x ∷ xs) ≡ Some x = rw (eq-eqb x.lit.variable l.variable same) in
      let is : x ≡ e = cc in
      let none_later : among (trues xs) l ≡ false = among-none xs l (rw same at once.0) in
      rw (eq-eqb l.variable x.lit.variable (sym same), none_later, sym is) (or_false (cond l.positive x.lit.positive (not x.lit.positive)))
  | inr other ↦
      let s : entry_at l.variable (x ∷ xs) ≡ entry_at l.variable xs = rw (ne_eqb x.lit.variable l.variable other) in
      rw (same_literal-variables l x.lit (λ e. other (sym e))) (among-sign xs l e once.1 (sym s ∙ h))
]

by_signs : (p q : Bool) → (if cond p q (not q) then Some true else (if cond (not p) q (not q) then Some false else None)) ≡ Some (beq q p)
by_signs true true = refl
by_signs true false = refl
by_signs false true = refl
by_signs false false = refl

pub value_of-found : (es : List Entry) (l : Literal) (e : Entry) → HasNoTwice es → entry_at l.variable es ≡ Some e → value_of es l ≡ Some (beq e.lit.positive l.positive)
value_of-found es l e once h =
    rw (among-sign es l e once h, among-sign es (negated l) e once h) (by_signs l.positive e.lit.positive)

-- nothing came from a clause where the variable has no entry
pub reason_of-none : (es : List Entry) (l : Literal) → entry_at l.variable es ≡ None → reason_of es l ≡ None
reason_of-none [] l h = refl
reason_of-none (x ∷ xs) l h =
    let parts = entry_at-tail l.variable x xs h in
    rw (same_literal-variables l x.lit (λ same. parts.0 (sym same))) (reason_of-none xs l parts.1)

pub reason_of-found : (es : List Entry) (l : Literal) (e : Entry) → HasNoTwice es → entry_at l.variable es ≡ Some e → reason_of es l ≡ (if beq e.lit.positive l.positive then e.reason else None)
reason_of-found [] l e once h = cc
reason_of-found (x ∷ xs) l e once h = elim (cases_eq x.lit.variable l.variable) [
  | inl same ↦
      let this : entry_at l.variable (x ∷ xs) ≡ Some x = rw (eq-eqb x.lit.variable l.variable same) in
      let is : x ≡ e = cc in
      let none_later : reason_of xs l ≡ None = reason_of-none xs l (rw same at once.0) in
      rw (eq-eqb l.variable x.lit.variable (sym same), none_later, sym is, sign_beq l.positive x.lit.positive)
  | inr other ↦
      let s : entry_at l.variable (x ∷ xs) ≡ entry_at l.variable xs = rw (ne_eqb x.lit.variable l.variable other) in
      rw (same_literal-variables l x.lit (λ e. other (sym e))) (reason_of-found xs l e once.1 (sym s ∙ h))
]

-- the same, by what a table has of the variable
pub entry_at-unassigned : (v : ℕ) (es : List Entry) → None ≡ option_map assignment_of (entry_at v es) → entry_at v es ≡ None
entry_at-unassigned v es h =
    elim (entry_at v es) as (λ o. None ≡ option_map assignment_of o → o ≡ None) [ None ↦ λ _. refl | Some e ↦ λ g. absurd (none-some (assignment_of e) g) ] h

pub value_of-assigned : (es : List Entry) (l : Literal) (a : Assigned) → HasNoTwice es → Some a ≡ option_map assignment_of (entry_at l.variable es) → value_of es l ≡ Some (beq a.positive l.positive)
value_of-assigned es l a once h =
    elim (entry_at l.variable es) as (λ o. entry_at l.variable es ≡ o → Some a ≡ option_map assignment_of o → value_of es l ≡ Some (beq a.positive l.positive)) [
      | None ↦ λ _ g. absurd (none-some a (sym g))
      | Some e ↦ λ there g.
          let same : a ≡ assignment_of e = same_Some a (assignment_of e) g in
          value_of-found es l e once there ∙ ap (λ (x : Assigned). Some (beq x.positive l.positive)) (sym same)
    ] refl h

pub reason_of-assigned : (es : List Entry) (l : Literal) (a : Assigned) → HasNoTwice es → Some a ≡ option_map assignment_of (entry_at l.variable es) → reason_of es l ≡ (if beq a.positive l.positive then a.reason else None)
reason_of-assigned es l a once h =
    elim (entry_at l.variable es) as (λ o. entry_at l.variable es ≡ o → Some a ≡ option_map assignment_of o → reason_of es l ≡ (if beq a.positive l.positive then a.reason else None)) [
      | None ↦ λ _ g. absurd (none-some a (sym g))
      | Some e ↦ λ there g.
          let same : a ≡ assignment_of e = same_Some a (assignment_of e) g in
          reason_of-found es l e once there ∙ ap (λ (x : Assigned). if beq x.positive l.positive then x.reason else None) (sym same)
    ] refl h
