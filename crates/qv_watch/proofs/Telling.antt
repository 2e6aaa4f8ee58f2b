-- The table of the literals' values, where a literal comes and where the last one goes.
use Rattle.std.proofs.Common.{◌≡◌, ◌≢◌, ℕ, ◌+◌, ◌*◌, ◌-◌, ◌<◌, ◌≤◌, Bool, true, false, not, cond, List, [], ◌∷◌, ◌++◌, length, take, set, get_or, Option, Some, None, refl, sym, ◌∙◌, ap, subst, arith, inl, inr, replicate, zero, suc, length-set}
use mathlib.Core.Bool.{beq}
use Rattle.std.proofs.lemmas.Bool.{eq-eqb, cases_eq, cases_lt}
use Rattle.std.proofs.lemmas.List.{get_or-set_same, get_or-set_other, get_or_past, get_or_append_left, get_or-append_right, get_or-take, length-take}
use Rattle.std.proofs.lemmas.List.Elements.{recursion_from_All}
use Rattle.qv_cnf.specs.Literal.{Literal, index_of, negated}
use Rattle.qv_watch.specs.Entries.{Entry, value_of, entry_at}
use Rattle.qv_watch.specs.Table.{entered_by, assigned_to, entries_of, ArePlacesFor, HasNoTwice, IsTable, IsTold}
use Rattle.qv_watch.specs.declared.values.Assigned.{Assigned}
use Rattle.qv_watch.proofs.Entering.{entry_at-append_none, value_of-none, value_of-found}
use Rattle.qv_watch.proofs.Tabling.{entry_at-push, none_beyond, entries_of-put, entries_of-take_back, front, split, last_within, IsTable-put}

-- a literal has one value where one entry is found
value_of-same : (es fs : List Entry) (l : Literal) → HasNoTwice es → HasNoTwice fs → entry_at l.variable es ≡ entry_at l.variable fs → value_of es l ≡ value_of fs l
value_of-same es fs l a b h =
    elim (entry_at l.variable es) as (λ o. entry_at l.variable es ≡ o → value_of es l ≡ value_of fs l) [
      | None ↦ λ none. value_of-none es l none ∙ sym (value_of-none fs l (sym h ∙ none))
      | Some e ↦ λ found. value_of-found es l e a found ∙ sym (value_of-found fs l e b (sym h ∙ found))
    ] refl

-- the two places of a variable are written
told_pair : (truths : List (Option Bool)) (v : ℕ) (p q : Bool) (x y : Option Bool) → 2 * v + 1 < length truths → get_or (set (set truths (2 * v + cond p 0 1) x) (2 * v + cond (not p) 0 1) y) (2 * v + cond q 0 1) None ≡ cond (cond p q (not q)) x y
told_pair truths v true true x y h = get_or-set_other (set truths (2 * v + 0) x) (2 * v + 1) (2 * v + 0) y None (λ e. omega arith) ∙ get_or-set_same truths (2 * v + 0) x None (omega arith)
told_pair truths v true false x y h = get_or-set_same (set truths (2 * v + 0) x) (2 * v + 1) y None (rw length-set (omega arith))
told_pair truths v false true x y h = get_or-set_same (set truths (2 * v + 1) x) (2 * v + 0) y None (rw length-set (omega arith))
told_pair truths v false false x y h = get_or-set_other (set truths (2 * v + 1) x) (2 * v + 0) (2 * v + 1) y None (λ e. omega arith) ∙ get_or-set_same truths (2 * v + 1) x None (omega arith)

sign_least : (b : Bool) → cond b 0 1 ≤ 1
sign_least true = omega arith
sign_least false = omega arith

-- those of the others stay
told_others : (truths : List (Option Bool)) (v w : ℕ) (p q : Bool) (x y : Option Bool) → v ≢ w → get_or (set (set truths (2 * v + cond p 0 1) x) (2 * v + cond (not p) 0 1) y) (2 * w + cond q 0 1) None ≡ get_or truths (2 * w + cond q 0 1) None
told_others truths v w p q x y apart =
    let a = sign_least p in
    let b = sign_least (not p) in
    let c = sign_least q in
    get_or-set_other (set truths (2 * v + cond p 0 1) x) (2 * v + cond (not p) 0 1) (2 * w + cond q 0 1) y None (λ e. omega arith)
    ∙ get_or-set_other truths (2 * v + cond p 0 1) (2 * w + cond q 0 1) x None (λ e. omega arith)

told_sign : (p q : Bool) → cond (cond p q (not q)) (Some true) (Some false) ≡ Some (beq p q)
told_sign true true = refl
told_sign true false = refl
told_sign false true = refl
told_sign false false = refl

both_none : (b : Bool) → ◌≡◌ {A = Option Bool} (cond b None None) None
both_none true = refl
both_none false = refl

-- a literal comes
pub IsTold-push : (truths : List (Option Bool)) (es : List Entry) (e : Entry) → HasNoTwice es → HasNoTwice (es ++ e ∷ []) → entry_at e.lit.variable es ≡ None → 2 * e.lit.variable + 1 < length truths → IsTold truths es → IsTold (set (set truths (index_of e.lit) (Some true)) (index_of (negated e.lit)) (Some false)) (es ++ e ∷ [])
IsTold-push truths es e once once' fresh room told m = elim (cases_eq e.lit.variable m.variable) [
  | inl same ↦
      let here : entry_at e.lit.variable (e ∷ []) ≡ Some e = rw (eq-eqb e.lit.variable e.lit.variable refl) in
      let found : entry_at m.variable (es ++ e ∷ []) ≡ Some e = rw (sym same) (entry_at-append_none e.lit.variable es (e ∷ []) fresh ∙ here) in
      ap (λ (n : ℕ). get_or (set (set truths (index_of e.lit) (Some true)) (index_of (negated e.lit)) (Some false)) (2 * n + cond m.positive 0 1) None) (sym same)
      ∙ told_pair truths e.lit.variable e.lit.positive m.positive (Some true) (Some false) room
      ∙ told_sign e.lit.positive m.positive
      ∙ sym (value_of-found (es ++ e ∷ []) m e once' found)
  | inr apart ↦
      told_others truths e.lit.variable m.variable e.lit.positive m.positive (Some true) (Some false) apart
      ∙ told m
      ∙ value_of-same es (es ++ e ∷ []) m once once' (sym (entry_at-push es e m.variable apart))
]

-- the last literal goes
pub IsTold-pop : (truths : List (Option Bool)) (es : List Entry) (e : Entry) → HasNoTwice es → HasNoTwice (es ++ e ∷ []) → entry_at e.lit.variable es ≡ None → 2 * e.lit.variable + 1 < length truths → IsTold truths (es ++ e ∷ []) → IsTold (set (set truths (index_of e.lit) None) (index_of (negated e.lit)) None) es
IsTold-pop truths es e once once' fresh room told m = elim (cases_eq e.lit.variable m.variable) [
  | inl same ↦
      ap (λ (n : ℕ). get_or (set (set truths (index_of e.lit) None) (index_of (negated e.lit)) None) (2 * n + cond m.positive 0 1) None) (sym same)
      ∙ told_pair truths e.lit.variable e.lit.positive m.positive None None room
      ∙ both_none (cond e.lit.positive m.positive (not m.positive))
      ∙ sym (value_of-none es m (rw (sym same) fresh))
  | inr apart ↦
      told_others truths e.lit.variable m.variable e.lit.positive m.positive None None apart
      ∙ told m
      ∙ value_of-same (es ++ e ∷ []) es m once' once (entry_at-push es e m.variable apart)
]

none_read : (n i : ℕ) → get_or (replicate {A = Option Bool} n None) i None ≡ None
none_read zero i = refl
none_read (suc n) zero = refl
none_read (suc n) (suc i) = none_read n i

-- the table grows, or loses places of literals without a value
pub IsTold-room : (truths : List (Option Bool)) (vars : List (Option Assigned)) (order : List Literal) (n k : ℕ) → IsTable vars order → length vars ≤ n → IsTold truths (entries_of vars order) → IsTold (take (2 * n + 2) truths ++ replicate k None) (entries_of vars order)
IsTold-room truths vars order n k t few told m =
    let c = sign_least m.positive in
    let i : ℕ = index_of m in
    elim (cases_lt i (length (take (2 * n + 2) truths))) [
      | inl low ↦
          let cut : length (take (2 * n + 2) truths) ≤ 2 * n + 2 = omega (arith, length-take (2 * n + 2) truths) in
          get_or_append_left (take (2 * n + 2) truths) (replicate k None) None i low ∙ get_or-take (2 * n + 2) truths i None (omega arith) ∙ told m
      | inr high ↦
          get_or-append_right (take (2 * n + 2) truths) (replicate k None) (length (take (2 * n + 2) truths)) i None refl high
          ∙ none_read k (i - length (take (2 * n + 2) truths))
          ∙ elim (cases_lt i (2 * n + 2)) [
            | inl within ↦ sym (get_or_past truths i None (omega (arith, length-take (2 * n + 2) truths))) ∙ told m
            | inr beyond ↦ sym (value_of-none (entries_of vars order) m (none_beyond vars order m.variable (recursion_from_All (λ l. (1 ≤ l.variable) × (l.variable ≤ length vars)) order t.within) (omega arith)))
          ]
    ]

-- a literal comes, in all tables
pub IsTold-put : (truths : List (Option Bool)) (vars : List (Option Assigned)) (order : List Literal) (l : Literal) (level : ℕ) (reason : Option ℕ) → IsTable vars order → 1 ≤ l.variable → l.variable ≤ length vars → entry_at l.variable (entries_of vars order) ≡ None → ArePlacesFor (length vars) (length truths) → IsTold truths (entries_of vars order) → IsTold (set (set truths (index_of l) (Some true)) (index_of (negated l)) (Some false)) (entries_of (set vars (l.variable - 1) (Some record { positive = l.positive; level = level; reason = reason })) (order ++ l ∷ []))
IsTold-put truths vars order l level reason t one room fresh places told =
    let e : Entry = record { lit = l; level = level; reason = reason } in
    let is = entries_of-put vars order l level reason t one room fresh in
    let once : HasNoTwice (entries_of vars order ++ e ∷ []) = rw is at (IsTable-put vars order l level reason t one room fresh).once in
    subst (IsTold (set (set truths (index_of l) (Some true)) (index_of (negated l)) (Some false))) (sym is) (IsTold-push truths (entries_of vars order) e t.once once fresh (places l.variable one room) told)

module _ (truths : List (Option Bool)) (vars : List (Option Assigned)) (order : List Literal) (l : Literal) (t : IsTable vars (order ++ l ∷ [])) (places : ArePlacesFor (length vars) (length truths)) where
  pub within_places : ArePlacesFor l.variable (length truths)
  within_places v from to = places v from (omega (arith, (last_within vars order l t).1))

  -- the last literal goes, in all tables
  pub IsTold-take_back : IsTold truths (entries_of vars (order ++ l ∷ [])) → IsTold (set (set truths (index_of l) None) (index_of (negated l)) None) (entries_of (set vars (l.variable - 1) None) order)
  IsTold-take_back told =
      let e : Entry = entered_by l (assigned_to vars l.variable) in
      let is = split vars order l t in
      let parts = front vars order l t in
      let once : HasNoTwice (entries_of vars order ++ e ∷ []) = rw is at t.once in
      let before : IsTold truths (entries_of vars order ++ e ∷ []) = subst (IsTold truths) is told in
      subst (IsTold (set (set truths (index_of l) None) (index_of (negated l)) None)) (sym (entries_of-take_back vars order l t)) (IsTold-pop truths (entries_of vars order) e parts.0 once parts.1 (within_places l.variable (last_within vars order l t).0 (omega arith)) before)
