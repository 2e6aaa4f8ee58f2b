-- What is known of literals that have values.
use Rattle.std.proofs.Common.{◌≡◌, ◌≢◌, ℕ, ◌≤◌, true, false, List, take, Some, None, refl, sym, ◌∙◌, ap, subst, arith, inl, inr}
use Rattle.std.specs.Prelude.{IsSome}
use Rattle.std.proofs.lemmas.Bool.{cases_Bool}
use Rattle.std.proofs.lemmas.Option.{none-some, same_Some}
use Rattle.qv_cnf.specs.Literal.{Literal, negated}
use Rattle.qv_cnf.specs.Refutation.{among}
use Rattle.qv_cnf.specs.declared.readings.Reading.TheVariants.{Falsified}
use Rattle.qv_learn.proofs.Clauses.{false_named, falsified_all, forced_others}
use Rattle.qv_learn.proofs.Trails.{IsNext, IsNext-at, entry_true, level_at-found, level_below, older_level, reason_own, true_entry}
use Rattle.qv_learn.specs.Learning.{level_at, StandsIn}
use Rattle.qv_watch.specs.Entries.{Entry, reason_of, says, trues, value_of}
use Rattle.qv_watch.specs.Table.{HasNoTwice}
use Rattle.qv_watch.specs.TrailState.{Holds, IsTrail, TrailState}
use Rattle.qv_watch.specs.declared.propagation.Propagated.TheVariants.{Conflict}
use Rattle.qv_watch.proofs.Growing.{once_grown}
use Rattle.qv_watch.proofs.Keeping.{stepped_grown}
use Rattle.qv_watch.proofs.Readings.{consistent, value_of-false, value_of-open, value_of-true}
use Rattle.qv_watch.proofs.Resting.{twice_negated, value-true}
use Rattle.qv_watch.proofs.Placing.{entry_at-stands}

pub false_negated : (es : List Entry) (l : Literal) → value_of es l ≡ Some false → value_of es (negated l) ≡ Some true
false_negated es l h = elim (cases_Bool (among (trues es) l)) [
  | inl t ↦ absurd (let g : Some true ≡ Some false = sym (value_of-true es l t) ∙ h in cc)
  | inr f ↦ elim (cases_Bool (among (trues es) (negated l))) [
    | inl n ↦ value_of-true es (negated l) n
    | inr n ↦ absurd (none-some false (sym (value_of-open es l f n) ∙ h))
  ]
]

pub true_negated : (es : List Entry) (l : Literal) → HasNoTwice es → value_of es l ≡ Some true → value_of es (negated l) ≡ Some false
true_negated es l once h =
    let t = value-true es l h in
    value_of-false es (negated l) (consistent es l once t) (subst (λ (m : Literal). among (trues es) m ≡ true) (sym (twice_negated l)) t)

pub trail_once : (t : TrailState) → IsTrail t → HasNoTwice t.entries
trail_once t trail = once_grown t.room t.clauses t.entries trail.grown

-- a true literal's entry, and those before it
pub record HasEntry (t : TrailState) (l : Literal) : Type 0 where
  pub before : List Entry
  pub entry : Entry
  pub is : l ≡ entry.lit
  pub next : IsNext t before entry
  pub variable : 1 ≤ l.variable

pub entry_of : (t : TrailState) (l : Literal) → IsTrail t → value_of t.entries l ≡ Some true → HasEntry t l
entry_of t l trail h =
    let x = true_entry t.entries l (trail_once t trail) (value-true t.entries l h) in
    let place = entry_at-stands l.variable t.entries x.0 x.1 in
    record {
      before = take place.0 t.entries;
      entry = x.0;
      is = x.2;
      next = (IsNext-at t place.0 x.0 trail place.1).1;
      variable = let low = (trail.grown place.0 x.0 place.1).literal.0 in subst (λ (m : Literal). 1 ≤ m.variable) (sym x.2) low;
    }

-- no literal's level is above the present one
pub level_most : (t : TrailState) (l : Literal) → IsTrail t → value_of t.entries l ≡ Some true → level_at t.entries l ≤ t.level
level_most t l trail h =
    let x = true_entry t.entries l (trail_once t trail) (value-true t.entries l h) in
    let low = level_below l.variable t.entries x.0 (stepped_grown t.room t.clauses t.entries trail.grown) x.1 in
    let is = level_at-found t.entries l x.0 x.1 in
    omega (arith, trail.level)

-- at level 0 nothing was assumed
pub reason_at_zero : (t : TrailState) (l : Literal) → IsTrail t → value_of t.entries l ≡ Some true → level_at t.entries l ≡ 0 → IsSome (reason_of t.entries l)
reason_at_zero t l trail h low =
    let x = entry_of t l trail h in
    let level : level_at t.entries l ≡ x.entry.level = ap (level_at t.entries) x.is ∙ level_at-found t.entries x.entry.lit x.entry x.next.own in
    let same : reason_of t.entries l ≡ x.entry.reason = ap (reason_of t.entries) x.is ∙ reason_own t.entries x.entry x.next.once x.next.own in
    elim x.entry.reason as (λ r. x.entry.reason ≡ r → IsSome (reason_of t.entries l)) [
      | None ↦ λ none. absurd (let above = (x.next.assumed none).0 in omega arith)
      | Some id ↦ λ some. subst IsSome (sym (same ∙ some)) refl
    ] refl

-- another literal of a reason is false, and got its value at a level that is no greater
pub reason_others : (t : TrailState) (l m : Literal) (id : ℕ) → IsTrail t → value_of t.entries l ≡ Some true → reason_of t.entries l ≡ Some id → StandsIn t.clauses id m → m.variable ≢ l.variable → (value_of t.entries (negated m) ≡ Some true) × (level_at t.entries m ≤ level_at t.entries l)
reason_others t l m id trail h reason s other =
    let x = entry_of t l trail h in
    let level : level_at t.entries l ≡ x.entry.level = ap (level_at t.entries) x.is ∙ level_at-found t.entries x.entry.lit x.entry x.next.own in
    let same : reason_of t.entries l ≡ x.entry.reason = ap (reason_of t.entries) x.is ∙ reason_own t.entries x.entry x.next.once x.next.own in
    let f = x.next.follows id (sym same ∙ reason) in
    let clause : s.0 ≡ f.0 = same_Some s.0 f.0 (sym s.1 ∙ f.1) in
    elim (forced_others (trues x.before) f.0 x.entry.lit f.2 m (subst (λ (ls : List Literal). among ls m ≡ true) clause s.2)) [
      | inl own ↦ absurd (other (ap (λ (y : Literal). y.variable) (own ∙ sym x.is)))
      | inr off ↦
          let low = older_level t x.before x.entry m x.next off in
          let y = true_entry x.before (negated m) x.next.once_before off in
          let o = x.next.older m.variable y.0 y.1 in
          let here : among (trues t.entries) (negated m) ≡ true = subst (λ (n : Literal). among (trues t.entries) n ≡ true) (sym y.2) (entry_true t.entries m.variable y.0 o.0) in
          (value_of-true t.entries (negated m) here, omega arith)
    ]

-- each literal of the conflict's clause is false
pub conflict_false : (t : TrailState) (l : Literal) (conflict : ℕ) → IsTrail t → t.answer ≡ Some (Conflict conflict) → StandsIn t.clauses conflict l → value_of t.entries (negated l) ≡ Some true
conflict_false t l conflict trail answer s =
    let fails : says t.clauses t.entries conflict ≡ Falsified = subst (Holds t.clauses t.entries) answer trail.answer in
    let c = false_named (trues t.entries) t.clauses conflict fails in
    let clause : s.0 ≡ c.0 = same_Some s.0 c.0 (sym s.1 ∙ c.1) in
    value_of-true t.entries (negated l) (falsified_all (trues t.entries) c.0 c.2 l (subst (λ (ls : List Literal). among ls l ≡ true) clause s.2))
