-- What is known of the entries of a trail.
use Rattle.std.proofs.Common.{◌≡◌, ℕ, suc, ◌+◌, ◌<◌, ◌≤◌, Bool, true, false, not, cond, List, [], ◌∷◌, ◌++◌, take, drop, Option, Some, None, eqb, refl, sym, ◌∙◌, ap, subst, arith, inl, inr}
use mathlib.Core.Bool.{beq}
use Rattle.std.specs.List.{slice_get}
use Rattle.std.specs.Prelude.{if◌then◌else◌}
use Rattle.std.proofs.lemmas.Bool.{cases_eq, and_from, eq-eqb, ne_eqb, false≢true}
use Rattle.std.proofs.lemmas.List.{take-append-drop}
use Rattle.std.proofs.lemmas.Option.{none-some, same_Some}
use Rattle.qv_cnf.specs.Listing.{Numbered, clause_named}
use Rattle.qv_cnf.specs.Literal.{Literal, negated}
use Rattle.qv_cnf.specs.Refutation.{among}
use Rattle.qv_cnf.specs.declared.readings.Reading.TheVariants.{Forced}
use Rattle.qv_learn.proofs.Clauses.{forces_named}
use Rattle.qv_learn.specs.Learning.{level_at, level_in}
use Rattle.qv_watch.specs.Entries.{Entry, entry_at, last_level, reading_on, reason_of, trues}
use Rattle.qv_watch.specs.Table.{HasNoTwice, IsStepped}
use Rattle.qv_watch.specs.TrailState.{Comes, IsGrown, IsTrail, TrailState}
use Rattle.qv_watch.proofs.Entering.{among-none, among-sign, entry_at-append_none, entry_at-append_some, entry_at-fresh, entry_at-variable, last_from, last_from-low, reason_of-found, same_literal-true}
use Rattle.qv_watch.proofs.Growing.{IsGrown-front, once_grown}
use Rattle.qv_watch.proofs.Keeping.{stepped_grown}
use Rattle.qv_watch.proofs.Lists.{take_next}
use Rattle.qv_watch.proofs.Resting.{among_first, among_later}

-- a true literal is an entry's
pub true_entry : (es : List Entry) (l : Literal) → HasNoTwice es → among (trues es) l ≡ true → (e : Entry) × (entry_at l.variable es ≡ Some e) × (l ≡ e.lit)
true_entry es l once h =
    elim (entry_at l.variable es) as (λ o. entry_at l.variable es ≡ o → (e : Entry) × (entry_at l.variable es ≡ Some e) × (l ≡ e.lit)) [
      | None ↦ λ none. absurd (false≢true (sym (among-none es l none) ∙ h))
      | Some e ↦ λ there.
          let sign : cond l.positive e.lit.positive (not e.lit.positive) ≡ true = sym (among-sign es l e once there) ∙ h in
          let own : eqb l.variable e.lit.variable ≡ true = eq-eqb l.variable e.lit.variable (sym (entry_at-variable l.variable es e there)) in
          (e, there, same_literal-true l e.lit (and_from (eqb l.variable e.lit.variable) (cond l.positive e.lit.positive (not e.lit.positive)) own sign))
    ] refl

-- an entry's literal is true
pub entry_true : (es : List Entry) (v : ℕ) (e : Entry) → entry_at v es ≡ Some e → among (trues es) e.lit ≡ true
entry_true [] v e h = absurd (none-some e h)
entry_true (x ∷ xs) v e h = elim (cases_eq x.lit.variable v) [
  | inl same ↦
      let is : x ≡ e = same_Some x e (rw (eq-eqb x.lit.variable v same) at h) in
      subst (λ (y : Entry). among (x.lit ∷ trues xs) y.lit ≡ true) is (among_first x.lit (trues xs))
  | inr other ↦ among_later x.lit (trues xs) e.lit (entry_true xs v e (rw (ne_eqb x.lit.variable v other) at h))
]

-- true literals of one variable are equal
pub true_alike : (es : List Entry) (l m : Literal) → HasNoTwice es → among (trues es) l ≡ true → among (trues es) m ≡ true → l.variable ≡ m.variable → l ≡ m
true_alike es l m once h k same =
    let a = true_entry es l once h in
    let b = true_entry es m once k in
    let e : a.0 ≡ b.0 = same_Some a.0 b.0 (sym a.1 ∙ ap (λ v. entry_at v es) same ∙ b.1) in
    a.2 ∙ ap (λ (x : Entry). x.lit) e ∙ sym b.2

-- a level is no greater than the last
level_below_from : (low v : ℕ) (es : List Entry) (e : Entry) → IsStepped low es → entry_at v es ≡ Some e → e.level ≤ last_from low es
level_below_from low v [] e s h = absurd (none-some e h)
level_below_from low v (x ∷ xs) e s h = elim (cases_eq x.lit.variable v) [
  | inl same ↦
      let is : x ≡ e = same_Some x e (rw (eq-eqb x.lit.variable v same) at h) in
      let level : x.level ≡ e.level = ap (λ (y : Entry). y.level) is in
      let rise = last_from-low x.level xs s.2 in
      omega arith
  | inr other ↦ level_below_from x.level v xs e s.2 (rw (ne_eqb x.lit.variable v other) at h)
]

pub level_below : (v : ℕ) (es : List Entry) (e : Entry) → IsStepped 0 es → entry_at v es ≡ Some e → e.level ≤ last_level es
level_below v es e s h = level_below_from 0 v es e s h

-- the older entries of a trail
pub grown-take : (room : ℕ) (clauses : List Numbered) (es : List Entry) (k : ℕ) → IsGrown room clauses es → IsGrown room clauses (take k es)
grown-take room clauses es k g = IsGrown-front room clauses (take k es) (drop k es) (subst (IsGrown room clauses) (sym (take-append-drop k es)) g)

-- the entry that is put behind the others
entry_at-push_own : (es : List Entry) (e : Entry) → entry_at e.lit.variable es ≡ None → entry_at e.lit.variable (es ++ e ∷ []) ≡ Some e
entry_at-push_own es e fresh = entry_at-append_none e.lit.variable es (e ∷ []) fresh ∙ rw (eq-eqb e.lit.variable e.lit.variable refl) refl

-- an entry and those before it
pub record IsNext (t : TrailState) (before : List Entry) (e : Entry) : Type 0 where
  pub once_before : HasNoTwice before
  pub once : HasNoTwice t.entries
  pub fresh : entry_at e.lit.variable before ≡ None
  pub own : entry_at e.lit.variable t.entries ≡ Some e
  pub older : (v : ℕ) (x : Entry) → entry_at v before ≡ Some x → (entry_at v t.entries ≡ Some x) × (x.level ≤ e.level)
  pub within : e.level ≤ t.level
  pub assumed : e.reason ≡ None → (1 ≤ e.level) × ((v : ℕ) (x : Entry) → entry_at v before ≡ Some x → x.level < e.level)
  pub follows : (id : ℕ) → e.reason ≡ Some id → (lits : List Literal) × (clause_named id t.clauses ≡ Some lits) × (reading_on before lits ≡ Forced e.lit)

pub older_found : (es : List Entry) (k v : ℕ) (x : Entry) → entry_at v (take k es) ≡ Some x → entry_at v es ≡ Some x
older_found es k v x h = subst (λ (ys : List Entry). entry_at v ys ≡ Some x) (take-append-drop k es) (entry_at-append_some v (take k es) (drop k es) x h)

pub IsNext-at : (t : TrailState) (k : ℕ) (e : Entry) → IsTrail t → slice_get t.entries k ≡ Some e → (take (suc k) t.entries ≡ take k t.entries ++ e ∷ []) × IsNext t (take k t.entries) e
IsNext-at t k e trail there =
    let es = t.entries in
    let before : List Entry = take k es in
    let m = trail.grown k e there in
    let more : take (suc k) es ≡ before ++ e ∷ [] = take_next es k e there in
    let grown_before = grown-take t.room t.clauses es k trail.grown in
    let stepped : IsStepped 0 before = stepped_grown t.room t.clauses before grown_before in
    let fresh : entry_at e.lit.variable before ≡ None = entry_at-fresh before e.lit m.fresh in
    let own : entry_at e.lit.variable es ≡ Some e = older_found es (suc k) e.lit.variable e (ap (entry_at e.lit.variable) more ∙ entry_at-push_own before e fresh) in
    let rises : last_level before ≤ e.level = elim e.reason as (λ r. Comes t.clauses before e.lit e.level r → last_level before ≤ e.level) [ None ↦ λ c. omega arith | Some id ↦ λ c. omega (arith, c.0) ] m.comes in (
      more,
      record {
        once_before = once_grown t.room t.clauses before grown_before;
        once = once_grown t.room t.clauses es trail.grown;
        fresh = fresh;
        own = own;
        older = λ v x h. (older_found es k v x h, let low = level_below v before x stepped h in omega arith);
        within = let low = level_below e.lit.variable es e (stepped_grown t.room t.clauses es trail.grown) own in omega (arith, trail.level);
        assumed = λ none.
            let c : e.level ≡ last_level before + 1 = subst (Comes t.clauses before e.lit e.level) none m.comes in
            (omega arith, λ v x h. let low = level_below v before x stepped h in omega arith);
        follows = λ id is.
            let c = subst (Comes t.clauses before e.lit e.level) is m.comes in
            forces_named (trues before) t.clauses id e.lit c.1;
      },
    )

-- the level of a literal's variable, by its entry
pub level_at-found : (es : List Entry) (l : Literal) (x : Entry) → entry_at l.variable es ≡ Some x → level_at es l ≡ x.level
level_at-found es l x h = ap level_in h

-- the level of an older literal's variable
pub older_level : (t : TrailState) (before : List Entry) (e : Entry) (l : Literal) → IsNext t before e → among (trues before) (negated l) ≡ true → level_at t.entries l ≤ e.level
older_level t before e l n there =
    let x = true_entry before (negated l) n.once_before there in
    let o = n.older l.variable x.0 x.1 in
    let is = level_at-found t.entries l x.0 o.0 in
    omega (arith, o.1)

by_sign : (p : Bool) (r : Option ℕ) → (if beq p p then r else None) ≡ r
by_sign true r = refl
by_sign false r = refl

-- an entry's reason is its literal's
pub reason_own : (es : List Entry) (e : Entry) → HasNoTwice es → entry_at e.lit.variable es ≡ Some e → reason_of es e.lit ≡ e.reason
reason_own es e once own = reason_of-found es e.lit e once own ∙ by_sign e.lit.positive e.reason
