-- Which literals a clause may watch.
use Rattle.std.proofs.Common.{◌≡◌, ◌≢◌, ℕ, zero, suc, ◌+◌, ◌-◌, ◌<◌, ◌≤◌, ◌^◌, Bool, true, false, List, [], ◌∷◌, length, get_or, Option, Some, None, ◌⊎◌, refl, sym, ◌∙◌, ap, subst, arith, inl, inr}
use Rattle.std.specs.List.{slice_get}
use Rattle.std.specs.Option.{option_map}
use Rattle.std.specs.Prelude.{IfSome}
use Rattle.std.proofs.lemmas.Bool.{cases_Bool, cases_eq, cases_lt, eq-eqb, ne_eqb, le-leb, lt-leb, false≢true}
use Rattle.std.proofs.lemmas.Option.{none-some, same_Some}
use Rattle.qv_cnf.specs.Literal.{Literal, negated}
use Rattle.qv_cnf.specs.Refutation.{among, same_literal}
use Rattle.qv_cnf.specs.declared.readings.Reading.TheVariants.{Falsified, Forced, Useless}
use Rattle.qv_watch.specs.Choosing.{level_at, rank_by, rank_of, HasNoOther, IsBest, IsWatchable, MayWatch, Rests}
use Rattle.qv_watch.specs.Entries.{Entry, trues, entry_at, up_to, value_of}
use Rattle.qv_watch.specs.Table.{assignment_of, level_in, HasNoTwice}
use Rattle.qv_watch.specs.Watching.{HasTrue, IsCovered}
use Rattle.qv_watch.proofs.Covering.{entry_true, kept_entry, kept_low, level_within, true_entry, IsCovered-open}
use Rattle.qv_watch.proofs.Entering.{same_literal-itself, same_literal-true}
use Rattle.qv_watch.proofs.Resting.{among_first, among_later, fails, forces, forces_alone, not-false, value-false, value-true}

pub among_read : (xs : List Literal) (i : ℕ) (x : Literal) → i < length xs → x ≡ get_or xs i x → among xs x ≡ true
among_read [] i x h is = absurd (omega arith)
among_read (y ∷ ys) zero x h is = subst (λ z. among (y ∷ ys) z ≡ true) (sym is) (among_first y ys)
among_read (y ∷ ys) (suc i) x h is = among_later y ys x (among_read ys i x (omega arith) is)

-- an entry is the one of its variable
pub own_entry : (es : List Entry) (i : ℕ) (e : Entry) → HasNoTwice es → slice_get es i ≡ Some e → entry_at e.lit.variable es ≡ Some e
own_entry [] i e once h = absurd (none-some e h)
own_entry (x ∷ xs) zero e once h =
    let same : x ≡ e = same_Some x e h in
    subst (λ (y : Entry). entry_at y.lit.variable (x ∷ xs) ≡ Some y) same (rw (eq-eqb x.lit.variable x.lit.variable refl))
own_entry (x ∷ xs) (suc i) e once h =
    let rest = own_entry xs i e once.1 h in
    elim (cases_eq x.lit.variable e.lit.variable) [
      | inl same ↦ absurd (none-some e (sym once.0 ∙ ap (λ v. entry_at v xs) same ∙ rest))
      | inr apart ↦ rw (ne_eqb x.lit.variable e.lit.variable apart) rest
    ]

-- its level is that of its variable
entry_level : (es : List Entry) (i : ℕ) (e : Entry) → HasNoTwice es → slice_get es i ≡ Some e → level_at es e.lit ≡ e.level
entry_level es i e once h = ap (λ (o : Option Entry). level_in (option_map assignment_of o)) (own_entry es i e once h)

-- the entry of a true literal
valued_entry : (es : List Entry) (l : Literal) → HasNoTwice es → among (trues es) l ≡ true → (e : Entry) × (i : ℕ) × (slice_get es i ≡ Some e) × (e.lit ≡ l) × (e.level ≡ level_at es l)
valued_entry es l once h =
    let t = true_entry es l h in
    (t.0, t.1, t.2, t.3, sym (entry_level es t.1 t.0 once t.2) ∙ ap (level_at es) t.3)

-- a true literal of this level or a lower one
pub true_at : (es : List Entry) (lits : List Literal) (a : Literal) (n : ℕ) → HasNoTwice es → among lits a ≡ true → value_of es a ≡ Some true → level_at es a ≤ n → HasTrue n es lits
true_at es lits a n once own is le =
    let t = valued_entry es a once (value-true es a is) in
    record { entry = t.0; place = t.1; at = t.2; low = omega (arith, t.4); own = ap (among lits) t.3 ∙ own }

covered_by : (es : List Entry) (lits : List Literal) (a b : Literal) (head : ℕ) → HasNoTwice es → among lits a ≡ true → value_of es a ≡ Some true → level_at es a ≤ level_at es b → IsCovered head es lits b
covered_by es lits a b head once own is le i e low here denied =
    let at : e.level ≡ level_at es b = sym (entry_level es i e once here) ∙ ap (level_at es) denied in
    true_at es lits a e.level once own is (omega (arith, at))

-- an entry of a front of the levels is one of all
first_from : (x : Entry) (rest xs : List Entry) (i : ℕ) (e : Entry) → ((j : ℕ) → slice_get rest j ≡ Some e → (k : ℕ) × (slice_get xs k ≡ Some e)) → slice_get (x ∷ rest) i ≡ Some e → (k : ℕ) × (slice_get (x ∷ xs) k ≡ Some e)
first_from x rest xs zero e later h = (0, h)
first_from x rest xs (suc i) e later h = let there = later i h in (suc there.0, there.1)

cut_from : (n : ℕ) (es : List Entry) (i : ℕ) (e : Entry) → slice_get (up_to n es) i ≡ Some e → (k : ℕ) × (slice_get es k ≡ Some e)
cut_from n [] i e h = absurd (none-some e h)
cut_from n (x ∷ xs) i e h = elim (cases_lt n x.level) [
  | inl above ↦ let rest = cut_from n xs i e (rw (lt-leb x.level n above) at h) in (suc rest.0, rest.1)
  | inr low ↦ first_from x (up_to n xs) xs i e (λ j g. cut_from n xs j e g) (rw (le-leb x.level n low) at h)
]

useless_forces : (l : Literal) → Useless ≡ Forced l → ⊥
useless_forces l h = cc

useless_falsified : Useless ≡ Falsified → ⊥
useless_falsified h = cc

-- a value is one of three
by_value : (v : Option Bool) → (v ≡ Some true) ⊎ ((v ≡ None) ⊎ (v ≡ Some false))
by_value (Some true) = inl refl
by_value (Some false) = inr (inr refl)
by_value None = inr (inl refl)

true_not_false : (v : Option Bool) → v ≡ Some true → v ≢ Some false
true_not_false v t f = let e : Some true ≡ Some false = sym t ∙ f in cc

none_not_false : (v : Option Bool) → v ≡ None → v ≢ Some false
none_not_false v n f = none-some false (sym n ∙ f)

-- no rank is below that of a false literal but those of false ones of lower levels
rank-false : (v : Option Bool) (n m : ℕ) → rank_by v n ≤ m + 1 → m < 2 ^ 32 → (v ≡ Some false) × (n ≤ m)
rank-false (Some true) n m le low = absurd (omega arith)
rank-false (Some false) n m le low = (refl, omega arith)
rank-false None n m le low = absurd (omega arith)

rank_by-some : (v : Option Bool) (n : ℕ) → 1 ≤ rank_by v n
rank_by-some (Some true) n = omega arith
rank_by-some (Some false) n = omega arith
rank_by-some None n = omega arith

pub rank-some : (es : List Entry) (l : Literal) → 1 ≤ rank_of es l
rank-some es l = rank_by-some (value_of es l) (level_at es l)

-- the best of all that were looked at
pub best-from : (es : List Entry) (lits : List Literal) (but : Option Literal) (most : ℕ) (o : Option Literal) → IfSome o (λ x. (among lits x ≡ true) × (but ≢ Some x) × (most ≡ rank_of es x) × (level_at es x < 2 ^ 32)) → ((x : Literal) → among lits x ≡ true → (but ≡ Some x) ⊎ (rank_of es x ≤ most)) → IfSome o (IsBest es lits but)
best-from es lits but most None h all = tt
best-from es lits but most (Some l) h all = record {
  own = h.0;
  apart = h.1;
  most = λ x own other. elim (all x own) [ inl same ↦ absurd (other same) | inr le ↦ subst (λ (n : ℕ). rank_of es x ≤ n) h.2 le ];
  low = h.3;
}

-- what a clause that rests has
module _ (es : List Entry) (lits : List Literal) (r : Rests es lits) where
  -- not all literals are false
  nothing : ((x : Literal) → among lits x ≡ true → value_of es x ≡ Some false) → ⊥
  nothing h = useless_falsified (sym r.now ∙ fails es lits h)

  -- nor all but one without a value
  alone : (a : Literal) → among lits a ≡ true → value_of es a ≡ None → ((x : Literal) → among lits x ≡ true → (x ≡ a) ⊎ (value_of es x ≡ Some false)) → ⊥
  alone a own none h = useless_forces a (sym r.now ∙ forces es lits a r.once own none h)

  -- no literal of a level came below it
  unset_below : (a b : Literal) (k : ℕ) → k < level_at es a → b.variable ≡ a.variable → among (trues (up_to k es)) b ≡ false
  unset_below a b k low same = elim (cases_Bool (among (trues (up_to k es)) b)) [
    | inl t ↦
        let there = true_entry (up_to k es) b t in
        let before = cut_from k es there.1 there.0 there.2 in
        let least = kept_low k es there.1 there.0 there.2 in
        let at : there.0.level ≡ level_at es a = sym (entry_level es before.0 there.0 r.once before.1) ∙ ap (λ (v : ℕ). level_in (option_map assignment_of (entry_at v es))) (ap (λ (l : Literal). l.variable) there.3 ∙ same) in
        absurd (omega (arith, least, at))
    | inr f ↦ f
  ]

  -- a false literal was false from its level on
  false_below : (x : Literal) (k : ℕ) → value_of es x ≡ Some false → level_at es x ≤ k → among (trues (up_to k es)) (negated x) ≡ true
  false_below x k is low =
      let t = valued_entry es (negated x) r.once (value-false es x is) in
      let at : t.0.level ≡ level_at es x = t.4 in
      let there = kept_entry k es t.1 t.0 t.2 (omega (arith, at)) in
      subst (λ (l : Literal). among (trues (up_to k es)) l ≡ true) t.3 (entry_true (up_to k es) t.0 there.0 there.1)

  -- nor are all but a true one false since a lower level
  lonely : (a : Literal) → among lits a ≡ true → value_of es a ≡ Some true → 1 ≤ level_at es a → ((x : Literal) → among lits x ≡ true → (x ≡ a) ⊎ ((value_of es x ≡ Some false) × (level_at es x < level_at es a))) → ⊥
  lonely a own is above h =
      let t = valued_entry es a r.once (value-true es a is) in
      let within = level_within es t.1 t.0 r.stepped t.2 in
      let k : ℕ = level_at es a - 1 in
      let less : k < level_at es a = omega arith in
      let rests = r.below k (omega (arith, t.4, within, less)) in
      let forced = forces_alone (trues (up_to k es)) lits a own (unset_below a a k less refl) (unset_below a (negated a) k less refl) (λ x its. elim (h x its) [
        | inl same ↦ inl same
        | inr f ↦ inr (false_below x k f.0 (let low = f.1 in omega arith))
      ]) in
      useless_forces a (sym rests ∙ forced)

  -- it has a literal
  pub no_first : HasNoOther lits None → ⊥
  no_first h = nothing (λ x own. absurd (none-some x (h x own)))

  module _ (a : Literal) (best : IsBest es lits None a) (unsettled : (value_of es a ≡ Some true) × (level_at es a ≡ 0) → ⊥) where
    above_zero : value_of es a ≡ Some true → 1 ≤ level_at es a
    above_zero t = elim (cases_lt 0 (level_at es a)) [
      | inl above ↦ omega arith
      | inr zero_level ↦ absurd (unsettled (t, omega arith))
    ]

    -- not all are false
    not_all : value_of es a ≡ Some false → ⊥
    not_all f = nothing (λ x own.
        let le : rank_of es x ≤ level_at es a + 1 = subst (λ (v : Option Bool). rank_of es x ≤ rank_by v (level_at es a)) f (best.most x own (none-some x)) in
        (rank-false (value_of es x) (level_at es x) (level_at es a) le best.low).0)

    -- unless one is true since level 0, it has two
    pub no_second : HasNoOther lits (Some a) → ⊥
    no_second h =
        let same : (x : Literal) → among lits x ≡ true → x ≡ a = λ x own. sym (same_Some a x (h x own)) in
        elim (by_value (value_of es a)) [
          | inl t ↦ lonely a best.own t (above_zero t) (λ x own. inl (same x own))
          | inr other ↦ elim other [
            | inl n ↦ alone a best.own n (λ x own. inl (same x own))
            | inr f ↦ not_all f
          ]
        ]

    -- where the second best is false, all others are, since no later
    others : (b : Literal) → IsBest es lits (Some a) b → value_of es b ≡ Some false → (x : Literal) → among lits x ≡ true → (x ≡ a) ⊎ ((value_of es x ≡ Some false) × (level_at es x ≤ level_at es b))
    others b second f x own = elim (cases_Bool (same_literal x a)) [
      | inl same ↦ inl (same_literal-true x a same)
      | inr apart ↦ inr (
          let differs : Some a ≢ Some x = λ e. false≢true (sym apart ∙ ap (λ (y : Literal). same_literal y a) (sym (same_Some a x e)) ∙ same_literal-itself a) in
          let le : rank_of es x ≤ level_at es b + 1 = subst (λ (v : Option Bool). rank_of es x ≤ rank_by v (level_at es b)) f (second.most x own differs) in
          rank-false (value_of es x) (level_at es x) (level_at es b) le second.low
          )
    ]

    -- the two best may be watched
    may_watch : (b : Literal) → IsBest es lits (Some a) b → MayWatch es a b
    may_watch b second = elim (by_value (value_of es b)) [
      | inl t ↦ (not_all, inl (true_not_false (value_of es b) t))
      | inr rest ↦ elim rest [
        | inl n ↦ (not_all, inl (none_not_false (value_of es b) n))
        | inr f ↦ elim (by_value (value_of es a)) [
          | inl t ↦ elim (cases_lt (level_at es b) (level_at es a)) [
            | inl before ↦ absurd (lonely a best.own t (above_zero t) (λ x own. elim (others b second f x own) [
              | inl same ↦ inl same
              | inr o ↦ inr (o.0, let low = o.1 in omega arith)
            ]))
            | inr no_later ↦ (not_all, inr (t, no_later))
          ]
          | inr other ↦ elim other [
            | inl n ↦ absurd (alone a best.own n (λ x own. elim (others b second f x own) [ inl same ↦ inl same | inr o ↦ inr o.0 ]))
            | inr g ↦ absurd (not_all g)
          ]
        ]
      ]
    ]

    pub chosen : (b : Literal) → IsBest es lits (Some a) b → IsWatchable es lits a × IsWatchable es lits b
    chosen b second =
        let may = may_watch b second in (
          (best.own, λ head. IsCovered-open head es lits a (not-false es a r.once may.0)),
          (
            second.own,
            λ head. elim may.1 [
              | inl f ↦ IsCovered-open head es lits b (not-false es b r.once f)
              | inr t ↦ covered_by es lits a b head r.once best.own t.0 t.1
            ],
          ),
        )
