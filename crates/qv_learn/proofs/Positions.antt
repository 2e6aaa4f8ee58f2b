-- Where the true literals of a trail stand, and what their reasons have of the present level.
use Rattle.std.proofs.Common.{◌≡◌, ◌≢◌, ℕ, zero, suc, ◌+◌, ◌-◌, ◌<◌, ◌≤◌, Bool, true, false, not, ◌&&◌, List, [], ◌∷◌, take, Some, None, eqb, leb, add-one, refl, sym, ◌∙◌, ap, subst, arith, inl, inr, ◌⊎◌}
use Rattle.std.specs.List.{slice_get}
use Rattle.std.proofs.lemmas.Bool.{and_cases, and_parts, cases_Bool, cases_eq, eq-eqb, eqb-false, eqb-true, false_from_ne_true, false≢true, le-leb, leb-true, ne_eqb, not-false, not-true}
use Rattle.std.proofs.lemmas.Option.{none-some, same_Some}
use Rattle.qv_cnf.specs.Listing.{clause_named}
use Rattle.qv_cnf.specs.Literal.{Literal, negated}
use Rattle.qv_cnf.specs.Refutation.{among, hint_reading, same_literal}
use Rattle.qv_cnf.specs.declared.readings.Reading.TheVariants.{Falsified, Forced, Useless}
use Rattle.qv_learn.proofs.Clauses.{Agree, all_falsified, falsified_all, forced_others, read_alike}
use Rattle.qv_learn.proofs.Trails.{IsNext, IsNext-at, entry_true, level_at-found, level_below, reason_own, true_entry}
use Rattle.qv_learn.proofs.Truths.{trail_once}
use Rattle.qv_learn.specs.Learning.{level_at, position_of, StandsIn}
use Rattle.qv_watch.specs.Entries.{Entry, entry_at, reading_on, reason_of, says, trues, up_to, value_of}
use Rattle.qv_watch.specs.Table.{HasNoTwice}
use Rattle.qv_watch.specs.TrailState.{IsTrail, TrailState}
use Rattle.qv_watch.proofs.Entering.{among-none, entry_at-tail, same_literal-itself, same_literal-true}
use Rattle.qv_watch.proofs.Keeping.{stepped_grown}
use Rattle.qv_watch.proofs.Readings.{consistent, value_of-true}
use Rattle.qv_watch.proofs.Resting.{among_cases, among_first, among_later, twice_negated, value-true}

-- the entry of a variable stands at its position
pub position_there : (es : List Entry) (v : ℕ) (e : Entry) → entry_at v es ≡ Some e → slice_get es (position_of es v) ≡ Some e
position_there [] v e h = absurd (none-some e h)
position_there (x ∷ xs) v e h = elim (cases_eq x.lit.variable v) [
  | inl same ↦ rw (eq-eqb x.lit.variable v same) (rw (eq-eqb x.lit.variable v same) at h)
  | inr other ↦ rw (ne_eqb x.lit.variable v other, add-one) (position_there xs v e (rw (ne_eqb x.lit.variable v other) at h))
]

-- the variables of the first entries have the first positions
pub position_front : (es : List Entry) (k v : ℕ) (x : Entry) → entry_at v (take k es) ≡ Some x → position_of es v < k
position_front es zero v x h = absurd (none-some x h)
position_front [] (suc k) v x h = absurd (none-some x h)
position_front (y ∷ ys) (suc k) v x h = elim (cases_eq y.lit.variable v) [
  | inl same ↦ rw (eq-eqb y.lit.variable v same) (omega arith)
  | inr other ↦ rw (ne_eqb y.lit.variable v other) (let rest = position_front ys k v x (rw (ne_eqb y.lit.variable v other) at h) in omega arith)
]

pub front_position : (es : List Entry) (k v : ℕ) (x : Entry) → entry_at v es ≡ Some x → position_of es v < k → entry_at v (take k es) ≡ Some x
front_position es zero v x h less = absurd (omega arith)
front_position [] (suc k) v x h less = h
front_position (y ∷ ys) (suc k) v x h less = elim (cases_eq y.lit.variable v) [
  | inl same ↦ rw (eq-eqb y.lit.variable v same) (rw (eq-eqb y.lit.variable v same) at h)
  | inr other ↦
      let under : position_of ys v + 1 < suc k = rw (ne_eqb y.lit.variable v other) at less in
      rw (ne_eqb y.lit.variable v other) (front_position ys k v x (rw (ne_eqb y.lit.variable v other) at h) (omega arith))
]

not_of_none : (es : List Entry) (v k : ℕ) (e : Entry) → entry_at v es ≡ None → slice_get es k ≡ Some e → e.lit.variable ≢ v
not_of_none [] v k e none h = absurd (none-some e h)
not_of_none (x ∷ xs) v zero e none h = subst (λ (y : Entry). y.lit.variable ≢ v) (same_Some x e h) (entry_at-tail v x xs none).0
not_of_none (x ∷ xs) v (suc k) e none h = not_of_none xs v k e (entry_at-tail v x xs none).1 h

-- a place with an entry of the variable is its position
pub position_is : (es : List Entry) (k v : ℕ) (e : Entry) → HasNoTwice es → slice_get es k ≡ Some e → e.lit.variable ≡ v → position_of es v ≡ k
position_is [] k v e once h is = absurd (none-some e h)
position_is (x ∷ xs) zero v e once h is =
    let same : x ≡ e = same_Some x e h in
    rw (eq-eqb x.lit.variable v (ap (λ (y : Entry). y.lit.variable) same ∙ is)) refl
position_is (x ∷ xs) (suc k) v e once h is =
    let other : x.lit.variable ≢ v = λ same. not_of_none xs x.lit.variable k e once.0 h (is ∙ sym same) in
    rw (ne_eqb x.lit.variable v other) (let rest = position_is xs k v e once.1 h is in omega arith)

-- a true literal's entry, after those before it
pub record Stands (t : TrailState) (l : Literal) : Type 0 where
  pub entry : Entry
  pub is : l ≡ entry.lit
  pub own : entry_at l.variable t.entries ≡ Some entry
  pub next : IsNext t (take (position_of t.entries l.variable) t.entries) entry

pub stands : (t : TrailState) (l : Literal) → IsTrail t → value_of t.entries l ≡ Some true → Stands t l
stands t l trail h =
    let x = true_entry t.entries l (trail_once t trail) (value-true t.entries l h) in
    let k = position_of t.entries l.variable in
    record { entry = x.0; is = x.2; own = x.1; next = (IsNext-at t k x.0 trail (position_there t.entries l.variable x.0 x.1)).1 }

stands_level : (t : TrailState) (l : Literal) (s : Stands t l) → level_at t.entries l ≡ s.entry.level
stands_level t l s = level_at-found t.entries l s.entry s.own

-- a literal that stands behind one of its level came from a clause
pub has_reason : (t : TrailState) (l r : Literal) → IsTrail t → value_of t.entries l ≡ Some true → value_of t.entries r ≡ Some true → level_at t.entries l ≡ level_at t.entries r → position_of t.entries r.variable < position_of t.entries l.variable → (id : ℕ) × (reason_of t.entries l ≡ Some id)
has_reason t l r trail l_true r_true same less =
    let s = stands t l trail l_true in
    let o = stands t r trail r_true in
    let before : entry_at r.variable (take (position_of t.entries l.variable) t.entries) ≡ Some o.entry = front_position t.entries (position_of t.entries l.variable) r.variable o.entry o.own less in
    let own : reason_of t.entries l ≡ s.entry.reason = ap (reason_of t.entries) s.is ∙ reason_own t.entries s.entry s.next.once s.next.own in
    elim s.entry.reason as (λ r. s.entry.reason ≡ r → (id : ℕ) × (reason_of t.entries l ≡ Some id)) [
      | None ↦ λ none. absurd (let low = (s.next.assumed none).1 r.variable o.entry before in omega (arith, stands_level t l s, stands_level t r o))
      | Some id ↦ λ is. (id, own ∙ is)
    ] refl

-- the reason of a true literal: the others of its literals are false, and came before it
pub record Follows (t : TrailState) (l : Literal) (id : ℕ) : Type 0 where
  pub lits : List Literal
  pub named : clause_named id t.clauses ≡ Some lits
  pub reads : reading_on (take (position_of t.entries l.variable) t.entries) lits ≡ Forced l
  pub others : (m : Literal) → among lits m ≡ true → (m ≡ l) ⊎ ((value_of t.entries (negated m) ≡ Some true) × (position_of t.entries m.variable < position_of t.entries l.variable))

pub follows : (t : TrailState) (l : Literal) (id : ℕ) → IsTrail t → value_of t.entries l ≡ Some true → reason_of t.entries l ≡ Some id → Follows t l id
follows t l id trail l_true came =
    let s = stands t l trail l_true in
    let k = position_of t.entries l.variable in
    let before : List Entry = take k t.entries in
    let own : reason_of t.entries l ≡ s.entry.reason = ap (reason_of t.entries) s.is ∙ reason_own t.entries s.entry s.next.once s.next.own in
    let f = s.next.follows id (sym own ∙ came) in
    let reads : reading_on before f.0 ≡ Forced l = f.2 ∙ ap Forced (sym s.is) in
    record {
      lits = f.0;
      named = f.1;
      reads = reads;
      others = λ m there. elim (forced_others (trues before) f.0 l reads m there) [
        | inl same ↦ inl same
        | inr off ↦
            let x = true_entry before (negated m) s.next.once_before off in
            let older = (s.next.older m.variable x.0 x.1).0 in
            let on : among (trues t.entries) (negated m) ≡ true = subst (λ (y : Literal). among (trues t.entries) y ≡ true) (sym x.2) (entry_true t.entries m.variable x.0 older) in
            inr (value_of-true t.entries (negated m) on, position_front t.entries k m.variable x.0 x.1)
      ];
    }

-- a literal with a property, or none has it
some_or_none : (p : Literal → Bool) (xs : List Literal) → ((m : Literal) × (among xs m ≡ true) × (p m ≡ true)) ⊎ ((m : Literal) → among xs m ≡ true → p m ≡ false)
some_or_none p [] = inr (λ m h. absurd (false≢true h))
some_or_none p (x ∷ xs) = elim (cases_Bool (p x)) [
  | inl t ↦ inl (x, among_first x xs, t)
  | inr f ↦ elim (some_or_none p xs) [
    | inl s ↦ inl (s.0, among_later x xs s.0 s.1, s.2)
    | inr none ↦ inr (λ m there. elim (among_cases x xs m there) [ inl same ↦ subst (λ (y : Literal). p y ≡ false) (sym same) f | inr rest ↦ none m rest ])
  ]
]

-- the true literals of the levels up to one
up_to_true : (level v : ℕ) (es : List Entry) (x : Entry) → entry_at v es ≡ Some x → x.level ≤ level → among (trues (up_to level es)) x.lit ≡ true
up_to_true level v [] x h low = absurd (none-some x h)
up_to_true level v (y ∷ ys) x h low = elim (cases_eq y.lit.variable v) [
  | inl same ↦
      let is : y ≡ x = same_Some y x (rw (eq-eqb y.lit.variable v same) at h) in
      let y_low : y.level ≤ level = subst (λ (z : Entry). z.level ≤ level) (sym is) low in
      rw (le-leb y.level level y_low) (subst (λ (z : Entry). among (y.lit ∷ trues (up_to level ys)) z.lit ≡ true) is (among_first y.lit (trues (up_to level ys))))
  | inr other ↦
      let rest = up_to_true level v ys x (rw (ne_eqb y.lit.variable v other) at h) low in
      elim (cases_Bool (leb y.level level)) [
        | inl t ↦ rw t (among_later y.lit (trues (up_to level ys)) x.lit rest)
        | inr f ↦ rw f rest
      ]
]

up_to_entry : (level : ℕ) (es : List Entry) (l : Literal) → HasNoTwice es → among (trues (up_to level es)) l ≡ true → (x : Entry) × (entry_at l.variable es ≡ Some x) × (l ≡ x.lit) × (x.level ≤ level)
up_to_entry level [] l once h = absurd (false≢true h)
up_to_entry level (y ∷ ys) l once h =
    let later : among (trues (up_to level ys)) l ≡ true → (x : Entry) × (entry_at l.variable (y ∷ ys) ≡ Some x) × (l ≡ x.lit) × (x.level ≤ level) = λ rest.
    let r = up_to_entry level ys l once.1 rest in
    let other : y.lit.variable ≢ l.variable = λ same. none-some r.0 (sym once.0 ∙ ap (λ v. entry_at v ys) same ∙ r.1) in
    (r.0, rw (ne_eqb y.lit.variable l.variable other) r.1, r.2, r.3) in
    elim (cases_Bool (leb y.level level)) [
      | inl t ↦ elim (among_cases y.lit (trues (up_to level ys)) l (rw t at h)) [
        | inl same ↦ (y, rw (eq-eqb y.lit.variable l.variable (ap (λ (z : Literal). z.variable) (sym same))) refl, same, leb-true y.level level t)
        | inr rest ↦ later rest
      ]
      | inr f ↦ later (rw f at h)
    ]

-- below the present level no clause is unit or false
module _ (t : TrailState) (trail : IsTrail t) (above : 1 ≤ t.level) where
  abbrev low : List Entry
  low = up_to (t.level - 1) t.entries

  once : HasNoTwice t.entries
  once = trail_once t trail

  low_true : (l : Literal) → among (trues t.entries) l ≡ true → level_at t.entries l ≢ t.level → among (trues low) l ≡ true
  low_true l there other =
      let x = true_entry t.entries l once there in
      let is : level_at t.entries l ≡ x.0.level = level_at-found t.entries l x.0 x.1 in
      let most = level_below l.variable t.entries x.0 (stepped_grown t.room t.clauses t.entries trail.grown) x.1 in
      let under : x.0.level ≢ t.level = λ same. other (is ∙ same) in
      subst (λ (m : Literal). among (trues low) m ≡ true) (sym x.2) (up_to_true (t.level - 1) l.variable t.entries x.0 x.1 (omega (arith, trail.level)))

  not_low : (l : Literal) → level_at t.entries l ≡ t.level → among (trues low) l ≡ false
  not_low l present = false_from_ne_true (among (trues low) l) (λ h.
      let x = up_to_entry (t.level - 1) t.entries l once h in
      let is : level_at t.entries l ≡ x.0.level = level_at-found t.entries l x.0 x.1 in
      omega (arith, x.3))

  low_untrue : (l : Literal) → among (trues t.entries) (negated l) ≡ true → among (trues low) l ≡ false
  low_untrue l off = false_from_ne_true (among (trues low) l) (λ h.
      let x = up_to_entry (t.level - 1) t.entries l once h in
      let on : among (trues t.entries) l ≡ true = subst (λ (y : Literal). among (trues t.entries) y ≡ true) (sym x.2) (entry_true t.entries l.variable x.0 x.1) in
      false≢true (sym (consistent t.entries l once on) ∙ off))

  -- a false clause has a literal of the present level
  pub false_present : (id : ℕ) (lits : List Literal) → clause_named id t.clauses ≡ Some lits → reading_on t.entries lits ≡ Falsified → (m : Literal) × (among lits m ≡ true) × (level_at t.entries m ≡ t.level)
  false_present id lits named reads = elim (some_or_none (λ m. eqb (level_at t.entries m) t.level) lits) [
    | inl found ↦ (found.0, found.1, eqb-true (level_at t.entries found.0) t.level found.2)
    | inr none ↦
        let each : (m : Literal) → among lits m ≡ true → among (trues low) (negated m) ≡ true = λ m there.
        low_true (negated m) (falsified_all (trues t.entries) lits reads m there) (eqb-false (level_at t.entries m) t.level (none m there)) in
        let fails : says t.clauses low id ≡ Falsified = ap (hint_reading (trues low)) named ∙ all_falsified (trues low) lits each in
        let useless = trail.settled (t.level - 1) (omega arith) id in
        absurd (let e : Useless ≡ Falsified = sym useless ∙ fails in cc)
  ]

  -- the reason of a literal of the present level has another one
  abbrev is_other : Literal → Literal → Bool
  is_other l m = eqb (level_at t.entries m) t.level && not (same_literal m l)

  no_other : (l m : Literal) → is_other l m ≡ false → level_at t.entries m ≡ t.level → m ≡ l
  no_other l m none present = elim (and_cases (eqb (level_at t.entries m) t.level) (not (same_literal m l)) none) [
    | inl elsewhere ↦ absurd (eqb-false (level_at t.entries m) t.level elsewhere present)
    | inr same ↦ same_literal-true m l (not-false (same_literal m l) same)
  ]

  reads_alike : (l : Literal) (id : ℕ) (f : Follows t l id) → value_of t.entries l ≡ Some true → level_at t.entries l ≡ t.level → ((m : Literal) → among f.lits m ≡ true → is_other l m ≡ false) → Agree (trues low) (trues (take (position_of t.entries l.variable) t.entries)) f.lits
  reads_alike l id f l_true present none m there =
      let s = stands t l trail l_true in
      let before : List Entry = take (position_of t.entries l.variable) t.entries in
      let fresh : (x : Literal) → x.variable ≡ l.variable → among (trues before) x ≡ false = λ x same. among-none before x (ap (λ v. entry_at v before) (same ∙ ap (λ (y : Literal). y.variable) s.is) ∙ s.next.fresh) in
      elim (forced_others (trues before) f.lits l f.reads m there) [
        | inl same ↦
            let v : m.variable ≡ l.variable = ap (λ (y : Literal). y.variable) same in
            let at : level_at t.entries m ≡ t.level = ap (level_at t.entries) same ∙ present in
            (not_low m at ∙ sym (fresh m v), not_low (negated m) at ∙ sym (fresh (negated m) v))
        | inr off ↦
            let x = true_entry before (negated m) s.next.once_before off in
            let older = (s.next.older m.variable x.0 x.1).0 in
            let on : among (trues t.entries) (negated m) ≡ true = subst (λ (y : Literal). among (trues t.entries) y ≡ true) (sym x.2) (entry_true t.entries m.variable x.0 older) in
            let apart : level_at t.entries m ≢ t.level = λ at.
            let same = no_other l m (none m there) at in
            false≢true (sym (fresh (negated m) (ap (λ (y : Literal). y.variable) same)) ∙ off) in
            let untrue : among (trues before) m ≡ false = subst (λ (y : Literal). among (trues before) y ≡ false) (twice_negated m) (consistent before (negated m) s.next.once_before off) in
            (low_untrue m on ∙ sym untrue, low_true (negated m) on apart ∙ sym off)
      ]

  pub other_present : (l : Literal) (id : ℕ) → value_of t.entries l ≡ Some true → level_at t.entries l ≡ t.level → reason_of t.entries l ≡ Some id → (m : Literal) × StandsIn t.clauses id m × (level_at t.entries m ≡ t.level) × (value_of t.entries (negated m) ≡ Some true) × (position_of t.entries m.variable < position_of t.entries l.variable)
  other_present l id l_true present came =
      let f = follows t l id trail l_true came in
      let before : List Entry = take (position_of t.entries l.variable) t.entries in
      elim (some_or_none (is_other l) f.lits) [
        | inl found ↦
            let m : Literal = found.0 in
            let parts = and_parts (eqb (level_at t.entries m) t.level) (not (same_literal m l)) found.2 in
            elim (f.others m found.1) [
              | inl same ↦ absurd (false≢true (sym (not-true (same_literal m l) parts.1) ∙ ap (same_literal m) (sym same) ∙ same_literal-itself m))
              | inr o ↦ (m, (f.lits, f.named, found.1), eqb-true (level_at t.entries m) t.level parts.0, o.0, o.1)
            ]
        | inr none ↦
            let forces : says t.clauses low id ≡ Forced l = ap (hint_reading (trues low)) f.named ∙ read_alike (trues low) (trues before) f.lits (reads_alike l id f l_true present none) ∙ f.reads in
            let useless = trail.settled (t.level - 1) (omega arith) id in
            absurd (let e : Useless ≡ Forced l = sym useless ∙ forces in cc)
      ]
