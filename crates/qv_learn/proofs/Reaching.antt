-- What is reached, and what waits then.
use Rattle.std.proofs.Common.{◌≡◌, ◌≢◌, ℕ, ◌+◌, ◌<◌, ◌≤◌, true, false, List, [], ◌∷◌, ◌++◌, length, take, get_or, Some, None, All, Contains, eqb, refl, sym, ◌∙◌, ap, subst, arith, inl, inr, ◌⊎◌}
use Rattle.std.specs.List.{slice_get}
use Rattle.std.specs.Option.{option_map}
use Rattle.std.specs.Prelude.{IsSome}
use Rattle.std.proofs.lemmas.Bool.{cases_Bool, cases_lt, eq-eqb, eqb-true, false≢true, or_cases, or_left, or_right}
use Rattle.std.proofs.lemmas.List.Elements.{All-push, All-weaker, Contains-append_left, Contains-append_right, Contains-push}
use Rattle.std.proofs.lemmas.List.{length-append, take_more}
use Rattle.std.proofs.lemmas.List.Folds.{list_any_at}
use Rattle.std.proofs.lemmas.Option.{none-some, same_Some}
use Rattle.qv_cnf.specs.Literal.{Literal, negated}
use Rattle.qv_cnf.specs.Refutation.{among}
use Rattle.qv_learn.proofs.Clauses.{among-push_cases, among-push_new, among-push_old}
use Rattle.qv_learn.proofs.Positions.{position_is, position_there}
use Rattle.qv_learn.proofs.Trails.{IsNext-at, level_at-found, true_alike, true_entry}
use Rattle.qv_learn.proofs.Truths.{trail_once}
use Rattle.qv_learn.specs.Frontiers.{unmarked, IsBetween, IsFrontier, IsPending, IsPresent, MayReach, Notes, Places, Reaches, Waits}
use Rattle.qv_learn.specs.Learning.{level_at, level_in, position_of}
use Rattle.qv_learn.specs.Marking.{marked, MarksOne}
use Rattle.qv_learn.specs.declared.point.Frontier.{Frontier}
use Rattle.qv_watch.specs.Entries.{Entry, entry_at, value_of}
use Rattle.qv_watch.specs.Table.{HasNoTwice}
use Rattle.qv_watch.specs.TrailState.{IsTrail, TrailState}
use Rattle.qv_watch.proofs.Entering.{entry_at-variable, value_of-none}
use Rattle.qv_watch.proofs.Resting.{among_cases, among_first, value-true}

-- a set has the marked variables
pub marked_contains : (set : List ℕ) (v : ℕ) → marked set v ≡ true → Contains set v
marked_contains [] v h = absurd (false≢true h)
marked_contains (w ∷ set) v h = elim (or_cases (eqb w v) (marked set v) h) [
  | inl same ↦ subst (Contains (w ∷ set)) (eqb-true w v same) (Contains-append_left (w ∷ []) set w (Contains-push [] w))
  | inr rest ↦ Contains-append_right (w ∷ []) set v (marked_contains set v rest)
]

pub contains_marked : (set : List ℕ) (v : ℕ) → Contains set v → marked set v ≡ true
contains_marked set v h = list_any_at (λ w. eqb w v) set h.0 v h.1 (eq-eqb _ v h.2)

-- one more mark
pub still_marked : (old new : List ℕ) (v w : ℕ) → MarksOne old v new → marked old w ≡ true → marked new w ≡ true
still_marked old new v w one h = one w ∙ or_left (marked old w) (eqb v w) h

pub now_marked : (old new : List ℕ) (v : ℕ) → MarksOne old v new → marked new v ≡ true
now_marked old new v one = one v ∙ or_right (marked old v) (eqb v v) (eq-eqb v v refl)

unmarked_most : (old new : List ℕ) (v : ℕ) (es : List Entry) → MarksOne old v new → unmarked new es ≤ unmarked old es
unmarked_most old new v [] one = omega arith
unmarked_most old new v (e ∷ es) one =
    let rest = unmarked_most old new v es one in
    elim (cases_Bool (marked old e.lit.variable)) [
      | inl on ↦ rw (on, still_marked old new v e.lit.variable one on) rest
      | inr off ↦ elim (cases_Bool (marked new e.lit.variable)) [
        | inl on ↦ rw (off, on) (omega arith)
        | inr still ↦ rw (off, still) (omega arith)
      ]
    ]

pub unmarked_less : (old new : List ℕ) (v : ℕ) (es : List Entry) (x : Entry) → MarksOne old v new → marked old v ≡ false → entry_at v es ≡ Some x → unmarked new es + 1 ≤ unmarked old es
unmarked_less old new v [] x one off h = absurd (none-some x h)
unmarked_less old new v (e ∷ es) x one off h = elim (cases_Bool (eqb e.lit.variable v)) [
  | inl same ↦
      let is : e.lit.variable ≡ v = eqb-true e.lit.variable v same in
      let was : marked old e.lit.variable ≡ false = ap (marked old) is ∙ off in
      let now : marked new e.lit.variable ≡ true = ap (marked new) is ∙ now_marked old new v one in
      let rest = unmarked_most old new v es one in
      rw (was, now) (omega arith)
  | inr other ↦
      let rest = unmarked_less old new v es x one off (rw other at h) in
      elim (cases_Bool (marked old e.lit.variable)) [
        | inl on ↦ rw (on, still_marked old new v e.lit.variable one on) rest
        | inr was ↦ elim (cases_Bool (marked new e.lit.variable)) [
          | inl on ↦ rw (was, on) (omega arith)
          | inr still ↦ rw (was, still) (omega arith)
        ]
      ]
]

-- a variable with a value has an entry
pub value_entry : (es : List Entry) (l : Literal) → IsSome (value_of es l) → (e : Entry) × (entry_at l.variable es ≡ Some e)
value_entry es l h =
    elim (entry_at l.variable es) as (λ o. entry_at l.variable es ≡ o → (e : Entry) × (entry_at l.variable es ≡ Some e)) [
      | None ↦ λ none. absurd (false≢true (subst IsSome (value_of-none es l none) h))
      | Some e ↦ λ is. (e, is)
    ] refl

-- the position that is read
pub position_read : (t : TrailState) (l : Literal) (p : ℕ) → IsTrail t → IsSome (value_of t.entries l) → slice_get t.entries p ≡ entry_at l.variable t.entries → position_of t.entries l.variable ≡ p
position_read t l p trail some is =
    let x = value_entry t.entries l some in
    position_is t.entries p l.variable x.0 (trail_once t trail) (is ∙ x.1) (entry_at-variable l.variable t.entries x.0 x.1)

-- no level is above the present one
pub level_within : (t : TrailState) (l : Literal) → IsTrail t → IsSome (value_of t.entries l) → level_at t.entries l ≤ t.level
level_within t l trail some =
    let x = value_entry t.entries l some in
    let next = (IsNext-at t (position_of t.entries l.variable) x.0 trail (position_there t.entries l.variable x.0 x.1)).1 in
    let within = next.within in
    omega (arith, level_at-found t.entries l x.0 x.1)

-- two variables have two positions
pub position_apart : (es : List Entry) (v w : ℕ) (x y : Entry) → entry_at v es ≡ Some x → entry_at w es ≡ Some y → position_of es v ≡ position_of es w → v ≡ w
position_apart es v w x y h k same =
    let is : x ≡ y = same_Some x y (sym (position_there es v x h) ∙ ap (slice_get es) same ∙ position_there es w y k) in
    sym (entry_at-variable v es x h) ∙ ap (λ (e : Entry). e.lit.variable) is ∙ entry_at-variable w es y k

-- nothing is noted of a literal of another level
pub notes_none : (t : TrailState) (l : Literal) (b : List ℕ) → (IsBetween t l → ⊥) → Notes t (l ∷ []) b b
notes_none t l b off = record {
  kept = λ v h. h;
  whole = λ m there between. elim (among_cases l [] m there) [
    | inl same ↦ absurd (off (subst (IsBetween t) same between))
    | inr none ↦ absurd (false≢true none)
  ];
  only = λ v h. inl h;
}

pub notes_one : (t : TrailState) (l : Literal) (old new : List ℕ) → IsBetween t l → MarksOne old l.variable new → Notes t (l ∷ []) old new
notes_one t l old new between one = record {
  kept = λ v h. still_marked old new l.variable v one h;
  whole = λ m there _. elim (among_cases l [] m there) [
    | inl same ↦ ap (λ (x : Literal). marked new x.variable) same ∙ now_marked old new l.variable one
    | inr none ↦ absurd (false≢true none)
  ];
  only = λ v h. elim (or_cases (marked old v) (eqb l.variable v) (sym (one v) ∙ h)) [
    | inl was ↦ inl was
    | inr same ↦ inr (l, among_first l [], between, eqb-true l.variable v same)
  ];
}

notes_more : (t : TrailState) (xs : List Literal) (y : Literal) (a b c : List ℕ) → Notes t xs a b → Notes t (y ∷ []) b c → Notes t (xs ++ y ∷ []) a c
notes_more t xs y a b c p q = record {
  kept = λ v h. q.kept v (p.kept v h);
  whole = λ l there between. elim (among-push_cases xs y l there) [
    | inl old ↦ q.kept l.variable (p.whole l old between)
    | inr same ↦ q.whole l (subst (λ (x : Literal). among (y ∷ []) x ≡ true) (sym same) (among_first y [])) between
  ];
  only = λ v h. elim (q.only v h) [
    | inl old ↦ elim (p.only v old) [ inl older ↦ inl older | inr s ↦ inr (s.0, among-push_old xs y s.0 s.1, s.2, s.3) ]
    | inr s ↦ elim (among_cases y [] s.0 s.1) [
      | inl same ↦ inr (s.0, subst (λ (x : Literal). among (xs ++ y ∷ []) x ≡ true) (sym same) (among-push_new xs y), s.2, s.3)
      | inr none ↦ absurd (false≢true none)
    ]
  ];
}

-- nothing new is reached
pub reaches_itself : (t : TrailState) (lits : List Literal) (f g : Frontier) → IsFrontier t f → g ≡ record f { between = g.between } → Notes t lits f.between g.between → ((l : Literal) → among lits l ≡ true → level_at t.entries l ≡ t.level → marked f.marks l.variable ≡ true) → Reaches t lits f g
reaches_itself t lits f g is same notes whole = subst (λ (x : Frontier). Notes t lits f.between x.between → Reaches t lits f x) (sym same) (λ n. record {
  frontier = record { present = is.present; marked = is.marked; pending = is.pending };
  kept = λ v h. h;
  whole = whole;
  only = λ v h. inl h;
  still = λ l h. h;
  fresh = λ l _ h. inl h;
  less = omega arith;
  lower = omega arith;
  notes = n;
}) notes

pub reaches_one_itself : (t : TrailState) (l : Literal) (f g : Frontier) → IsFrontier t f → g ≡ record f { between = g.between } → Notes t (l ∷ []) f.between g.between → (level_at t.entries l ≡ t.level → marked f.marks l.variable ≡ true) → Reaches t (l ∷ []) f g
reaches_one_itself t l f g is same notes on = reaches_itself t (l ∷ []) f g is same notes (λ m there present. elim (among_cases l [] m there) [
  | inl same ↦ ap (λ (x : Literal). marked f.marks x.variable) same ∙ on (ap (level_at t.entries) (sym same) ∙ present)
  | inr none ↦ absurd (false≢true none)
])

-- one literal more
pub reaches_more : (t : TrailState) (xs : List Literal) (y : Literal) (a b c : Frontier) → Reaches t xs a b → Reaches t (y ∷ []) b c → Reaches t (xs ++ y ∷ []) a c
reaches_more t xs y a b c p q = record {
  frontier = q.frontier;
  kept = λ v h. q.kept v (p.kept v h);
  whole = λ l there present. elim (among-push_cases xs y l there) [
    | inl old ↦ q.kept l.variable (p.whole l old present)
    | inr same ↦ q.whole l (subst (λ (x : Literal). among (y ∷ []) x ≡ true) (sym same) (among_first y [])) present
  ];
  only = λ v h. elim (q.only v h) [
    | inl old ↦ elim (p.only v old) [ inl older ↦ inl older | inr s ↦ inr (s.0, among-push_old xs y s.0 s.1, s.2, s.3) ]
    | inr s ↦ elim (among_cases y [] s.0 s.1) [
      | inl same ↦ inr (s.0, subst (λ (x : Literal). among (xs ++ y ∷ []) x ≡ true) (sym same) (among-push_new xs y), s.2, s.3)
      | inr none ↦ absurd (false≢true none)
    ]
  ];
  still = λ l h. q.still l (p.still l h);
  fresh = λ l on h. elim (q.fresh l on h) [
    | inl old ↦ elim (p.fresh l on old) [ inl older ↦ inl older | inr waits ↦ inr (q.still l waits) ]
    | inr waits ↦ inr waits
  ];
  less = let k = p.less in let n = q.less in omega arith;
  lower = let k = p.lower in let n = q.lower in omega arith;
  notes = notes_more t xs y a.between b.between c.between p.notes q.notes;
}

-- the negation of a literal is reached for the first time
module _ (t : TrailState) (lit : Literal) (old new : Frontier) (marks : List ℕ) (trail : IsTrail t) (frontier : IsFrontier t old) (present : IsPresent t (negated lit)) (one : MarksOne old.marks lit.variable marks) (off : marked old.marks lit.variable ≡ false) (new_marks : new.marks ≡ marks) (new_between : new.between ≡ old.between) where
  once : HasNoTwice t.entries
  once = trail_once t trail

  new_one : MarksOne old.marks lit.variable new.marks
  new_one = subst (MarksOne old.marks lit.variable) (sym new_marks) one

  kept : (v : ℕ) → marked old.marks v ≡ true → marked new.marks v ≡ true
  kept v h = still_marked old.marks new.marks lit.variable v new_one h

  own : marked new.marks lit.variable ≡ true
  own = now_marked old.marks new.marks lit.variable new_one

  from_old : (v : ℕ) → marked new.marks v ≡ true → (marked old.marks v ≡ true) ⊎ (lit.variable ≡ v)
  from_old v h = elim (or_cases (marked old.marks v) (eqb lit.variable v) (sym (new_one v) ∙ h)) [ inl was ↦ inl was | inr same ↦ inr (eqb-true lit.variable v same) ]

  apart : lit.variable ≢ old.lowest.variable
  apart same = false≢true (sym off ∙ ap (marked old.marks) same ∙ frontier.marked)

  positions_apart : position_of t.entries lit.variable ≢ position_of t.entries old.lowest.variable
  positions_apart same =
      let x = true_entry t.entries (negated lit) once (value-true t.entries (negated lit) present.is_true) in
      let y = true_entry t.entries old.lowest once (value-true t.entries old.lowest frontier.present.is_true) in
      apart (position_apart t.entries lit.variable old.lowest.variable x.0 y.0 x.1 y.1 same)

  -- it is of the present level
  own_notes : Notes t (lit ∷ []) old.between new.between
  own_notes = subst (Notes t (lit ∷ []) old.between) (sym new_between) (notes_none t lit old.between (λ between. let below = between.below in omega (arith, present.level)))

  -- where the new frontier and what waits are known
  reaches_by : position_of t.entries new.lowest.variable ≤ position_of t.entries old.lowest.variable → IsFrontier t new → ((l : Literal) → Waits old l → Waits new l) → Waits new (negated lit) → length new.pending.items ≡ length old.pending.items + 1 → Reaches t (lit ∷ []) old new
  reaches_by low is still waits longer = record {
    frontier = is;
    kept = kept;
    whole = λ l there _. elim (among_cases lit [] l there) [
      | inl same ↦ ap (λ (x : Literal). marked new.marks x.variable) same ∙ own
      | inr none ↦ absurd (false≢true none)
    ];
    only = λ v h. elim (from_old v h) [ inl was ↦ inl was | inr same ↦ inr (lit, among_first lit [], present.level, same) ];
    still = still;
    fresh = λ l on h. elim (from_old l.variable h) [
      | inl was ↦ inl was
      | inr same ↦ inr (subst (Waits new) (true_alike t.entries (negated lit) l once (value-true t.entries (negated lit) present.is_true) (value-true t.entries l on) same) waits)
    ];
    less =
        let x = true_entry t.entries (negated lit) once (value-true t.entries (negated lit) present.is_true) in
        let fewer = unmarked_less old.marks new.marks lit.variable t.entries x.0 new_one off x.1 in
        omega arith;
    lower = low;
    notes = own_notes;
  }

  -- it is the lowest
  lower : position_of t.entries lit.variable < position_of t.entries old.lowest.variable → new.lowest ≡ negated lit → new.pending.items ≡ old.pending.items ++ old.lowest ∷ [] → Reaches t (lit ∷ []) old new
  lower less lowest items =
      let at : position_of t.entries new.lowest.variable ≡ position_of t.entries lit.variable = ap (λ (x : Literal). position_of t.entries x.variable) lowest in
      let olds : All (IsPending t new.marks new.lowest) old.pending.items = All-weaker (IsPending t old.marks old.lowest) (IsPending t new.marks new.lowest) (λ l p. record {
        present = p.present;
        marked = kept l.variable p.marked;
        behind = let b = p.behind in omega arith;
      }) old.pending.items frontier.pending in
      let last : IsPending t new.marks new.lowest old.lowest = record { present = frontier.present; marked = kept old.lowest.variable frontier.marked; behind = omega arith } in
      reaches_by (omega arith) record {
        present = subst (IsPresent t) (sym lowest) present;
        marked = ap (λ (x : Literal). marked new.marks x.variable) lowest ∙ own;
        pending = subst (All (IsPending t new.marks new.lowest)) (sym items) (All-push (IsPending t new.marks new.lowest) old.pending.items old.lowest olds last);
      } (λ l waits. elim waits [
        | inl same ↦ inr (subst (λ (xs : List Literal). Contains xs l) (sym items) (subst (Contains (old.pending.items ++ old.lowest ∷ [])) (sym same) (Contains-push old.pending.items old.lowest)))
        | inr there ↦ inr (subst (λ (xs : List Literal). Contains xs l) (sym items) (Contains-append_left old.pending.items (old.lowest ∷ []) l there))
      ]) (inl (sym lowest)) (ap length items ∙ simp length-append)

  -- it is pending
  higher : position_of t.entries old.lowest.variable ≤ position_of t.entries lit.variable → new.lowest ≡ old.lowest → new.pending.items ≡ old.pending.items ++ negated lit ∷ [] → Reaches t (lit ∷ []) old new
  higher behind lowest items =
      let at : position_of t.entries new.lowest.variable ≡ position_of t.entries old.lowest.variable = ap (λ (x : Literal). position_of t.entries x.variable) lowest in
      let other = positions_apart in
      let olds : All (IsPending t new.marks new.lowest) old.pending.items = All-weaker (IsPending t old.marks old.lowest) (IsPending t new.marks new.lowest) (λ l p. record {
        present = p.present;
        marked = kept l.variable p.marked;
        behind = let b = p.behind in omega arith;
      }) old.pending.items frontier.pending in
      let last : IsPending t new.marks new.lowest (negated lit) = record { present = present; marked = own; behind = omega arith } in
      reaches_by (omega arith) record {
        present = subst (IsPresent t) (sym lowest) frontier.present;
        marked = ap (λ (x : Literal). marked new.marks x.variable) lowest ∙ kept old.lowest.variable frontier.marked;
        pending = subst (All (IsPending t new.marks new.lowest)) (sym items) (All-push (IsPending t new.marks new.lowest) old.pending.items (negated lit) olds last);
      } (λ l waits. elim waits [
        | inl same ↦ inl (same ∙ sym lowest)
        | inr there ↦ inr (subst (λ (xs : List Literal). Contains xs l) (sym items) (Contains-append_left old.pending.items (negated lit ∷ []) l there))
      ]) (inr (subst (λ (xs : List Literal). Contains xs (negated lit)) (sym items) (Contains-push old.pending.items (negated lit)))) (ap length items ∙ simp length-append)

pub reaches_one : (t : TrailState) (lit : Literal) (old mid new : Frontier) → IsTrail t → IsFrontier t old → MayReach t old.marks lit → level_at t.entries lit ≡ t.level → MarksOne old.marks lit.variable mid.marks → marked old.marks lit.variable ≡ false → mid ≡ record old { marks = mid.marks } → Places t (negated lit) mid new → Reaches t (lit ∷ []) old new
reaches_one t lit old mid new trail frontier may level one off same placed =
    let is_true : value_of t.entries (negated lit) ≡ Some true = elim (may.reached level) [ inl on ↦ absurd (false≢true (sym off ∙ on)) | inr is ↦ is ] in
    let present : IsPresent t (negated lit) = record { is_true = is_true; level = level } in
    let lowest : mid.lowest ≡ old.lowest = ap (λ (f : Frontier). f.lowest) same in
    let items : mid.pending.items ≡ old.pending.items = ap (λ (f : Frontier). f.pending.items) same in
    let at : position_of t.entries mid.lowest.variable ≡ position_of t.entries old.lowest.variable = ap (λ (x : Literal). position_of t.entries x.variable) lowest in
    let between : new.between ≡ old.between = placed.between ∙ ap (λ (f : Frontier). f.between) same in
    elim (cases_lt (position_of t.entries lit.variable) (position_of t.entries old.lowest.variable)) [
      | inl less ↦
          let p = placed.below (omega arith) in
          lower t lit old new mid.marks trail frontier present one off placed.marks between less p.0 (p.1 ∙ ap (λ (xs : List Literal). xs ++ mid.lowest ∷ []) items ∙ ap (λ (x : Literal). old.pending.items ++ x ∷ []) lowest)
      | inr behind ↦
          let p = placed.behind (omega arith) in
          higher t lit old new mid.marks trail frontier present one off placed.marks between behind (p.0 ∙ lowest) (p.1 ∙ ap (λ (xs : List Literal). xs ++ negated lit ∷ []) items)
    ]

pub reaches_next : (t : TrailState) (lits : List Literal) (i : ℕ) (l : Literal) (a b c : Frontier) → i < length lits → l ≡ get_or lits i l → Reaches t (take i lits) a b → Reaches t (l ∷ []) b c → Reaches t (take (i + 1) lits) a c
reaches_next t lits i l a b c within is p q =
    let more : take (i + 1) lits ≡ take i lits ++ l ∷ [] = take_more lits i l within ∙ ap (λ (x : Literal). take i lits ++ x ∷ []) (sym is) in
    subst (λ (xs : List Literal). Reaches t xs a c) (sym more) (reaches_more t (take i lits) l a b c p q)

-- the level that is read
pub level_read : (t : TrailState) (l : Literal) (level : ℕ) → option_map (λ e. e.level) (entry_at l.variable t.entries) ≡ Some level → level_at t.entries l ≡ level
level_read t l level h =
    elim (entry_at l.variable t.entries) as (λ o. option_map (λ (e : Entry). e.level) o ≡ Some level → level_in o ≡ level) [
      | None ↦ λ g. absurd (none-some level g)
      | Some e ↦ λ g. same_Some e.level level g
    ] h
