-- Where the search for the first unique implication point begins, goes on and ends.
use Rattle.std.proofs.Common.{◌≡◌, ◌≢◌, ℕ, zero, suc, ◌+◌, ◌<◌, ◌≤◌, true, List, [], ◌∷◌, ◌++◌, length, Some, None, All, Contains, eqb, refl, sym, ◌∙◌, ap, subst, arith, inl, inr, ◌⊎◌}
use Rattle.std.specs.Prelude.{IsSome}
use Rattle.std.proofs.lemmas.Bool.{cases_Bool, cases_lt, eqb-true, false≢true, or_cases}
use Rattle.std.proofs.lemmas.List.Elements.{All-nil, All-pop, All-weaker, Contains-push_cases}
use Rattle.std.proofs.lemmas.Option.{same_Some}
use Rattle.qv_cnf.specs.Listing.{clause_named}
use Rattle.qv_cnf.specs.Literal.{Literal, negated}
use Rattle.qv_cnf.specs.Refutation.{among, hint_reading}
use Rattle.qv_cnf.specs.declared.readings.Reading.TheVariants.{Falsified}
use Rattle.qv_learn.proofs.Clauses.{falsified_all, from_among}
use Rattle.qv_learn.proofs.Positions.{Follows, other_present}
use Rattle.qv_learn.proofs.Reaching.{contains_marked, marked_contains, now_marked}
use Rattle.qv_learn.proofs.Trails.{true_alike}
use Rattle.qv_learn.proofs.Truths.{trail_once}
use Rattle.qv_learn.specs.Frontiers.{HasPoint, IsAlone, IsFrom, IsFrontier, IsNeeded, IsNoted, IsPending, IsPointing, IsPresent, IsResolved, MayReach, Reaches, Resolves, Waits}
use Rattle.qv_learn.specs.Learning.{level_at, position_of, IsClosedBut, IsFirstPoint, IsPoint, StandsIn}
use Rattle.qv_learn.specs.Marking.{marked}
use Rattle.qv_learn.specs.declared.point.Frontier.{Frontier}
use Rattle.qv_watch.specs.Entries.{Entry, reading_on, reason_of, says, trues, value_of}
use Rattle.qv_watch.specs.TrailState.{Holds, IsTrail, TrailState}
use Rattle.qv_watch.specs.declared.propagation.Propagated.TheVariants.{Conflict}
use Rattle.qv_watch.proofs.Readings.{value_of-true}
use Rattle.qv_watch.proofs.Resting.{value-true}

-- in the set of a unique implication point no literal of the present level came before that
below_within : (n : ℕ) (t : TrailState) (conflict : ℕ) (w l : Literal) (p : IsPoint t conflict w) → IsTrail t → 1 ≤ t.level → IsPresent t l → Contains p.set l.variable → position_of t.entries l.variable < n → position_of t.entries l.variable < position_of t.entries w.variable → ⊥
below_within zero t conflict w l p trail above present there fuel less = omega arith
below_within (suc n) t conflict w l p trail above present there fuel less =
    let other : l.variable ≢ w.variable = λ same. let e = ap (position_of t.entries) same in omega arith in
    let some = p.closed.has_reason l present.is_true there other in
    elim (reason_of t.entries l) as (λ o. reason_of t.entries l ≡ o → IsSome o → ⊥) [
      | None ↦ λ _ h. false≢true h
      | Some id ↦ λ came _.
          let o = other_present t trail above l id present.is_true present.level came in
          let m : Literal = negated o.0 in
          let within : Contains p.set o.0.variable = p.closed.of_reason l o.0 id present.is_true there other came o.1 o.2 in
          below_within n t conflict w m p trail above record { is_true = o.3; level = o.2 } within (omega (arith, o.4)) (omega (arith, o.4))
    ] refl some

pub not_above : (t : TrailState) (conflict : ℕ) (w l : Literal) (p : IsPoint t conflict w) → IsTrail t → 1 ≤ t.level → IsPresent t l → Contains p.set l.variable → position_of t.entries w.variable ≤ position_of t.entries l.variable
not_above t conflict w l p trail above present there = elim (cases_lt (position_of t.entries l.variable) (position_of t.entries w.variable)) [
  | inl less ↦ absurd (below_within (position_of t.entries l.variable + 1) t conflict w l p trail above present there (omega arith) less)
  | inr no_less ↦ no_less
]

false_has_value : (es : List Entry) (m : Literal) → value_of es (negated m) ≡ Some true → IsSome (value_of es m)
false_has_value es m off = elim (cases_Bool (among (trues es) m)) [
  | inl on ↦ rw on refl
  | inr none ↦ rw (none, value-true es (negated m) off) refl
]

-- the conflict's clause: its literals are false, and one is of the present level
pub may_reach_false : (t : TrailState) (marks : List ℕ) (lits : List Literal) → reading_on t.entries lits ≡ Falsified → All (MayReach t marks) lits
may_reach_false t marks lits reads = from_among (MayReach t marks) lits (λ m there.
    let off : value_of t.entries (negated m) ≡ Some true = value_of-true t.entries (negated m) (falsified_all (trues t.entries) lits reads m there) in
    record { has_value = false_has_value t.entries m off; reached = λ _. inr off })

-- of a reason's literals the others are false
pub may_reach_reason : (t : TrailState) (marks : List ℕ) (l : Literal) (id : ℕ) (f : Follows t l id) → value_of t.entries l ≡ Some true → marked marks l.variable ≡ true → All (MayReach t marks) f.lits
may_reach_reason t marks l id f is_true on = from_among (MayReach t marks) f.lits (λ m there. elim (f.others m there) [
  | inl same ↦ record { has_value = subst IsSome (sym (ap (value_of t.entries) same ∙ is_true)) refl; reached = λ _. inl (ap (λ (x : Literal). marked marks x.variable) same ∙ on) }
  | inr o ↦ record { has_value = false_has_value t.entries m o.0; reached = λ _. inr o.0 }
])

-- one literal alone is reached
pub frontier_alone : (t : TrailState) (l : Literal) (f : Frontier) → IsPresent t l → IsAlone l f → IsFrontier t f
frontier_alone t l f present alone = record {
  present = subst (IsPresent t) (sym alone.lowest) present;
  marked = ap (λ (x : Literal). marked f.marks x.variable) alone.lowest ∙ now_marked [] f.marks l.variable alone.marks;
  pending = subst (All (IsPending t f.marks f.lowest)) (sym alone.pending) (All-nil (IsPending t f.marks f.lowest));
}

-- the search begins
pub pointing_starts : (t : TrailState) (conflict : ℕ) (clause : List Literal) (start : Literal) (f g : Frontier) → IsTrail t → clause_named conflict t.clauses ≡ Some clause → among clause start ≡ true → IsPresent t (negated start) → IsAlone (negated start) f → Reaches t clause f g → IsPointing t conflict g
pointing_starts t conflict clause start f g trail named there present alone r =
    let one : (v : ℕ) → marked g.marks v ≡ true → (m : Literal) × (among clause m ≡ true) × (level_at t.entries m ≡ t.level) × (m.variable ≡ v) = λ v h. elim (r.only v h) [
      | inl was ↦ elim (or_cases (marked [] v) (eqb start.variable v) (sym (alone.marks v) ∙ was)) [
        | inl none ↦ absurd (false≢true none)
        | inr same ↦ (start, there, present.level, eqb-true start.variable v same)
      ]
      | inr s ↦ s
    ] in
    record {
      frontier = r.frontier;
      of_conflict = λ l s at. r.whole l (subst (λ (ls : List Literal). among ls l ≡ true) (same_Some s.0 clause (sym s.1 ∙ named)) s.2) at;
      resolved = λ l is_true h. elim (r.fresh l is_true h) [
        | inl was ↦ elim (or_cases (marked [] l.variable) (eqb start.variable l.variable) (sym (alone.marks l.variable) ∙ was)) [
          | inl none ↦ absurd (false≢true none)
          | inr same ↦
              let start_true = value-true t.entries (negated start) present.is_true in
              let is : negated start ≡ l = true_alike t.entries (negated start) l (trail_once t trail) start_true (value-true t.entries l is_true) (eqb-true start.variable l.variable same) in
              inl (r.still l (inl (sym is ∙ sym alone.lowest)))
        ]
        | inr waits ↦ inl waits
      ];
      needed = λ v h w p. let s = one v h in subst (Contains p.set) s.3 (p.closed.of_conflict s.0 (clause, named, s.1) s.2);
      of_conflict_between = λ l s between. r.notes.whole l (subst (λ (ls : List Literal). among ls l ≡ true) (same_Some s.0 clause (sym s.1 ∙ named)) s.2) between;
      noted = λ v h. elim (r.notes.only v h) [
        | inl was ↦ absurd (false≢true (ap (λ (b : List ℕ). marked b v) (sym alone.between) ∙ was))
        | inr s ↦ record { literal = s.0; is = s.3; between = s.2; from = inl (clause, named, s.1) }
      ];
    }

-- a pending literal is taken
pub frontier_popped : (t : TrailState) (f g : Frontier) (l : Literal) → IsFrontier t f → f.pending.items ≡ g.pending.items ++ l ∷ [] → g ≡ record f { pending = g.pending } → IsFrontier t g × IsPending t g.marks g.lowest l
frontier_popped t f g l is items same =
    let marks : g.marks ≡ f.marks = ap (λ (x : Frontier). x.marks) same in
    let lowest : g.lowest ≡ f.lowest = ap (λ (x : Frontier). x.lowest) same in
    let parts = All-pop (IsPending t f.marks f.lowest) f.pending.items g.pending.items (Some l) items is.pending in
    let all : All (IsPending t g.marks g.lowest) g.pending.items = rw (marks, lowest) parts.0 in
    let last : IsPending t g.marks g.lowest l = rw (marks, lowest) parts.1 in (
      record {
        present = rw lowest is.present;
        marked = rw (marks, lowest) is.marked;
        pending = all;
      },
      last,
    )

-- it is resolved
module _ (t : TrailState) (conflict : ℕ) (f g new : Frontier) (l : Literal) (trail : IsTrail t) (above : 1 ≤ t.level) (old : IsPointing t conflict f) (items : f.pending.items ≡ g.pending.items ++ l ∷ []) (same : g ≡ record f { pending = g.pending }) (r : Resolves t l g new) where
  was_marked : (v : ℕ) → marked g.marks v ≡ true → marked f.marks v ≡ true
  was_marked v h = sym (ap (λ (x : Frontier). marked x.marks v) same) ∙ h

  still_marked : (v : ℕ) → marked f.marks v ≡ true → marked new.marks v ≡ true
  still_marked v h = r.reaches.kept v (ap (λ (x : Frontier). marked x.marks v) same ∙ h)

  l_pending : IsPending t g.marks g.lowest l
  l_pending = (frontier_popped t f g l old.frontier items same).1

  here : (m : Literal) → StandsIn t.clauses r.reason m → among r.lits m ≡ true
  here m s = subst (λ (ls : List Literal). among ls m ≡ true) (same_Some s.0 r.lits (sym s.1 ∙ r.named)) s.2

  is_resolved : IsResolved t new.marks new.between l
  is_resolved = record {
    reason = r.reason;
    came = r.came;
    others = λ m s present. r.reaches.whole m (here m s) present;
    noted = λ m s between. r.reaches.notes.whole m (here m s) between;
  }

  still_noted : (v : ℕ) → marked f.between v ≡ true → marked new.between v ≡ true
  still_noted v h = r.reaches.notes.kept v (ap (λ (x : Frontier). marked x.between v) same ∙ h)

  -- what came behind the lowest still does
  still_pending : (x : Literal) → IsPending t f.marks f.lowest x → IsPending t new.marks new.lowest x
  still_pending x p = record {
    present = p.present;
    marked = still_marked x.variable p.marked;
    behind =
        let at : position_of t.entries g.lowest.variable ≡ position_of t.entries f.lowest.variable = ap (λ (y : Frontier). position_of t.entries y.lowest.variable) same in
        let low = r.reaches.lower in
        let before = p.behind in
        omega arith;
  }

  l_behind : IsPending t new.marks new.lowest l
  l_behind = record {
    present = l_pending.present;
    marked = r.reaches.kept l.variable l_pending.marked;
    behind = let low = r.reaches.lower in let before = l_pending.behind in omega arith;
  }

  still_from : (m : Literal) → IsFrom t conflict f.marks f.lowest m → IsFrom t conflict new.marks new.lowest m
  still_from m h = elim h [ inl stands ↦ inl stands | inr x ↦ inr (x.0, x.1, still_pending x.0 x.2, x.3, x.4) ]

  now_noted : (v : ℕ) → marked new.between v ≡ true → IsNoted t conflict new.marks new.lowest v
  now_noted v h = elim (r.reaches.notes.only v h) [
    | inl was ↦
        let n = old.noted v (sym (ap (λ (x : Frontier). marked x.between v) same) ∙ was) in
        record { literal = n.literal; is = n.is; between = n.between; from = still_from n.literal n.from }
    | inr s ↦ record { literal = s.0; is = s.3; between = s.2; from = inr (l, r.reason, l_behind, r.came, (r.lits, r.named, s.1)) }
  ]

  now_resolved : (m : Literal) → Waits f m ⊎ IsResolved t f.marks f.between m → Waits new m ⊎ IsResolved t new.marks new.between m
  now_resolved m h = elim h [
    | inl waits ↦ elim waits [
      | inl lowest ↦ inl (r.reaches.still m (inl (lowest ∙ sym (ap (λ (x : Frontier). x.lowest) same))))
      | inr there ↦ elim (Contains-push_cases g.pending.items l m (subst (λ (xs : List Literal). Contains xs m) items there)) [
        | inl still ↦ inl (r.reaches.still m (inr still))
        | inr is ↦ inr (subst (IsResolved t new.marks new.between) is is_resolved)
      ]
    ]
    | inr done ↦ inr record { reason = done.reason; came = done.came; others = λ x s present. still_marked x.variable (done.others x s present); noted = λ x s between. still_noted x.variable (done.noted x s between) }
  ]

  -- the literal isn't a unique implication point, as the lowest came before it
  now_needed : (m : Literal) → among r.lits m ≡ true → level_at t.entries m ≡ t.level → IsNeeded t conflict m.variable
  now_needed m there present w p =
      let low : Contains p.set f.lowest.variable = old.needed f.lowest.variable old.frontier.marked w p in
      let within = not_above t conflict w f.lowest p trail above old.frontier.present low in
      let at : position_of t.entries g.lowest.variable ≡ position_of t.entries f.lowest.variable = ap (λ (x : Frontier). position_of t.entries x.lowest.variable) same in
      let behind = l_pending.behind in
      let other : l.variable ≢ w.variable = λ is. let e = ap (position_of t.entries) is in omega arith in
      p.closed.of_reason l m r.reason l_pending.present.is_true (old.needed l.variable (was_marked l.variable l_pending.marked) w p) other r.came (r.lits, r.named, there) present

  pub pointing_goes_on : IsPointing t conflict new
  pointing_goes_on = record {
    frontier = r.reaches.frontier;
    of_conflict = λ m s present. still_marked m.variable (old.of_conflict m s present);
    resolved = λ m is_true h. elim (r.reaches.fresh m is_true h) [
      | inl was ↦ now_resolved m (old.resolved m is_true (was_marked m.variable was))
      | inr waits ↦ inl waits
    ];
    needed = λ v h. elim (r.reaches.only v h) [
      | inl was ↦ old.needed v (was_marked v was)
      | inr s ↦ subst (IsNeeded t conflict) s.3 (now_needed s.0 s.1 s.2)
    ];
    of_conflict_between = λ m s between. still_noted m.variable (old.of_conflict_between m s between);
    noted = now_noted;
  }

-- the search ends
module _ (t : TrailState) (conflict : ℕ) (f : Frontier) (trail : IsTrail t) (above : 1 ≤ t.level) (is : IsPointing t conflict f) (none : length f.pending.items ≡ 0) where
  done : (l : Literal) → value_of t.entries l ≡ Some true → Contains f.marks l.variable → l.variable ≢ f.lowest.variable → IsResolved t f.marks f.between l
  done l is_true there other = elim (is.resolved l is_true (contains_marked f.marks l.variable there)) [
    | inl waits ↦ elim waits [
      | inl lowest ↦ absurd (other (ap (λ (x : Literal). x.variable) lowest))
      | inr pending ↦ absurd (omega (arith, pending.1))
    ]
    | inr resolved ↦ resolved
  ]

  closed_here : IsClosedBut t conflict f.lowest.variable f.marks
  closed_here = record {
    of_conflict = λ l s present. marked_contains f.marks l.variable (is.of_conflict l s present);
    has_reason = λ l is_true there other. subst IsSome (sym (done l is_true there other).came) refl;
    of_reason = λ l m id is_true there other came s present.
        let d = done l is_true there other in
        let same : d.reason ≡ id = same_Some d.reason id (sym d.came ∙ came) in
        marked_contains f.marks m.variable (d.others m (subst (λ k. StandsIn t.clauses k m) (sym same) s) present);
  }

  first_here : IsFirstPoint t conflict f.lowest
  first_here = record {
    point = record {
      is_true = is.frontier.present.is_true;
      present = is.frontier.present.level;
      set = f.marks;
      closed = closed_here;
    };
    last = λ w p. not_above t conflict w f.lowest p trail above is.frontier.present (is.needed f.lowest.variable is.frontier.marked w p);
  }

  pub pointing_ends : (set : List ℕ) × HasPoint t conflict (f.lowest ∷ []) set f.between
  pointing_ends = (
    f.marks,
    record {
      point = f.lowest;
      is = refl;
      scouted = record {
        point = first_here;
        own = marked_contains f.marks f.lowest.variable is.frontier.marked;
        closed = closed_here;
        needed = λ v there. is.needed v (contains_marked f.marks v there);
        of_conflict = is.of_conflict_between;
        of_reason = λ l m id is_true there other came s between.
            let d = done l is_true there other in
            let same : d.reason ≡ id = same_Some d.reason id (sym d.came ∙ came) in
            d.noted m (subst (λ k. StandsIn t.clauses k m) (sym same) s) between;
        noted = is.noted;
      };
    },
  )

-- the conflict's clause is false, and has a literal of the present level
pub conflict_reads : (t : TrailState) (conflict : ℕ) (lits : List Literal) → IsTrail t → t.answer ≡ Some (Conflict conflict) → clause_named conflict t.clauses ≡ Some lits → reading_on t.entries lits ≡ Falsified
conflict_reads t conflict lits trail answer named =
    let fails : says t.clauses t.entries conflict ≡ Falsified = subst (Holds t.clauses t.entries) answer trail.answer in
    ap (hint_reading (trues t.entries)) (sym named) ∙ fails

pub conflict_values : (t : TrailState) (lits : List Literal) → reading_on t.entries lits ≡ Falsified → All (λ l. IsSome (value_of t.entries l)) lits
conflict_values t lits reads = All-weaker (MayReach t []) (λ l. IsSome (value_of t.entries l)) (λ l may. may.has_value) lits (may_reach_false t [] lits reads)

pub conflict_negated : (t : TrailState) (lits : List Literal) (l : Literal) → reading_on t.entries lits ≡ Falsified → among lits l ≡ true → level_at t.entries l ≡ t.level → IsPresent t (negated l)
conflict_negated t lits l reads there level = record { is_true = value_of-true t.entries (negated l) (falsified_all (trues t.entries) lits reads l there); level = level }
