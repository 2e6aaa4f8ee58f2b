-- Where a search that gathers a clause begins, and where it ends.
use Rattle.std.proofs.Common.{◌≡◌, ◌≢◌, ℕ, ◌<◌, ◌≤◌, Bool, true, false, not, ◌&&◌, filter, List, [], ◌∷◌, ◌++◌, map, Some, None, All, eqb, refl, sym, ◌∙◌, ap, subst, arith, inl, inr, ◌⊎◌}
use Rattle.std.specs.List.{list_any}
use Rattle.std.specs.Prelude.{AllPairs, Contains, IsSome}
use Rattle.std.proofs.lemmas.Bool.{and_parts, cases_Bool, cases_eq, eq-eqb, eqb-true, ne_eqb, or_cases, or_left, false≢true}
use Rattle.std.proofs.lemmas.List.{append-nil}
use Rattle.std.proofs.lemmas.List.Elements.{All-append, All-cons, All-contains, All-head, All-nil, All-weaker, Contains-append_left, Contains-push, Contains-push_cases}
use Rattle.std.proofs.lemmas.Option.{none-some, same_Some}
use Rattle.qv_cnf.specs.Listing.{Numbered, clause_named}
use Rattle.qv_cnf.specs.Literal.{Literal, negated}
use Rattle.qv_cnf.specs.Refutation.{among}
use Rattle.qv_learn.proofs.Clauses.{all_among, from_among}
use Rattle.qv_learn.proofs.Contained.{Contains-cons_cases, Contains-head, Contains-tail}
use Rattle.qv_learn.proofs.Reaching.{contains_marked, marked_contains}
use Rattle.qv_learn.proofs.Reasons.{is_reason}
use Rattle.qv_learn.proofs.Trails.{true_alike}
use Rattle.qv_learn.proofs.Turning.{reason_true}
use Rattle.qv_learn.proofs.Truths.{conflict_false, entry_of, false_negated, reason_others, trail_once, true_negated}
use Rattle.qv_learn.specs.Frontiers.{HasPoint, IsBetween}
use Rattle.qv_learn.specs.Gathering.{Gathered, IsDone, IsGathering, IsHinted, IsKept, IsMet, IsResolved, IsTask, IsToVisit}
use Rattle.qv_learn.specs.Learning.{greatest_level, level_at, level_in, position_of, Asserts, IsClosedBut, IsFalseAtZero, IsPoint, IsPresentReason, MayBeLeftOut, MayStand, StandsIn}
use Rattle.qv_learn.specs.Marking.{marked}
use Rattle.qv_learn.specs.Searching.{IsImplied, Searched, Starts}
use Rattle.qv_learn.specs.declared.search.Task.{Task}
use Rattle.qv_learn.specs.declared.search.Task.TheVariants.{Visit, Leave}
use Rattle.qv_watch.specs.Entries.{entry_at, reason_of, value_of}
use Rattle.qv_watch.specs.TrailState.{IsTrail, TrailState}
use Rattle.qv_watch.proofs.Readings.{value_of-true}
use Rattle.qv_watch.specs.declared.propagation.Propagated.TheVariants.{Conflict}
use Rattle.qv_watch.proofs.Resting.{twice_negated, value-true}

-- there is no point or one
points_cases : (t : TrailState) (conflict : ℕ) (points : List Literal) (set b : List ℕ) → (t.level ≡ 0 → points ≡ []) → (1 ≤ t.level → HasPoint t conflict points set b) → (points ≡ []) ⊎ ((1 ≤ t.level) × HasPoint t conflict points set b)
points_cases t conflict points set b none some = elim (cases_eq t.level 0) [
  | inl low ↦ inl (none low)
  | inr above ↦ let high : 1 ≤ t.level = omega arith in inr (high, some high)
]

-- at the start
module _ (t : TrailState) (conflict : ℕ) (points : List Literal) (b : List ℕ) (s : Searched) (trail : IsTrail t) (answer : t.answer ≡ Some (Conflict conflict)) (st : Starts t conflict points b s) where
  closed_set : (set : List ℕ) × (1 ≤ t.level → HasPoint t conflict points set b)
  closed_set = elim (cases_eq t.level 0) [
    | inl low ↦ ([], λ high. absurd (omega arith))
    | inr above ↦ let p = st.point (omega arith) in (p.0, λ _. p.1)
  ]

  start_cases : (points ≡ []) ⊎ ((1 ≤ t.level) × HasPoint t conflict points closed_set.0 b)
  start_cases = points_cases t conflict points closed_set.0 b st.none closed_set.1

  to_visit : (m : Literal) → among st.clause m ≡ true → IsToVisit t closed_set.0 b (negated m)
  to_visit m there =
      let stands : StandsIn t.clauses conflict m = (st.clause, st.named, there) in
      record {
        is_true = conflict_false t m conflict trail answer stands;
        present = λ high top. (closed_set.1 high).scouted.closed.of_conflict m stands top;
        noted = λ between.
            let above = between.above in
            let below = between.below in
            (closed_set.1 (omega arith)).scouted.of_conflict m stands record { above = between.above; below = between.below };
      }

  start_tasks : All (IsTask t points closed_set.0 b s) s.tasks
  start_tasks = All-weaker (λ task. (m : Literal) × (task ≡ Visit (negated m)) × (among st.clause m ≡ true) × (m.variable ≢ 0)) (IsTask t points closed_set.0 b s) (λ task v. subst (IsTask t points closed_set.0 b s) (sym v.1) (to_visit v.0 v.2)) s.tasks st.visits.each

  start_met : (l : Literal) → StandsIn t.clauses conflict l → IsMet s l
  start_met l stands =
      let same : stands.0 ≡ st.clause = same_Some stands.0 st.clause (sym stands.1 ∙ st.named) in
      let there : among st.clause l ≡ true = subst (λ (ls : List Literal). among ls l ≡ true) same stands.2 in
      let low = (entry_of t (negated l) trail (conflict_false t l conflict trail answer stands)).variable in
      inr (st.visits.whole l there (λ zero. omega arith))

  start_lits : (h : HasPoint t conflict points closed_set.0 b) → s.lits ≡ negated h.point ∷ []
  start_lits h = st.lits ∙ ap (map negated) h.is

  start_apart : AllPairs (λ l m. l.variable ≢ m.variable) s.lits
  start_apart = elim start_cases [
    | inl none ↦ subst (AllPairs (λ l m. l.variable ≢ m.variable)) (sym (st.lits ∙ ap (map negated) none)) (λ i j d less within. absurd (omega (arith, within)))
    | inr p ↦ subst (AllPairs (λ l m. l.variable ≢ m.variable)) (sym (start_lits p.1)) (λ i j d less within. absurd (omega (arith, within)))
  ]

  start_marked : All (λ l. marked s.marks l.variable ≡ true) s.lits
  start_marked = elim start_cases [
    | inl none ↦ subst (All (λ l. marked s.marks l.variable ≡ true)) (sym (st.lits ∙ ap (map negated) none)) (All-nil (λ l. marked s.marks l.variable ≡ true))
    | inr p ↦
        let u = p.1.point in
        let own : marked s.marks u.variable ≡ true = st.marks u.variable ∙ ap (list_any (λ l. eqb l.variable u.variable)) p.1.is ∙ or_left (eqb u.variable u.variable) false (eq-eqb u.variable u.variable refl) in
        subst (All (λ l. marked s.marks l.variable ≡ true)) (sym (start_lits p.1)) (All-cons (λ l. marked s.marks l.variable ≡ true) (negated u) [] own (All-nil (λ l. marked s.marks l.variable ≡ true)))
  ]

  start_found : 1 ≤ t.level → (v : ℕ) → marked s.marks v ≡ true → level_in (entry_at v t.entries) ≡ t.level → Contains closed_set.0 v
  start_found high v on top =
      let h = closed_set.1 high in
      let u = h.point in
      let is : list_any (λ m. eqb m.variable v) (u ∷ []) ≡ true = sym (st.marks v ∙ ap (list_any (λ m. eqb m.variable v)) h.is) ∙ on in
      elim (or_cases (eqb u.variable v) false is) [
        | inl own ↦ subst (Contains closed_set.0) (eqb-true u.variable v own) h.scouted.own
        | inr never ↦ absurd (false≢true never)
      ]

  none_between : (l : Literal) → marked s.marks l.variable ≡ true → IsBetween t l → ⊥
  none_between l on between = elim start_cases [
    | inl none ↦ false≢true (sym (st.marks l.variable ∙ ap (list_any (λ m. eqb m.variable l.variable)) none) ∙ on)
    | inr p ↦
        let u = p.1.point in
        let is : (list_any (λ m. eqb m.variable l.variable) (u ∷ [])) ≡ true = sym (st.marks l.variable ∙ ap (list_any (λ m. eqb m.variable l.variable)) p.1.is) ∙ on in
        elim (or_cases (eqb u.variable l.variable) false is) [
          | inl own ↦
              let same : level_at t.entries u ≡ level_at t.entries l = ap (λ (v : ℕ). level_in (entry_at v t.entries)) (eqb-true u.variable l.variable own) in
              let below = between.below in
              omega (arith, p.1.scouted.point.point.present)
          | inr never ↦ false≢true never
        ]
  ]

  starts_here : IsGathering t conflict points b s
  starts_here = record {
    set = closed_set.0;
    none = st.none;
    some = closed_set.1;
    kept = [];
    lits = st.lits ∙ sym (append-nil (map negated points));
    each = All-nil (IsKept t b);
    level = st.level;
    apart = start_apart;
    met = start_marked;
    found = start_found;
    tasks = start_tasks;
    hints = subst (All (λ id. (l : Literal) × IsResolved t points b s l id)) (sym st.hints) (All-nil (λ id. (l : Literal) × IsResolved t points b s l id));
    of_conflict = start_met;
    whole = λ l on _ between. absurd (none_between l on between);
    done = λ l _ on _ apart. absurd (false≢true (sym apart ∙ sym (st.marks l.variable) ∙ on));
  }

pub gathering_starts : (t : TrailState) (conflict : ℕ) (points : List Literal) (b : List ℕ) (s : Searched) → IsTrail t → t.answer ≡ Some (Conflict conflict) → Starts t conflict points b s → IsGathering t conflict points b s
gathering_starts t conflict points b s trail answer st = starts_here t conflict points b s trail answer st

-- there are none at level 0
kept_none : (t : TrailState) (b : List ℕ) (ls : List Literal) → t.level ≡ 0 → All (IsKept t b) ls → ls ≡ []
kept_none t b [] low all = refl
kept_none t b (x ∷ xs) low all = absurd (let k = All-head (IsKept t b) x xs all in omega (arith, k.between.below))

-- the marked ones of a set that are kept
filtered : (p : ℕ → Bool) (set : List ℕ) (v : ℕ) → marked (filter p set) v ≡ (marked set v && p v)
filtered p [] v = refl
filtered p (w ∷ ws) v = elim (cases_Bool (p w)) [
  | inl on ↦ elim (cases_Bool (eqb w v)) [
    | inl same ↦ let is : p v ≡ true = ap p (sym (eqb-true w v same)) ∙ on in rw (on, same, is) refl
    | inr other ↦ rw (on, other) (filtered p ws v)
  ]
  | inr off ↦ elim (cases_Bool (eqb w v)) [
    | inl same ↦ let is : p v ≡ false = ap p (sym (eqb-true w v same)) ∙ off in rw (off, same, is) (filtered p ws v ∙ rw is (never (marked ws v)))
    | inr other ↦ rw (off, other) (filtered p ws v)
  ]
]
  where
    never : (x : Bool) → (x && false) ≡ false
    never true = refl
    never false = refl

-- the literal stands in one of these clauses, or in none
stands_cases : (clauses : List Numbered) (l : Literal) (id : ℕ) → StandsIn clauses id l ⊎ (StandsIn clauses id l → ⊥)
stands_cases clauses l id =
    elim (clause_named id clauses) as (λ o. clause_named id clauses ≡ o → StandsIn clauses id l ⊎ (StandsIn clauses id l → ⊥)) [
      | None ↦ λ is. inr (λ s. none-some s.0 (sym is ∙ s.1))
      | Some lits ↦ λ is. elim (cases_Bool (among lits l)) [
        | inl there ↦ inl (lits, is, there)
        | inr off ↦ inr (λ s. let same : s.0 ≡ lits = same_Some s.0 lits (sym s.1 ∙ is) in false≢true (sym off ∙ ap (λ (ls : List Literal). among ls l) (sym same) ∙ s.2))
      ]
    ] refl

standing_cases : (clauses : List Numbered) (l : Literal) (ids : List ℕ) → ((k : ℕ) × Contains ids k × StandsIn clauses k l) ⊎ ((k : ℕ) → Contains ids k → StandsIn clauses k l → ⊥)
standing_cases clauses l [] = inr (λ k none s. omega (arith, none.1))
standing_cases clauses l (id ∷ ids) = elim (stands_cases clauses l id) [
  | inl own ↦ inl (id, Contains-head id ids, own)
  | inr off ↦ elim (standing_cases clauses l ids) [
    | inl later ↦ inl (later.0, Contains-tail id ids later.0 later.1, later.2)
    | inr none ↦ inr (λ k there s. elim (Contains-cons_cases id ids k there) [
      | inl same ↦ off (subst (λ (i : ℕ). StandsIn clauses i l) (sym same) s)
      | inr rest ↦ none k rest s
    ])
  ]
]

-- at the end
module _ (t : TrailState) (conflict : ℕ) (points : List Literal) (b : List ℕ) (s : Searched) (trail : IsTrail t) (answer : t.answer ≡ Some (Conflict conflict)) (g : IsGathering t conflict points b s) (over : s.tasks ≡ []) where
  abbrev all_hints : List ℕ
  all_hints = s.hints ++ conflict ∷ []

  no_task : (task : Task) → Contains s.tasks task → ⊥
  no_task task there = let none : Contains [] task = subst (λ (ts : List Task). Contains ts task) over there in omega (arith, none.1)

  is_marked : (l : Literal) → IsMet s l → marked s.marks l.variable ≡ true
  is_marked l h = elim h [ inl on ↦ on | inr there ↦ absurd (no_task (Visit (negated l)) there) ]

  -- what the kept literals and the point's negation have, each literal has
  lits_all : (P : Literal → Type 0) → ((h : HasPoint t conflict points g.set b) → 1 ≤ t.level → P (negated h.point)) → ((l : Literal) → IsKept t b l → P l) → All P s.lits
  lits_all P of_point of_kept =
      let of_points : All P (map negated points) = elim (points_cases t conflict points g.set b g.none g.some) [
        | inl none ↦ subst (λ (ps : List Literal). All P (map negated ps)) (sym none) (All-nil P)
        | inr p ↦ subst (λ (ps : List Literal). All P (map negated ps)) (sym p.1.is) (All-cons P (negated p.1.point) [] (of_point p.1 p.0) (All-nil P))
      ] in
      subst (All P) (sym g.lits) (All-append P (map negated points) g.kept of_points (All-weaker (IsKept t b) P of_kept g.kept g.each))

  false_again : (l : Literal) → value_of t.entries (negated l) ≡ Some true → value_of t.entries l ≡ Some false
  false_again l h = subst (λ (m : Literal). value_of t.entries m ≡ Some false) (twice_negated l) (true_negated t.entries (negated l) (trail_once t trail) h)

  -- the variables of the present level that were met are a set that is closed but for the point
  abbrev is_top : ℕ → Bool
  is_top v = eqb (level_in (entry_at v t.entries)) t.level

  abbrev tops : List ℕ
  tops = filter is_top s.marks

  in_tops : (l : Literal) → marked s.marks l.variable ≡ true → level_at t.entries l ≡ t.level → Contains tops l.variable
  in_tops l on top = marked_contains tops l.variable (filtered is_top s.marks l.variable ∙ rw (on, eq-eqb (level_at t.entries l) t.level top) refl)

  of_tops : (v : ℕ) → Contains tops v → (marked s.marks v ≡ true) × (level_in (entry_at v t.entries) ≡ t.level)
  of_tops v there =
      let both = and_parts (marked s.marks v) (is_top v) (sym (filtered is_top s.marks v) ∙ contains_marked tops v there) in
      (both.0, eqb-true (level_in (entry_at v t.entries)) t.level both.1)

  module _ (high : 1 ≤ t.level) where
    abbrev p : HasPoint t conflict points g.set b
    p = g.some high

    apart_from : (l : Literal) → l.variable ≢ p.point.variable → list_any (λ u. eqb u.variable l.variable) points ≡ false
    apart_from l other = ap (list_any (λ u. eqb u.variable l.variable)) p.is ∙ rw (ne_eqb p.point.variable l.variable (λ same. other (sym same))) refl

    top_done : (l : Literal) → value_of t.entries l ≡ Some true → Contains tops l.variable → l.variable ≢ p.point.variable → IsDone t points b s l
    top_done l is_true there other = let both = of_tops l.variable there in g.done l is_true both.0 both.1 (apart_from l other)

    closed_tops : IsClosedBut t conflict p.point.variable tops
    closed_tops = record {
      of_conflict = λ l stands top. in_tops l (is_marked l (g.of_conflict l stands)) top;
      has_reason = λ l is_true there other. subst IsSome (sym (top_done l is_true there other).resolved.reason) refl;
      of_reason = λ l m id is_true there other came stands top.
          let d = top_done l is_true there other in
          let same : d.reason ≡ id = same_Some d.reason id (sym d.resolved.reason ∙ came) in
          let here : StandsIn t.clauses d.reason m = subst (λ k. StandsIn t.clauses k m) (sym same) stands in
          let on : marked s.marks m.variable ≡ true = elim (cases_eq m.variable l.variable) [
            | inl own ↦ ap (marked s.marks) own ∙ is_marked l d.resolved.met
            | inr apart ↦ is_marked m (d.resolved.others m here apart)
          ] in
          in_tops m on top;
    }

    -- so each variable that the first pass marked was met, and but for the point was resolved
    found_done : (x : Literal) → value_of t.entries x ≡ Some true → Contains g.set x.variable → x.variable ≢ p.point.variable → IsDone t points b s x
    found_done x is_true there other =
        let point : IsPoint t conflict p.point = record { is_true = p.scouted.point.point.is_true; present = p.scouted.point.point.present; set = tops; closed = closed_tops } in
        top_done x is_true (p.scouted.needed x.variable there p.point point) other

    taken_hint : (x : Literal) → IsDone t points b s x → (id : ℕ) × Contains s.hints id × (reason_of t.entries x ≡ Some id)
    taken_hint x d = elim d.taken [
      | inl hint ↦ (d.reason, hint, d.resolved.reason)
      | inr later ↦ absurd (no_task (Leave later.0) later.1)
    ]

  -- two false literals of one variable are one
  false_alike : (l m : Literal) → value_of t.entries (negated l) ≡ Some true → value_of t.entries (negated m) ≡ Some true → l.variable ≡ m.variable → l ≡ m
  false_alike l m l_off m_off same =
      let is : negated l ≡ negated m = true_alike t.entries (negated l) (negated m) (trail_once t trail) (value-true t.entries (negated l) l_off) (value-true t.entries (negated m) m_off) same in
      sym (twice_negated l) ∙ ap negated is ∙ twice_negated m

  -- where the point's negation stood in no hinted clause, the others of the present level would be
  -- closed without it; but each point needs it
  module _ (high : 1 ≤ t.level) where
    abbrev at : Literal
    at = (g.some high).point

    is_point : (m : Literal) → value_of t.entries (negated m) ≡ Some true → m.variable ≡ at.variable → m ≡ negated at
    is_point m off same = false_alike m (negated at) off (subst (λ (l : Literal). value_of t.entries l ≡ Some true) (sym (twice_negated at)) (g.some high).scouted.point.point.is_true) same

    abbrev is_other : ℕ → Bool
    is_other v = is_top v && not (eqb v at.variable)

    abbrev others : List ℕ
    others = filter is_other s.marks

    in_others : (l : Literal) → marked s.marks l.variable ≡ true → level_at t.entries l ≡ t.level → l.variable ≢ at.variable → Contains others l.variable
    in_others l on top other = marked_contains others l.variable (filtered is_other s.marks l.variable ∙ rw (on, eq-eqb (level_at t.entries l) t.level top, ne_eqb l.variable at.variable other) refl)

    of_others : (v : ℕ) → Contains others v → (marked s.marks v ≡ true) × (level_in (entry_at v t.entries) ≡ t.level) × (v ≢ at.variable)
    of_others v there =
        let both = and_parts (marked s.marks v) (is_other v) (sym (filtered is_other s.marks v) ∙ contains_marked others v there) in
        let parts = and_parts (is_top v) (not (eqb v at.variable)) both.1 in
        (both.0, eqb-true (level_in (entry_at v t.entries)) t.level parts.0, λ same. false≢true (sym (ap not (eq-eqb v at.variable same)) ∙ parts.1))

    other_done : (l : Literal) → value_of t.entries l ≡ Some true → Contains others l.variable → IsDone t points b s l
    other_done l is_true there = let o = of_others l.variable there in g.done l is_true o.0 o.1 (apart_from high l o.2)

    closed_others : ((k : ℕ) → Contains all_hints k → StandsIn t.clauses k (negated at) → ⊥) → IsClosedBut t conflict at.variable others
    closed_others none = record {
      of_conflict = λ l stands top. in_others l (is_marked l (g.of_conflict l stands)) top (λ same.
          none conflict (Contains-push s.hints conflict) (subst (StandsIn t.clauses conflict) (is_point l (conflict_false t l conflict trail answer stands) same) stands));
      has_reason = λ l is_true there other. subst IsSome (sym (other_done l is_true there).resolved.reason) refl;
      of_reason = λ l m id is_true there other came stands top.
          let d = other_done l is_true there in
          let same : d.reason ≡ id = same_Some d.reason id (sym d.resolved.reason ∙ came) in
          let here : StandsIn t.clauses d.reason m = subst (λ k. StandsIn t.clauses k m) (sym same) stands in
          let on : marked s.marks m.variable ≡ true = elim (cases_eq m.variable l.variable) [
            | inl own ↦ ap (marked s.marks) own ∙ is_marked l d.resolved.met
            | inr apart ↦ is_marked m (d.resolved.others m here apart)
          ] in
          let hint = taken_hint high l d in
          let alike : hint.0 ≡ id = same_Some hint.0 id (sym hint.2 ∙ came) in
          in_others m on top (λ own.
          let off = (reason_others t l m id trail is_true came stands (λ alone. other (sym alone ∙ own))).0 in
          none id (Contains-append_left s.hints (conflict ∷ []) id (subst (Contains s.hints) alike hint.1)) (subst (StandsIn t.clauses id) (is_point m off own) stands));
    }

    point_stands : (k : ℕ) × Contains all_hints k × StandsIn t.clauses k (negated at)
    point_stands = elim (standing_cases t.clauses (negated at) all_hints) [
      | inl found ↦ found
      | inr none ↦
          let q = (g.some high).scouted in
          let point : IsPoint t conflict at = record { is_true = q.point.point.is_true; present = q.point.point.present; set = others; closed = closed_others none } in
          absurd ((of_others at.variable (q.needed at.variable q.own at point)).2 refl)
    ]

  one_alike : (l m : Literal) → l ∷ [] ≡ m ∷ [] → l ≡ m
  one_alike l m h = cc

  point_hinted : (h : HasPoint t conflict points g.set b) → 1 ≤ t.level → IsHinted t all_hints (negated h.point)
  point_hinted h high = subst (λ (l : Literal). IsHinted t all_hints (negated l)) (one_alike (g.some high).point h.point (sym (g.some high).is ∙ h.is)) (point_stands high)

  -- a false literal whose variable was noted may stand in the clause
  noted_stands : (l : Literal) → value_of t.entries (negated l) ≡ Some true → marked b l.variable ≡ true → 1 ≤ t.level → MayStand t conflict all_hints l
  noted_stands l off on high =
      let q = g.some high in
      let n = q.scouted.noted l.variable on in
      let below = n.between.below in
      elim n.from [
        | inl stands ↦
            let is : n.literal ≡ l = false_alike n.literal l (conflict_false t n.literal conflict trail answer stands) off n.is in
            subst (MayStand t conflict all_hints) is record { above = n.between.above; below = n.between.below; stands = inl stands }
        | inr r ↦
            let x = r.0 in
            let present = r.2.present in
            let other : x.variable ≢ q.point.variable = λ same. let behind = r.2.behind in let at = ap (position_of t.entries) same in omega arith in
            let hint = taken_hint high x (found_done high x present.is_true (marked_contains g.set x.variable r.2.marked) other) in
            let same : hint.0 ≡ r.1 = same_Some hint.0 r.1 (sym hint.2 ∙ r.3) in
            let apart : n.literal.variable ≢ x.variable = λ own. let at = ap (λ (v : ℕ). level_in (entry_at v t.entries)) own in omega (arith, present.level) in
            let is : n.literal ≡ l = false_alike n.literal l (reason_others t x n.literal r.1 trail present.is_true r.3 r.4 apart).0 off n.is in
            subst (MayStand t conflict all_hints) is record {
              above = n.between.above;
              below = n.between.below;
              stands = inr (r.1, Contains-append_left s.hints (conflict ∷ []) r.1 (subst (Contains s.hints) same hint.1), (x, r.3, present.level), r.4);
            }
      ]

  between_high : (l : Literal) → IsBetween t l → 1 ≤ t.level
  between_high l between = let above = between.above in let below = between.below in omega arith

  kept_stands : (l : Literal) → IsKept t b l → MayStand t conflict all_hints l
  kept_stands l k = noted_stands l (false_negated t.entries l k.is_false) k.noted (between_high l k.between)

  -- a literal that may stand in the clause was noted
  hint_noted : (m : Literal) (id : ℕ) → IsBetween t m → Contains s.hints id → IsPresentReason t id → StandsIn t.clauses id m → marked b m.variable ≡ true
  hint_noted m id between hint present stands =
      let high = between_high m between in
      let q = g.some high in
      let x = present.0 in
      let x_true = reason_true t.entries x id present.1 in
      let r = All-contains (λ k. (y : Literal) × IsResolved t points b s y k) s.hints id g.hints hint in
      let reason = is_reason t x id trail x_true present.1 in
      let own : StandsIn t.clauses id x = (reason.lits, reason.named, reason.own) in
      let same : x.variable ≡ r.0.variable = elim (cases_eq x.variable r.0.variable) [
        | inl same ↦ same
        | inr other ↦
            let off = (reason_others t r.0 x id trail r.1.is_true r.1.reason own other).0 in
            let on = value_of-true t.entries x x_true in
            absurd (let e : Some false ≡ Some true = sym (false_again x off) ∙ on in cc)
      ] in
      let marked_here : marked s.marks x.variable ≡ true = ap (marked s.marks) same ∙ is_marked r.0 r.1.met in
      q.scouted.of_reason x m id (value_of-true t.entries x x_true) (g.found high x.variable marked_here present.2) (λ at_point. r.1.apart q.point q.is (sym same ∙ at_point)) present.1 stands between

  may_noted : (m : Literal) → MayStand t conflict all_hints m → marked b m.variable ≡ true
  may_noted m may =
      let between : IsBetween t m = record { above = may.above; below = may.below } in
      let of_conflict : StandsIn t.clauses conflict m → marked b m.variable ≡ true = λ stands. (g.some (between_high m between)).scouted.of_conflict m stands between in
      elim may.stands [
        | inl stands ↦ of_conflict stands
        | inr r ↦ elim (Contains-push_cases s.hints conflict r.0 r.1) [
          | inl hint ↦ hint_noted m r.0 between hint r.2 r.3
          | inr same ↦ of_conflict (subst (λ (id : ℕ). StandsIn t.clauses id m) (sym same) r.3)
        ]
      ]

  -- so one that was kept may not be left out
  kept_stays : (l : Literal) → IsKept t b l → MayBeLeftOut t conflict all_hints l → ⊥
  kept_stays l k out = k.stays out.reason out.came record {
    lits = out.lits;
    is = out.is;
    others = λ m there apart. elim (all_among (λ x. x ≢ negated l → MayStand t conflict all_hints x ⊎ IsFalseAtZero t.entries x) out.lits m out.others there (λ same. apart (ap (λ (x : Literal). x.variable) same))) [
      | inl may ↦ inl (may_noted m may)
      | inr zero ↦ inr zero
    ];
  }

  kept_hinted : (l : Literal) → IsKept t b l → IsHinted t all_hints l
  kept_hinted l k = elim (kept_stands l k).stands [
    | inl stands ↦ (conflict, Contains-push s.hints conflict, stands)
    | inr r ↦ (r.0, r.1, r.3)
  ]

  -- one that may be left out
  implied_left : (l : Literal) → 1 ≤ t.level → value_of t.entries (negated l) ≡ Some true → (k : ℕ) × (reason_of t.entries (negated l) ≡ Some k) × IsImplied t b (negated l) k → MayBeLeftOut t conflict all_hints l
  implied_left l high off r =
      let reason = is_reason t (negated l) r.0 trail (value-true t.entries (negated l) off) r.1 in
      let same : r.2.lits ≡ reason.lits = same_Some r.2.lits reason.lits (sym r.2.is ∙ reason.named) in
      record {
        reason = r.0;
        lits = reason.lits;
        came = r.1;
        is = reason.named;
        others = from_among (λ m. m ≢ negated l → MayStand t conflict all_hints m ⊎ IsFalseAtZero t.entries m) reason.lits (λ m there differ.
            let before = reason.others m there differ in
            let apart : m.variable ≢ l.variable = λ own. let at = ap (position_of t.entries) own in absurd (omega (arith, before.1)) in
            elim (r.2.others m (subst (λ (ls : List Literal). among ls m ≡ true) (sym same) there) apart) [
              | inl on ↦ inl (noted_stands m (value_of-true t.entries (negated m) before.0) on high)
              | inr zero ↦ inr zero
            ]);
      }

  of_marked : (l : Literal) → IsBetween t l → marked s.marks l.variable ≡ true → value_of t.entries (negated l) ≡ Some true → (among s.lits l ≡ true) ⊎ MayBeLeftOut t conflict all_hints l
  of_marked l between on off = elim (g.whole l on (false_again l off) between) [
    | inl there ↦ inl there
    | inr out ↦ inr (implied_left l (between_high l between) off out)
  ]

  of_conflict_there : (l : Literal) → IsBetween t l → StandsIn t.clauses conflict l → (among s.lits l ≡ true) ⊎ MayBeLeftOut t conflict all_hints l
  of_conflict_there l between stands = of_marked l between (is_marked l (g.of_conflict l stands)) (conflict_false t l conflict trail answer stands)

  of_hint_there : (l : Literal) (id : ℕ) → IsBetween t l → Contains s.hints id → IsPresentReason t id → StandsIn t.clauses id l → (among s.lits l ≡ true) ⊎ MayBeLeftOut t conflict all_hints l
  of_hint_there l id between hint present stands =
      let r = All-contains (λ k. (x : Literal) × IsResolved t points b s x k) s.hints id g.hints hint in
      let on : marked s.marks l.variable ≡ true = elim (cases_eq l.variable r.0.variable) [
        | inl own ↦ ap (marked s.marks) own ∙ is_marked r.0 r.1.met
        | inr other ↦ is_marked l (r.1.others l stands other)
      ] in
      let apart : l.variable ≢ present.0.variable = λ own. let at = ap (λ (v : ℕ). level_in (entry_at v t.entries)) own in let below = between.below in omega (arith, present.2) in
      of_marked l between on (reason_others t present.0 l id trail (value_of-true t.entries present.0 (reason_true t.entries present.0 id present.1)) present.1 stands apart).0

  all_there : (l : Literal) → MayStand t conflict all_hints l → (among s.lits l ≡ true) ⊎ MayBeLeftOut t conflict all_hints l
  all_there l may =
      let between : IsBetween t l = record { above = may.above; below = may.below } in
      elim may.stands [
        | inl stands ↦ of_conflict_there l between stands
        | inr r ↦ elim (Contains-push_cases s.hints conflict r.0 r.1) [
          | inl hint ↦ of_hint_there l r.0 between hint r.2 r.3
          | inr same ↦ of_conflict_there l between (subst (λ (id : ℕ). StandsIn t.clauses id l) (sym same) r.3)
        ]
      ]

  ends_asserts : 1 ≤ t.level → Asserts t s.lits s.level
  ends_asserts high =
      let p = g.some high in
      record {
        first = negated p.point;
        others = g.kept;
        is = g.lits ∙ ap (λ (ps : List Literal). map negated ps ++ g.kept) p.is;
        present = p.scouted.point.point.present;
        below = All-weaker (IsKept t b) (λ l. level_at t.entries l < t.level) (λ l k. k.between.below) g.kept g.each;
        greatest = g.level;
      }

  ends_at_zero : t.level ≡ 0 → (s.lits ≡ []) × (s.level ≡ 0)
  ends_at_zero low =
      let none = kept_none t b g.kept low g.each in
      (g.lits ∙ ap (λ (ps : List Literal). map negated ps ++ g.kept) (g.none low) ∙ none, g.level ∙ ap (greatest_level t.entries) none)

  ends_here : Gathered t conflict points s.lits all_hints s.level
  ends_here = record {
    falsified = lits_all (λ l. value_of t.entries l ≡ Some false) (λ h _. true_negated t.entries h.point (trail_once t trail) h.scouted.point.point.is_true) (λ l k. k.is_false);
    apart = g.apart;
    above_zero = lits_all (λ l. 1 ≤ level_at t.entries l) (λ h high. omega (arith, h.scouted.point.point.present)) (λ l k. k.between.above);
    at_zero = ends_at_zero;
    asserts = ends_asserts;
    others = lits_all (λ l. level_at t.entries l < t.level → MayStand t conflict all_hints l) (λ h _ below. absurd (omega (arith, h.scouted.point.point.present))) (λ l k _. kept_stands l k);
    left_out = all_there;
    minimal = lits_all (λ l. level_at t.entries l < t.level → MayBeLeftOut t conflict all_hints l → ⊥) (λ h _ below. absurd (omega (arith, h.scouted.point.point.present))) (λ l k _. kept_stays l k);
    hinted = lits_all (IsHinted t all_hints) point_hinted kept_hinted;
    points_first = (g.kept, g.lits);
  }

pub gathering_ends : (t : TrailState) (conflict : ℕ) (points : List Literal) (b : List ℕ) (s : Searched) → IsTrail t → t.answer ≡ Some (Conflict conflict) → IsGathering t conflict points b s → s.tasks ≡ [] → Gathered t conflict points s.lits (s.hints ++ conflict ∷ []) s.level
gathering_ends t conflict points b s trail answer g over = ends_here t conflict points b s trail answer g over

-- the variables of the hinted clauses were met
module _ (t : TrailState) (conflict : ℕ) (points : List Literal) (b : List ℕ) (s : Searched) (g : IsGathering t conflict points b s) (over : s.tasks ≡ []) where
  now_marked : (l : Literal) → IsMet s l → marked s.marks l.variable ≡ true
  now_marked l h = elim h [
    | inl on ↦ on
    | inr there ↦ absurd (let none : Contains [] (Visit (negated l)) = subst (λ (ts : List Task). Contains ts (Visit (negated l))) over there in omega (arith, none.1))
  ]

  resolved_marked : (id : ℕ) (x l : Literal) → IsResolved t points b s x id → StandsIn t.clauses id l → marked s.marks l.variable ≡ true
  resolved_marked id x l r stands = elim (cases_eq l.variable x.variable) [
    | inl own ↦ ap (marked s.marks) own ∙ now_marked x r.met
    | inr other ↦ now_marked l (r.others l stands other)
  ]

  pub hinted_marked : (id : ℕ) (l : Literal) → Contains (s.hints ++ conflict ∷ []) id → StandsIn t.clauses id l → marked s.marks l.variable ≡ true
  hinted_marked id l there stands = elim (Contains-push_cases s.hints conflict id there) [
    | inl hint ↦ let r = All-contains (λ k. (x : Literal) × IsResolved t points b s x k) s.hints id g.hints hint in resolved_marked id r.0 l r.1 stands
    | inr last ↦ now_marked l (g.of_conflict l (subst (λ k. StandsIn t.clauses k l) (sym last) stands))
  ]
