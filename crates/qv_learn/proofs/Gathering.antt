-- What one turn of a search leaves of the clause that it gathers.
use Rattle.std.proofs.Common.{◌≡◌, ◌≢◌, ℕ, ◌≤◌, true, false, List, [], ◌∷◌, ◌++◌, map, max, Option, Some, None, All, eqb, refl, sym, ◌∙◌, ap, subst, arith, inl, inr, ◌⊎◌}
use Rattle.std.specs.List.{list_any}
use Rattle.std.specs.Prelude.{Contains, IsSome}
use Rattle.std.proofs.lemmas.Bool.{cases_eq, eq-eqb, eqb-true, or_cases, or_left, or_right, false≢true}
use Rattle.std.proofs.lemmas.List.{append_assoc}
use Rattle.std.proofs.lemmas.List.Elements.{All-append, All-cons, All-head, All-push, All-tail, All-weaker, Contains-append_left, Contains-append_right, Contains-push}
use Rattle.std.proofs.lemmas.List.Quantifiers.{all_pairs_push}
use Rattle.std.proofs.lemmas.Option.{same_Some}
use Rattle.qv_cnf.specs.Listing.{clause_named}
use Rattle.qv_cnf.specs.Literal.{Literal, negated}
use Rattle.qv_cnf.specs.Refutation.{among}
use Rattle.qv_learn.proofs.Clauses.{among-push_new, among-push_old}
use Rattle.qv_learn.proofs.Contained.{Contains-cons_cases, Contains-head, Contains-tail}
use Rattle.qv_learn.proofs.Trails.{true_alike}
use Rattle.qv_learn.proofs.Truths.{false_negated, level_most, reason_at_zero, reason_others, trail_once, true_negated}
use Rattle.qv_learn.specs.Frontiers.{HasPoint, IsBetween}
use Rattle.qv_learn.specs.Gathering.{IsDone, IsGathering, IsKept, IsMet, IsResolved, IsTaken, IsTask, IsToVisit}
use Rattle.qv_learn.specs.Learning.{greatest_level, level_at, level_in, StandsIn}
use Rattle.qv_learn.specs.Marking.{marked, MarksOne}
use Rattle.qv_learn.specs.Searching.{keeps, leaves, opens, passes, AreVisits, IsAntecedent, IsExtreme, IsImplied, Searched, Turns}
use Rattle.qv_learn.specs.declared.search.Task.{Task}
use Rattle.qv_learn.specs.declared.search.Task.TheVariants.{Visit, Leave}
use Rattle.qv_watch.specs.Entries.{entry_at, reason_of, value_of}
use Rattle.qv_watch.specs.TrailState.{IsTrail, TrailState}
use Rattle.qv_watch.proofs.Resting.{twice_negated, value-true}

-- tasks that are equal
same_visit : (l m : Literal) → Visit l ≡ Visit m → l ≡ m
same_visit l m h = cc

same_leave : (l m : Literal) → Leave l ≡ Leave m → l ≡ m
same_leave l m h = cc

visit_leave : (l m : Literal) → Visit l ≡ Leave m → ⊥
visit_leave l m h = cc

-- a search went on: what was taken still is, and what was met
record GoesOn (t : TrailState) (old new : Searched) : Type 0 where
  taken : (id : ℕ) → IsTaken t old id → IsTaken t new id
  met : (l : Literal) → IsMet old l → IsMet new l

resolved_on : (t : TrailState) (points : List Literal) (b : List ℕ) (old new : Searched) (l : Literal) (id : ℕ) → GoesOn t old new → IsResolved t points b old l id → IsResolved t points b new l id
resolved_on t points b old new l id on r = record { is_true = r.is_true; met = on.met l r.met; reason = r.reason; apart = r.apart; may = r.may; others = λ m stands other. on.met m (r.others m stands other) }

done_on : (t : TrailState) (points : List Literal) (b : List ℕ) (old new : Searched) (l : Literal) → GoesOn t old new → IsDone t points b old l → IsDone t points b new l
done_on t points b old new l on d = record { reason = d.reason; taken = on.taken d.reason d.taken; resolved = resolved_on t points b old new l d.reason on d.resolved }

task_on : (t : TrailState) (points : List Literal) (set b : List ℕ) (old new : Searched) → GoesOn t old new → (task : Task) → IsTask t points set b old task → IsTask t points set b new task
task_on t points set b old new on (Visit l) v = v
task_on t points set b old new on (Leave l) r = (r.0, resolved_on t points b old new l r.0 on r.1)

-- the points' variables were met
one_met : (t : TrailState) (conflict : ℕ) (points : List Literal) (b : List ℕ) (s : Searched) (g : IsGathering t conflict points b s) (u : Literal) → points ≡ u ∷ [] → marked s.marks u.variable ≡ true
one_met t conflict points b s g u is =
    let lits : s.lits ≡ negated u ∷ g.kept = g.lits ∙ ap (λ (ps : List Literal). map negated ps ++ g.kept) is in
    All-head (λ l. marked s.marks l.variable ≡ true) (negated u) g.kept (subst (All (λ l. marked s.marks l.variable ≡ true)) lits g.met)

point_met : (t : TrailState) (conflict : ℕ) (points : List Literal) (b : List ℕ) (s : Searched) (g : IsGathering t conflict points b s) (h : HasPoint t conflict points g.set b) → marked s.marks h.point.variable ≡ true
point_met t conflict points b s g h = one_met t conflict points b s g h.point h.is

has_antecedent : (t : TrailState) (conflict : ℕ) (points : List Literal) (b : List ℕ) (s : Searched) (l : Literal) → IsTrail t → (g : IsGathering t conflict points b s) → IsToVisit t g.set b l → marked s.marks l.variable ≡ false → IsExtreme t l → IsSome (reason_of t.entries l)
has_antecedent t conflict points b s l trail g v off extreme = elim (cases_eq (level_at t.entries l) 0) [
  | inl low ↦ reason_at_zero t l trail v.is_true low
  | inr above ↦ elim extreme [
    | inl low ↦ absurd (above low)
    | inr top ↦
        let high : 1 ≤ t.level = omega arith in
        let p = g.some high in
        p.scouted.closed.has_reason l v.is_true (v.present high top) (λ same. false≢true (sym off ∙ ap (marked s.marks) same ∙ point_met t conflict points b s g p))
  ]
]

of_some : (o : Option ℕ) → IsSome o → (id : ℕ) × (o ≡ Some id)
of_some None h = absurd (false≢true h)
of_some (Some id) h = (id, refl)

-- each hint and each task still is what it was
module _ (t : TrailState) (conflict : ℕ) (points : List Literal) (b : List ℕ) (old new : Searched) (g : IsGathering t conflict points b old) (on : GoesOn t old new) where
  hints_on : All (λ id. (l : Literal) × IsResolved t points b new l id) old.hints
  hints_on = All-weaker (λ id. (l : Literal) × IsResolved t points b old l id) (λ id. (l : Literal) × IsResolved t points b new l id) (λ id r. (r.0, resolved_on t points b old new r.0 id on r.1)) old.hints g.hints

  tasks_on : (tasks : List Task) → All (IsTask t points g.set b old) tasks → All (IsTask t points g.set b new) tasks
  tasks_on tasks all = All-weaker (IsTask t points g.set b old) (IsTask t points g.set b new) (task_on t points g.set b old new on) tasks all

  was_done : (l : Literal) → value_of t.entries l ≡ Some true → marked old.marks l.variable ≡ true → level_at t.entries l ≡ t.level → list_any (λ u. eqb u.variable l.variable) points ≡ false → IsDone t points b new l
  was_done l is_true on_mark present none = done_on t points b old new l on (g.done l is_true on_mark present none)

-- a literal of level 0 or the present level isn't of a level between
not_between : (t : TrailState) (l m : Literal) → IsExtreme t l → l.variable ≡ m.variable → IsBetween t m → ⊥
not_between t l m extreme same between =
    let level : level_at t.entries l ≡ level_at t.entries m = ap (λ (v : ℕ). level_in (entry_at v t.entries)) same in
    let above = between.above in
    let below = between.below in
    elim extreme [ inl low ↦ omega arith | inr top ↦ omega arith ]

greatest_level-push : (t : TrailState) (ls : List Literal) (l : Literal) → greatest_level t.entries (ls ++ l ∷ []) ≡ max (greatest_level t.entries ls) (level_at t.entries l)
greatest_level-push t [] l = omega arith
greatest_level-push t (x ∷ xs) l =
    let rest = greatest_level-push t xs l in
    omega arith

-- a visit
module _ (t : TrailState) (conflict : ℕ) (points : List Literal) (b : List ℕ) (old : Searched) (l : Literal) (rest : List Task) (trail : IsTrail t) (g : IsGathering t conflict points b old) (first : old.tasks ≡ Visit l ∷ rest) where
  visited : IsToVisit t g.set b l
  visited = All-head (IsTask t points g.set b old) (Visit l) rest (subst (All (IsTask t points g.set b old)) first g.tasks)

  others : All (IsTask t points g.set b old) rest
  others = All-tail (IsTask t points g.set b old) (Visit l) rest (subst (All (IsTask t points g.set b old)) first g.tasks)

  leave_later : (x : Literal) → Contains old.tasks (Leave x) → Contains rest (Leave x)
  leave_later x there = elim (Contains-cons_cases (Visit l) rest (Leave x) (subst (λ (ts : List Task). Contains ts (Leave x)) first there)) [
    | inl same ↦ absurd (visit_leave l x same)
    | inr later ↦ later
  ]

  visit_later : (m : Literal) → Contains old.tasks (Visit (negated m)) → (l.variable ≡ m.variable) ⊎ Contains rest (Visit (negated m))
  visit_later m there = elim (Contains-cons_cases (Visit l) rest (Visit (negated m)) (subst (λ (ts : List Task). Contains ts (Visit (negated m))) first there)) [
    | inl same ↦ inl (ap (λ (x : Literal). x.variable) (same_visit l (negated m) same))
    | inr later ↦ inr later
  ]

  visit_on : (new : Searched) → ((id : ℕ) → Contains old.hints id → Contains new.hints id) → ((task : Task) → Contains rest task → Contains new.tasks task) → ((v : ℕ) → marked old.marks v ≡ true → marked new.marks v ≡ true) → marked new.marks l.variable ≡ true → GoesOn t old new
  visit_on new hints tasks marks own = record {
    taken = λ id h. elim h [
      | inl hint ↦ inl (hints id hint)
      | inr r ↦ inr (r.0, tasks (Leave r.0) (leave_later r.0 r.1), r.2)
    ];
    met = λ m h. elim h [
      | inl before ↦ inl (marks m.variable before)
      | inr there ↦ elim (visit_later m there) [
        | inl same ↦ inl (subst (λ (v : ℕ). marked new.marks v ≡ true) same own)
        | inr later ↦ inr (tasks (Visit (negated m)) later)
      ]
    ];
  }

  gathering_passes : marked old.marks l.variable ≡ true → IsGathering t conflict points b (record old { tasks = rest })
  gathering_passes own =
      let new : Searched = record old { tasks = rest } in
      let on : GoesOn t old new = visit_on new (λ _ h. h) (λ _ h. h) (λ _ h. h) own in
      record {
        set = g.set;
        none = g.none;
        some = g.some;
        kept = g.kept;
        lits = g.lits;
        each = g.each;
        level = g.level;
        apart = g.apart;
        met = g.met;
        found = g.found;
        tasks = tasks_on t conflict points b old new g on rest others;
        hints = hints_on t conflict points b old new g on;
        of_conflict = λ m stands. on.met m (g.of_conflict m stands);
        whole = g.whole;
        done = was_done t conflict points b old new g on;
      }

  module _ (marks : List ℕ) (off : marked old.marks l.variable ≡ false) (one : MarksOne old.marks l.variable marks) where
    still_met : (v : ℕ) → marked old.marks v ≡ true → marked marks v ≡ true
    still_met v h = one v ∙ or_left (marked old.marks v) (eqb l.variable v) h

    now_met : marked marks l.variable ≡ true
    now_met = one l.variable ∙ or_right (marked old.marks l.variable) (eqb l.variable l.variable) (eq-eqb l.variable l.variable refl)

    met_cases : (v : ℕ) → marked marks v ≡ true → (marked old.marks v ≡ true) ⊎ (l.variable ≡ v)
    met_cases v h = elim (or_cases (marked old.marks v) (eqb l.variable v) (sym (one v) ∙ h)) [ inl before ↦ inl before | inr same ↦ inr (eqb-true l.variable v same) ]

    -- a true literal of its variable is it
    own_true : (m : Literal) → value_of t.entries m ≡ Some true → l.variable ≡ m.variable → l ≡ m
    own_true m is_true same = true_alike t.entries l m (trail_once t trail) (value-true t.entries l visited.is_true) (value-true t.entries m is_true) same

    -- a false one is its negation
    own_false : (m : Literal) → value_of t.entries m ≡ Some false → l.variable ≡ m.variable → l ≡ negated m
    own_false m is_false same = own_true (negated m) (false_negated t.entries m is_false) same

    -- it is of the set where it is of the present level
    found_more : 1 ≤ t.level → (v : ℕ) → marked marks v ≡ true → level_in (entry_at v t.entries) ≡ t.level → Contains g.set v
    found_more high v h top = elim (met_cases v h) [
      | inl before ↦ g.found high v before top
      | inr same ↦ subst (Contains g.set) same (visited.present high (ap (λ (w : ℕ). level_in (entry_at w t.entries)) same ∙ top))
    ]

    -- it is kept
    module _ (none : IsAntecedent t b l None) where
      not_extreme : IsExtreme t l → ⊥
      not_extreme extreme =
          let some = of_some (reason_of t.entries l) (has_antecedent t conflict points b old l trail g visited off extreme) in
          (none some.0 some.1).0 extreme

      kept_between : IsBetween t l
      kept_between =
          let most = level_most t l trail visited.is_true in
          let low : level_at t.entries l ≢ 0 = λ is. not_extreme (inl is) in
          let top : level_at t.entries l ≢ t.level = λ is. not_extreme (inr is) in
          record { above = omega arith; below = omega arith }

      gathering_keeps : IsGathering t conflict points b (record old { tasks = rest; marks = marks; lits = old.lits ++ negated l ∷ []; level = max old.level (level_at t.entries l) })
      gathering_keeps =
          let new : Searched = record old { tasks = rest; marks = marks; lits = old.lits ++ negated l ∷ []; level = max old.level (level_at t.entries l) } in
          let on : GoesOn t old new = visit_on new (λ _ h. h) (λ _ h. h) still_met now_met in
          let own : IsKept t b (negated l) = record {
            is_false = true_negated t.entries l (trail_once t trail) visited.is_true;
            between = record { above = kept_between.above; below = kept_between.below };
            noted = visited.noted kept_between;
            stays = λ id came implied. (none id (sym (ap (reason_of t.entries) (twice_negated l)) ∙ came)).1 (subst (λ (x : Literal). IsImplied t b x id) (twice_negated l) implied);
          } in
          record {
            set = g.set;
            none = g.none;
            some = g.some;
            kept = g.kept ++ negated l ∷ [];
            lits = ap (λ (ls : List Literal). ls ++ negated l ∷ []) g.lits ∙ append_assoc (map negated points) g.kept (negated l ∷ []);
            each = All-push (IsKept t b) g.kept (negated l) g.each own;
            level = ap (λ (n : ℕ). max n (level_at t.entries l)) g.level ∙ sym (greatest_level-push t g.kept (negated l));
            apart = all_pairs_push (λ x y. x.variable ≢ y.variable) old.lits (negated l) g.apart (λ k d less same. false≢true (sym off ∙ ap (marked old.marks) (sym same) ∙ g.met k d less));
            found = found_more;
            met = All-push (λ m. marked marks m.variable ≡ true) old.lits (negated l) (All-weaker (λ m. marked old.marks m.variable ≡ true) (λ m. marked marks m.variable ≡ true) (λ m h. still_met m.variable h) old.lits g.met) now_met;
            tasks = tasks_on t conflict points b old new g on rest others;
            hints = hints_on t conflict points b old new g on;
            of_conflict = λ m stands. on.met m (g.of_conflict m stands);
            whole = λ m h is_false between. elim (met_cases m.variable h) [
              | inl before ↦ elim (g.whole m before is_false between) [ inl there ↦ inl (among-push_old old.lits (negated l) m there) | inr out ↦ inr out ]
              | inr same ↦ inl (subst (λ (x : Literal). among (old.lits ++ negated l ∷ []) x ≡ true) (ap negated (own_false m is_false same) ∙ twice_negated m) (among-push_new old.lits (negated l)))
            ];
            done = λ m is_true h present apart. elim (met_cases m.variable h) [
              | inl before ↦ was_done t conflict points b old new g on m is_true before present apart
              | inr same ↦ absurd (not_extreme (inr (ap (λ (v : ℕ). level_in (entry_at v t.entries)) same ∙ present)))
            ];
          }

    -- it is resolved
    module _ (id : ℕ) (lits : List Literal) (visits : List Task) (came : IsAntecedent t b l (Some id)) (named : clause_named id t.clauses ≡ Some lits) (vs : AreVisits l.variable lits visits) where
      abbrev opened : Searched
      opened = record old { tasks = visits ++ Leave l ∷ rest; marks = marks }

      opens_on : GoesOn t old opened
      opens_on = visit_on opened (λ _ h. h) (λ task there. Contains-append_right visits (Leave l ∷ rest) task (Contains-tail (Leave l) rest task there)) still_met now_met

      reason : reason_of t.entries l ≡ Some id
      reason = came.0

      -- another literal of the reason, of the present level
      of_present : (m : Literal) → StandsIn t.clauses id m → m.variable ≢ l.variable → 1 ≤ t.level → level_at t.entries m ≡ t.level → Contains g.set m.variable
      of_present m stands other high top =
          let p = g.some high in
          let o = reason_others t l m id trail visited.is_true reason stands other in
          let most = level_most t l trail visited.is_true in
          p.scouted.closed.of_reason l m id visited.is_true (visited.present high (omega (arith, o.1))) (λ same. false≢true (sym off ∙ ap (marked old.marks) same ∙ point_met t conflict points b old g p)) reason stands top

      -- of a level between
      of_between : (m : Literal) → among lits m ≡ true → m.variable ≢ l.variable → IsBetween t m → marked b m.variable ≡ true
      of_between m there other between =
          let stands : StandsIn t.clauses id m = (lits, named, there) in
          let o = reason_others t l m id trail visited.is_true reason stands other in
          let above = between.above in
          let below = between.below in
          elim came.1 [
            | inl extreme ↦
                let high : 1 ≤ t.level = omega arith in
                let p = g.some high in
                let top : level_at t.entries l ≡ t.level = elim extreme [ inl low ↦ absurd (omega (arith, o.1)) | inr top ↦ top ] in
                p.scouted.of_reason l m id visited.is_true (visited.present high top) (λ same. false≢true (sym off ∙ ap (marked old.marks) same ∙ point_met t conflict points b old g p)) reason stands between
            | inr implied ↦
                let same : implied.lits ≡ lits = same_Some implied.lits lits (sym implied.is ∙ named) in
                elim (implied.others m (subst (λ (ls : List Literal). among ls m ≡ true) (sym same) there) other) [
                  | inl noted ↦ noted
                  | inr zero ↦ absurd (let low = zero.1 in omega arith)
                ]
          ]

      visit_of : (m : Literal) → among lits m ≡ true → m.variable ≢ l.variable → IsToVisit t g.set b (negated m)
      visit_of m there other =
          let stands : StandsIn t.clauses id m = (lits, named, there) in
          record {
            is_true = (reason_others t l m id trail visited.is_true reason stands other).0;
            present = λ high top. of_present m stands other high top;
            noted = λ between. of_between m there other record { above = between.above; below = between.below };
          }

      now_resolved : IsResolved t points b opened l id
      now_resolved = record {
        is_true = visited.is_true;
        met = inl now_met;
        reason = reason;
        apart = λ u is same. false≢true (sym off ∙ ap (marked old.marks) same ∙ one_met t conflict points b old g u is);
        may = came.1;
        others = λ m stands other.
            let same : stands.0 ≡ lits = same_Some stands.0 lits (sym stands.1 ∙ named) in
            let there : among lits m ≡ true = subst (λ (ls : List Literal). among ls m ≡ true) same stands.2 in
            inr (Contains-append_left visits (Leave l ∷ rest) (Visit (negated m)) (vs.whole m there other));
      }

      now_done : IsDone t points b opened l
      now_done = record { reason = id; taken = inr (l, Contains-append_right visits (Leave l ∷ rest) (Leave l) (Contains-head (Leave l) rest), reason); resolved = now_resolved }

      opened_tasks : All (IsTask t points g.set b opened) (visits ++ Leave l ∷ rest)
      opened_tasks =
          let each = All-weaker (λ task. (m : Literal) × (task ≡ Visit (negated m)) × (among lits m ≡ true) × (m.variable ≢ l.variable)) (IsTask t points g.set b opened) (λ task v. subst (IsTask t points g.set b opened) (sym v.1) (visit_of v.0 v.2 v.3)) visits vs.each in
          All-append (IsTask t points g.set b opened) visits (Leave l ∷ rest) each (All-cons (IsTask t points g.set b opened) (Leave l) rest (id, now_resolved) (tasks_on t conflict points b old opened g opens_on rest others))

      -- where it is of a level between, it may be left out
      left_out : (m : Literal) → value_of t.entries m ≡ Some false → l.variable ≡ m.variable → IsBetween t m → (k : ℕ) × (reason_of t.entries (negated m) ≡ Some k) × IsImplied t b (negated m) k
      left_out m is_false same between = elim came.1 [
        | inl extreme ↦ absurd (not_between t l m extreme same between)
        | inr implied ↦ let is = own_false m is_false same in (id, sym (ap (reason_of t.entries) is) ∙ reason, subst (λ (x : Literal). IsImplied t b x id) is implied)
      ]

      gathering_opens : IsGathering t conflict points b opened
      gathering_opens = record {
        set = g.set;
        none = g.none;
        some = g.some;
        kept = g.kept;
        lits = g.lits;
        each = g.each;
        level = g.level;
        apart = g.apart;
        met = All-weaker (λ m. marked old.marks m.variable ≡ true) (λ m. marked marks m.variable ≡ true) (λ m h. still_met m.variable h) old.lits g.met;
        found = found_more;
        tasks = opened_tasks;
        hints = hints_on t conflict points b old opened g opens_on;
        of_conflict = λ m stands. opens_on.met m (g.of_conflict m stands);
        whole = λ m h is_false between. elim (met_cases m.variable h) [
          | inl before ↦ g.whole m before is_false between
          | inr same ↦ inr (left_out m is_false same between)
        ];
        done = λ m is_true h present apart. elim (met_cases m.variable h) [
          | inl before ↦ was_done t conflict points b old opened g opens_on m is_true before present apart
          | inr same ↦ subst (IsDone t points b opened) (own_true m is_true same) now_done
        ];
      }

-- a literal is left
module _ (t : TrailState) (conflict : ℕ) (points : List Literal) (b : List ℕ) (old : Searched) (l : Literal) (rest : List Task) (id : ℕ) (g : IsGathering t conflict points b old) (first : old.tasks ≡ Leave l ∷ rest) (reason : reason_of t.entries l ≡ Some id) where
  abbrev left : Searched
  left = record old { tasks = rest; hints = old.hints ++ id ∷ [] }

  rest_taken : (k : ℕ) (x : Literal) → Contains old.tasks (Leave x) → reason_of t.entries x ≡ Some k → IsTaken t left k
  rest_taken k x there is = elim (Contains-cons_cases (Leave l) rest (Leave x) (subst (λ (ts : List Task). Contains ts (Leave x)) first there)) [
    | inl same ↦
        let alike : id ≡ k = same_Some id k (sym reason ∙ ap (reason_of t.entries) (same_leave l x same) ∙ is) in
        inl (subst (Contains (old.hints ++ id ∷ [])) alike (Contains-push old.hints id))
    | inr later ↦ inr (x, later, is)
  ]

  rest_met : (m : Literal) → Contains old.tasks (Visit (negated m)) → Contains rest (Visit (negated m))
  rest_met m there = elim (Contains-cons_cases (Leave l) rest (Visit (negated m)) (subst (λ (ts : List Task). Contains ts (Visit (negated m))) first there)) [
    | inl same ↦ absurd (visit_leave (negated m) l (sym same))
    | inr later ↦ later
  ]

  leaves_on : GoesOn t old left
  leaves_on = record {
    taken = λ k h. elim h [ inl hint ↦ inl (Contains-append_left old.hints (id ∷ []) k hint) | inr r ↦ rest_taken k r.0 r.1 r.2 ];
    met = λ m h. elim h [ inl before ↦ inl before | inr there ↦ inr (rest_met m there) ];
  }

  all_tasks : All (IsTask t points g.set b old) (Leave l ∷ rest)
  all_tasks = subst (All (IsTask t points g.set b old)) first g.tasks

  was_resolved : IsResolved t points b left l id
  was_resolved =
      let r = All-head (IsTask t points g.set b old) (Leave l) rest all_tasks in
      let same : r.0 ≡ id = same_Some r.0 id (sym r.1.reason ∙ reason) in
      subst (IsResolved t points b left l) same (resolved_on t points b old left l r.0 leaves_on r.1)

  gathering_leaves : IsGathering t conflict points b left
  gathering_leaves = record {
    set = g.set;
    none = g.none;
    some = g.some;
    kept = g.kept;
    lits = g.lits;
    each = g.each;
    level = g.level;
    apart = g.apart;
    met = g.met;
    found = g.found;
    tasks = tasks_on t conflict points b old left g leaves_on rest (All-tail (IsTask t points g.set b old) (Leave l) rest all_tasks);
    hints = All-push (λ k. (x : Literal) × IsResolved t points b left x k) old.hints id (hints_on t conflict points b old left g leaves_on) (l, was_resolved);
    of_conflict = λ m stands. leaves_on.met m (g.of_conflict m stands);
    whole = g.whole;
    done = was_done t conflict points b old left g leaves_on;
  }

-- after each turn
pub gathering_turns : (t : TrailState) (conflict : ℕ) (points : List Literal) (b : List ℕ) (old new : Searched) → IsTrail t → IsGathering t conflict points b old → Turns t b old new → IsGathering t conflict points b new
gathering_turns t conflict points b old new trail g (passes l rest first met same) = subst (IsGathering t conflict points b) (sym same) (gathering_passes t conflict points b old l rest trail g first met)
gathering_turns t conflict points b old new trail g (keeps l rest first off none one same) = subst (IsGathering t conflict points b) (sym same) (gathering_keeps t conflict points b old l rest trail g first new.marks off one none)
gathering_turns t conflict points b old new trail g (opens l rest visits id lits first off came named vs one same) = subst (IsGathering t conflict points b) (sym same) (gathering_opens t conflict points b old l rest trail g first new.marks off one id lits visits came named vs)
gathering_turns t conflict points b old new trail g (leaves l rest id first reason same) = subst (IsGathering t conflict points b) (sym same) (gathering_leaves t conflict points b old l rest id g first reason)
